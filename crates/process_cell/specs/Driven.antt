-- What a run's answer says.
use Rattle.std.specs.Prelude.{◌≡◌, ◌≢◌, ◌<◌, Bool, []}
use Rattle.run_types.specs.declared.launch.Launch.{Launch}
use Rattle.kernel_model.specs.Ends.{NoneLive, SomeLive}
use Rattle.kernel_model.specs.Wakes.{IsStalled}
use Rattle.run_model.specs.Ends.{Stalled}
use Rattle.kernel_cell.specs.Cell.{IsBookOf}
use Rattle.kernel_cell.specs.declared.cell.Book.{Book}
use Rattle.process_cell.specs.declared.workers.Driven.{Driven}
use Rattle.process_cell.specs.declared.workers.Driven.TheVariants as driven

-- The book is of a run of the launch; in a run that ended no process is live, one that stalled is stalled after its history, and one
-- for which memory ran out is neither, and has an entry, or none where that was before the first.
abbrev pub IsDriven : Launch → Bool → Driven → Type 0
IsDriven launch all (driven.Ended book) = IsBookOf launch all book × NoneLive book.kernel
IsDriven launch all (driven.Stalled book) = IsBookOf launch all book × Stalled launch book.history
IsDriven launch all (driven.Lacking book) =
    IsBookOf launch all book × (book.history ≢ []) × SomeLive book.kernel × ¬ Stalled launch book.history
IsDriven launch all (driven.NotBegun book) =
    IsBookOf launch all book × (book.history ≡ []) × SomeLive book.kernel × ¬ Stalled launch book.history

-- how a run came out by its book alone
abbrev pub ComesOut : Book → Driven → Type 0
ComesOut book (driven.Ended b) = (b ≡ book) × NoneLive book.kernel
ComesOut book (driven.Stalled b) = (b ≡ book) × IsStalled book.launch.constants book.kernel
ComesOut book (driven.Lacking b) =
    (b ≡ book) × SomeLive book.kernel × ¬ IsStalled book.launch.constants book.kernel × (0 < book.kernel.clock)
ComesOut book (driven.NotBegun b) =
    (b ≡ book) × SomeLive book.kernel × ¬ IsStalled book.launch.constants book.kernel × (book.kernel.clock ≡ 0)
