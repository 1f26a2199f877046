-- How a run came to its end, and what was written of it then.
use Rattle.std.specs.Prelude.{◌≡◌, ◌≢◌, ◌⊎◌, ℕ, Bool, List, []}
use Rattle.std.specs.FinMap.{get}
use Rattle.kernel_cell.specs.declared.cell.Book.{Book}
use Rattle.kernel_cell.specs.declared.record.Record.{Record}
use Rattle.shared_history.specs.Kept.{IsKeptOf}
use Rattle.run_types.specs.declared.history.Entry.{Entry}
use Rattle.run_types.specs.declared.launch.Launch.{Launch}
use Rattle.kernel_model.specs.Ends.{NoneLive}
use Rattle.run_model.specs.Ends.{Ended, Stalled}
use Rattle.run_model.specs.Legal.{Legal}
use Rattle.book_report.specs.Growth.{Growth, FaultsRose, WroteNothing, WrotePrefix, WroteWhole}
use Rattle.book_report.specs.Shown.{recorded, state_of}
use Rattle.book_report.specs.declared.ends.Ending.{Ending}
use Rattle.book_report.specs.declared.ends.Ending.TheVariants as ending
use Rattle.book_report.specs.declared.ends.RunEnd.{RunEnd}
use Rattle.book_report.specs.declared.ends.RunEnd.TheVariants.{Reported, StallReported, Unwritten, NotBegun, Lacking}

-- the run of the book is over so
abbrev pub IsOverSo : Ending → Book → Type 0
IsOverSo ending.Ended book = NoneLive book.kernel
IsOverSo ending.Stalled book = Stalled book.launch book.history

-- the end of a run that is over so, and of which a text was written
abbrev pub reported_end : Ending → Book → RunEnd
reported_end ending.Ended book = Reported (recorded book) (get book.kernel.statuses 0)
reported_end ending.Stalled book = StallReported (recorded book)

-- the run is over: it has ended, or it is stalled
abbrev pub IsOver : Launch → List Entry → Type 0
IsOver launch history = Ended launch history ⊎ Stalled launch history

-- A record of a run of the launch: its history is legal, and in memory are its denied calls, and its entries or none of them.
pub record IsRecordOf (launch : Launch) (all : Bool) (r : Record) : Type 0 where
  pub launch_is : r.launch ≡ launch
  pub legal : Legal r.launch r.history
  pub kept_is : IsKeptOf all r.history r.kept

-- How a run of the launch came to its end, and what the sink did. The text, such as the report, is of the record of a run that is over, and was
-- written whole, or a prefix of it where the sink failed; where memory ran out, nothing was written of it, and a run that began has an entry.
abbrev pub IsEndOf : Launch → Bool → (Record → List ℕ) → Growth → RunEnd → Type 0
IsEndOf launch all text growth (Reported r status) =
    IsRecordOf launch all r × Ended r.launch r.history × (status ≡ get (state_of r).statuses 0) × WroteWhole growth (text r)
IsEndOf launch all text growth (StallReported r) = IsRecordOf launch all r × Stalled r.launch r.history × WroteWhole growth (text r)
IsEndOf launch all text growth (Unwritten r) =
    IsRecordOf launch all r × IsOver r.launch r.history × FaultsRose growth × WrotePrefix growth (text r)
IsEndOf launch all text growth NotBegun = WroteNothing growth
IsEndOf launch all text growth (Lacking r) = IsRecordOf launch all r × (r.history ≢ []) × WroteNothing growth
