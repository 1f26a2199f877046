-- What contracts see of a process.
use Rattle.std.specs.Prelude.{ℕ, List}
use Rattle.run_types.specs.declared.history.Entry.{Entry}
use Rattle.kernel_cell.specs.Results.{Threads}
use Rattle.process_cell.specs.declared.results.Phase.{Phase}

-- its number, its phase, what its threads do, how many turns it has left, which threads took the turns that no entry has yet, the
-- history as it has seen it, and the entries of it that it did itself
pub record Standing : Type 0 where
  pub pid : ℕ
  pub phase : Phase
  pub threads : Threads
  pub left : ℕ
  pub turns : List ℕ
  pub seen : List Entry
  pub own : List Entry
