-- The child that a call makes.
use Rattle.std.specs.Prelude.{◌≡◌, ℕ, Some}
use Rattle.std.specs.FinMap.{get}
use Rattle.kernel_model.specs.State.{ProcessState, State, Table}
use Rattle.process_calls.specs.Forks.{IsPlan}
use Rattle.process_calls.specs.declared.forks.NewChild.{NewChild}

-- that child, of a process that has so many turns left
pub record IsChildOf (S : State) (left : ℕ) (plan : NewChild) : Type 0 where
  pub own : ProcessState
  pub has_own : get S.processes plan.parent ≡ Some own
  pub table : Table
  pub has_table : get S.tables plan.parent ≡ Some table
  pub planned : IsPlan left plan.parent plan.tid own table plan
