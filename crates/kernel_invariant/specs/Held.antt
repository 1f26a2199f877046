-- What the kernel's code keeps beside its state.
use Rattle.std.specs.Prelude.{◌≡◌, ℕ, ◌+◌, ◌^◌, Some}
use Rattle.std.specs.Ordering.{nat_cmp}
use Rattle.std.specs.FinMap.{FinMap, get}
use Rattle.maps.specs.Maps.{number}
use Rattle.channel_calls.specs.Calls.{AreFew}
use Rattle.kernel_model.specs.Release.{carriers, holders}
use Rattle.fd_table.specs.Sizes.{KeysBelow}
use Rattle.fd_table.specs.Table.{IsTable}
use Rattle.kernel_model.specs.State.{State, Table}
use Rattle.kernel_model.specs.Valid.{IsValid}
use Rattle.kernel_parts.specs.Touching.{HasNoLast}
use Rattle.readiness_laws.specs.Watched.{AreEntries, looked_at}
use Rattle.wait_set.specs.Waits.{WaitMap}

-- The state is valid, each open's count is that of its holders and its carriers, of which there are few, and tables and processes have
-- numbers that fit their types.
pub record IsKept (S : State) (counts : FinMap nat_cmp ℕ) : Type 0 where
  pub valid : IsValid S
  pub counted : (o : ℕ) → number (get counts o) ≡ holders S o + carriers S o
  pub few : AreFew S.chans
  pub small : (p : ℕ) (table : Table) → get S.tables p ≡ Some table → IsTable table
  pub processes : KeysBelow (2 ^ 32) S.tables

-- ---- the threads that wait

-- Each live thread has its entry, and one that waits is marked as ready where it is, unless it is left to be looked at (IsWatched). No entry has the number
-- that is left out of the last process.
pub record AreHeld (S : State) (W : WaitMap) : Type 0 where
  pub watched : AreEntries S W
  pub last : HasNoLast W

-- all that is kept beside the state
pub record IsHeld (S : State) (counts : FinMap nat_cmp ℕ) (W : WaitMap) : Type 0 where
  pub kept : IsKept S counts
  pub waits : AreHeld (looked_at S) W
