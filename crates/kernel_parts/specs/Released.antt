-- What a release is given, and what it leaves.
use Rattle.std.specs.Prelude.{◌≡◌, ℕ, if◌then◌else◌}
use Rattle.std.specs.Ordering.{nat_cmp}
use Rattle.std.specs.FinMap.{FinMap, get, insert, remove}
use Rattle.abi_base.specs.declared.signal.Signal.TheVariants.{Kill}
use Rattle.abi_types.specs.declared.open_kind.OpenKind.{OpenKind}
use Rattle.abi_types.specs.declared.status.Status.{Status}
use Rattle.abi_types.specs.declared.status.Status.TheVariants.{Killed}
use Rattle.kernel_model.specs.Channels.{Channel}
use Rattle.kernel_model.specs.Release.{lives}
use Rattle.kernel_model.specs.State.{State, Table, ProcessState, Tree, no_state}

-- the state of these parts, which has nothing else
abbrev pub state_by : FinMap nat_cmp Table → FinMap nat_cmp ProcessState → FinMap nat_cmp Status → FinMap nat_cmp OpenKind → FinMap nat_cmp Channel → Tree → State
state_by tables processes statuses opens channels tree = record no_state {
  tables = tables;
  processes = processes;
  statuses = statuses;
  opens = opens;
  chans = channels;
  nodes = tree.nodes;
  names = tree.names;
}

-- a process that lived is killed, and has nothing of its own any more; and nothing else changes
pub record IsKilledIn (p : ℕ) (tables : FinMap nat_cmp Table) (processes : FinMap nat_cmp ProcessState) (statuses : FinMap nat_cmp Status)
    (new_tables : FinMap nat_cmp Table) (new_processes : FinMap nat_cmp ProcessState) (new_statuses : FinMap nat_cmp Status) : Type 0 where
  pub left_tables : new_tables ≡ (if lives (get statuses p) then remove tables p else tables)
  pub left_processes : new_processes ≡ (if lives (get statuses p) then remove processes p else processes)
  pub left_statuses : new_statuses ≡ (if lives (get statuses p) then insert statuses p (Killed Kill) else statuses)
