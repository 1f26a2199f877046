-- What a call may read of a state: the values of some parts, and nothing of the others.
use Rattle.std.specs.Prelude.{ℕ, Bool, List, Option, None, if◌then◌else◌}
use Rattle.std.specs.FinMap.{get, retain_keys}
use Rattle.abi_types.specs.declared.open_kind.OpenKind.{OpenKind}
use Rattle.abi_types.specs.declared.status.Status.{Status}
use Rattle.abi_types.specs.declared.stream.Stream.{Stream}
use Rattle.kernel_model.specs.Channels.{Channel}
use Rattle.kernel_model.specs.State.{State, Table, ProcessState, Tree, tree_of, Part, at_proc, at_status, at_open, at_node, at_names, at_term, at_chan, has_part}

-- what is seen of a state: the moment, for each number the value of its part, where that is seen, and the nodes and names of
-- the file tree that are seen
pub record View : Type 0 where
  pub clock : ℕ
  pub table : ℕ → Option Table
  pub process : ℕ → Option ProcessState
  pub status : ℕ → Option Status
  pub opened : ℕ → Option OpenKind
  pub branch : Tree
  pub term : ℕ → Option Stream
  pub channel : ℕ → Option Channel

-- the value where the test is true, else nothing
abbrev pub only : {X : Type 0} → Bool → Option X → Option X
only b x = if b then x else None

-- what is seen of a state by these parts; the moment is always seen
abbrev pub restrict : State → List Part → View
restrict S parts = record {
  clock = S.clock;
  table = λ p. only (has_part parts (at_proc p)) (get S.tables p);
  process = λ p. only (has_part parts (at_proc p)) (get S.processes p);
  status = λ p. only (has_part parts (at_status p)) (get S.statuses p);
  opened = λ o. only (has_part parts (at_open o)) (get S.opens o);
  branch = record { nodes = retain_keys S.nodes (λ n. has_part parts (at_node n)); names = retain_keys S.names (λ n. has_part parts (at_names n)) };
  term = λ k. only (has_part parts (at_term k)) (get S.terms k);
  channel = λ c. only (has_part parts (at_chan c)) (get S.chans c);
}

-- all of a state
abbrev pub whole : State → View
whole S = record {
  clock = S.clock;
  table = λ p. get S.tables p;
  process = λ p. get S.processes p;
  status = λ p. get S.statuses p;
  opened = λ o. get S.opens o;
  branch = tree_of S;
  term = λ k. get S.terms k;
  channel = λ c. get S.chans c;
}
