-- The state of a kernel: what it keeps between two calls.
use Rattle.std.specs.Prelude.{◌≡◌, ℕ, ◌==◌, ◌||◌, Bool, true, false, List, [], ◌∷◌, Option, None, Some}
use Rattle.std.specs.Ordering.{nat_cmp}
use Rattle.std.specs.FinMap.{FinMap, empty, get, insert, remove}
use Rattle.std.specs.Option.{option_map}
use Rattle.abi_types.specs.declared.counts.Counts.{Counts}
use Rattle.abi_types.specs.declared.node.Node.{Node}
use Rattle.abi_types.specs.declared.open_kind.OpenKind.{OpenKind}
use Rattle.abi_types.specs.declared.status.Status.{Status}
use Rattle.abi_types.specs.declared.stream.Stream.{Stream}
use Rattle.abi_types.specs.declared.thread.Thread.{Thread}
use Rattle.kernel_model.specs.Channels.{Channel}
pub use Rattle.fd_table.specs.Table.{Table}
pub use Rattle.tree_model.specs.Tree.{Tree, Names}

-- a process's live threads by number
abbrev pub Threads : Type 0
Threads = FinMap nat_cmp Thread

-- What a process has of its own beside its descriptors: its threads, what it has made so far, and how many forks lie between it and
-- process 0.
pub record ProcessState : Type 0 where
  pub threads : Threads
  pub counts : Counts
  pub depth : ℕ

-- The moment in nanoseconds; the descriptors of each process that lives, and what else it has of its own; the status of each process
-- that was made; the opens that descriptors name; the nodes of the file tree, and the names in each directory; the standard streams; and
-- the channels.
pub record State : Type 0 where
  pub clock : ℕ
  pub tables : FinMap nat_cmp Table
  pub processes : FinMap nat_cmp ProcessState
  pub statuses : FinMap nat_cmp Status
  pub opens : FinMap nat_cmp OpenKind
  pub nodes : FinMap nat_cmp Node
  pub names : FinMap nat_cmp Names
  pub terms : FinMap nat_cmp Stream
  pub chans : FinMap nat_cmp Channel

-- a state with nothing in it
abbrev pub no_state : State
no_state = record {
  clock = 0;
  tables = empty;
  processes = empty;
  statuses = empty;
  opens = empty;
  nodes = empty;
  names = empty;
  terms = empty;
  chans = empty;
}

-- the file tree
abbrev pub tree_of : State → Tree
tree_of S = record { nodes = S.nodes; names = S.names }

-- a process's live threads, if it lives
abbrev pub threads_of : State → ℕ → Option Threads
threads_of S p = option_map (λ (own : ProcessState). own.threads) (get S.processes p)

-- the thread with this number, if there is one
abbrev pub thread_in : Option Threads → ℕ → Option Thread
thread_in None t = None
thread_in (Some threads) t = get threads t

-- what a live thread of a process does
abbrev pub thread_of : State → ℕ → ℕ → Option Thread
thread_of S p t = thread_in (threads_of S p) t

-- what was written to a standard stream
abbrev pub written_in : Option Stream → List ℕ
written_in None = []
written_in (Some stream) = stream.written

abbrev pub written_to : ℕ → State → List ℕ
written_to which S = written_in (get S.terms which)

-- what is counted of a process that doesn't live
abbrev pub no_counts : Counts
no_counts = record { objects = 0; threads = 0; forks = 0; words = 0 }

-- what a process has made so far, if it lives
abbrev pub counts_in : Option ProcessState → Counts
counts_in None = no_counts
counts_in (Some own) = own.counts

-- A state is a map from parts to values. Its parts are the clock, what a process has of its own (descriptors,
-- threads and counts), its status, an open, a node, the names in a directory, a standard stream, and a channel.
pub data Part : Type 0 where
  at_clock : Part
  at_proc : ℕ → Part
  at_status : ℕ → Part
  at_open : ℕ → Part
  at_node : ℕ → Part
  at_names : ℕ → Part
  at_term : ℕ → Part
  at_chan : ℕ → Part

-- whether two parts are one
abbrev pub same_part : Part → Part → Bool
same_part at_clock at_clock = true
same_part (at_proc p) (at_proc q) = p == q
same_part (at_status p) (at_status q) = p == q
same_part (at_open o) (at_open r) = o == r
same_part (at_node n) (at_node m) = n == m
same_part (at_names n) (at_names m) = n == m
same_part (at_term k) (at_term j) = k == j
same_part (at_chan c) (at_chan e) = c == e
same_part _ _ = false

-- whether the list has the part
abbrev pub has_part : List Part → Part → Bool
has_part [] q = false
has_part (part ∷ parts) q = same_part part q || has_part parts q

-- the part has the same value in both states
abbrev pub Agree : State → State → Part → Type 0
Agree S T at_clock = S.clock ≡ T.clock
Agree S T (at_proc p) = (get S.tables p ≡ get T.tables p) × (get S.processes p ≡ get T.processes p)
Agree S T (at_status p) = get S.statuses p ≡ get T.statuses p
Agree S T (at_open o) = get S.opens o ≡ get T.opens o
Agree S T (at_node n) = get S.nodes n ≡ get T.nodes n
Agree S T (at_names n) = get S.names n ≡ get T.names n
Agree S T (at_term k) = get S.terms k ≡ get T.terms k
Agree S T (at_chan c) = get S.chans c ≡ get T.chans c

-- each part of the list has the same value in both states
abbrev pub AgreeOn : State → State → List Part → Type 0
AgreeOn S T [] = Unit {0}
AgreeOn S T (part ∷ parts) = Agree S T part × AgreeOn S T parts

-- a new value of one part, or that a process has nothing of its own any more
pub data Update : Type 0 where
  set_table : ℕ → Table → Update
  set_process : ℕ → ProcessState → Update
  drop_own : ℕ → Update
  set_status : ℕ → Status → Update
  set_open : ℕ → OpenKind → Update
  set_node : ℕ → Node → Update
  set_names : ℕ → Names → Update
  set_term : ℕ → Stream → Update
  set_chan : ℕ → Channel → Update

-- the part that an update sets
abbrev pub part_of : Update → Part
part_of (set_table p t) = at_proc p
part_of (set_process p own) = at_proc p
part_of (drop_own p) = at_proc p
part_of (set_status p s) = at_status p
part_of (set_open o kind) = at_open o
part_of (set_node n node) = at_node n
part_of (set_names n names) = at_names n
part_of (set_term k stream) = at_term k
part_of (set_chan c channel) = at_chan c

-- the state with one part set
abbrev pub put_one : Update → State → State
put_one (set_table p t) S = record S { tables = insert S.tables p t }
put_one (set_process p own) S = record S { processes = insert S.processes p own }
put_one (drop_own p) S = record S { tables = remove S.tables p; processes = remove S.processes p }
put_one (set_status p s) S = record S { statuses = insert S.statuses p s }
put_one (set_open o kind) S = record S { opens = insert S.opens o kind }
put_one (set_node n node) S = record S { nodes = insert S.nodes n node }
put_one (set_names n names) S = record S { names = insert S.names n names }
put_one (set_term k stream) S = record S { terms = insert S.terms k stream }
put_one (set_chan c channel) S = record S { chans = insert S.chans c channel }

-- the state with the parts set, one after another
abbrev pub put_all : List Update → State → State
put_all [] S = S
put_all (update ∷ updates) S = put_all updates (put_one update S)
