-- The state that a launch starts from.
use Rattle.std.specs.Prelude.{ℕ, ◌+◌, ◌*◌, ◌^◌, List, [], ◌∷◌, Option, None, Some, if◌then◌else◌}
use Rattle.std.specs.FinMap.{empty, get, insert, len, from_entries}
use Rattle.abi_types.specs.declared.descriptor.Descriptor.{Descriptor}
use Rattle.abi_base.specs.declared.grant.Grant.{Grant}
use Rattle.abi_base.specs.declared.grant.GrantTarget.{GrantTarget}
use Rattle.abi_base.specs.declared.grant.GrantTarget.TheVariants as target
use Rattle.abi_types.specs.declared.node.Node.{Node}
use Rattle.abi_types.specs.declared.open_kind.OpenKind.{OpenKind}
use Rattle.abi_types.specs.declared.open_kind.OpenKind.TheVariants as kind
use Rattle.abi_types.specs.declared.status.Status.TheVariants.{Live}
use Rattle.abi_types.specs.declared.stream.Stream.{Stream}
use Rattle.abi_types.specs.declared.thread.Thread.TheVariants.{Runnable}
use Rattle.tree_model.specs.Tree.{is_directory_kind}
use Rattle.kernel_model.specs.State.{State, Table, ProcessState, Tree, no_state}

-- Objects that the launch makes have numbers of process 0xffffffff: 1 to 3 are the standard streams, 4 is the root of
-- the file tree, and from 5 on come the tree's other nodes and then the opens of the granted descriptors.
abbrev pub launch_object : ℕ → ℕ
launch_object n = 0xffffffff * 2 ^ 32 + n

-- each value under a number, counted from the first
abbrev pub numbered : {X Y : Type 0} → (ℕ → X → Y) → ℕ → List X → List (ℕ × Y)
numbered f n [] = []
numbered f n (x ∷ xs) = (n, f n x) ∷ numbered f (n + 1) xs

-- the number of the first granted descriptor's open
abbrev pub first_open : Tree → ℕ
first_open tree = launch_object (4 + len tree.nodes)

-- the descriptor with this number
abbrev pub granted_descriptor : Tree → ℕ → Grant → Descriptor
granted_descriptor tree n grant = record { id = first_open tree + n; base = grant.base; inheriting = grant.inheriting }

-- what a node is opened as
abbrev pub open_of_node : ℕ → Option Node → OpenKind
open_of_node n None = kind.File n 0 0
open_of_node n (Some node) = if is_directory_kind node.kind then kind.Directory n 0 else kind.File n 0 0

-- what a grant opens
abbrev pub open_of : Tree → GrantTarget → OpenKind
open_of tree (target.Terminal which) = kind.Terminal which 0
open_of tree (target.Node n) = open_of_node n (get tree.nodes n)

abbrev pub granted_open : Tree → ℕ → Grant → OpenKind
granted_open tree n grant = open_of tree grant.target

-- the first process's table
abbrev pub granted_table : Tree → List Grant → Table
granted_table tree grants = from_entries (numbered (granted_descriptor tree) 0 grants)

-- how many random words process 0 has drawn as it starts: those of the 64 bytes of its canary
abbrev pub canary_words : ℕ
canary_words = 16

-- What process 0 starts with beside its descriptors: thread 1, the one thread that it has numbered, the words that it has drawn, nobody who
-- waits, and depth 0.
abbrev pub first_process : ProcessState
first_process =
    record { threads = insert empty 1 Runnable; counts = record { objects = 0; threads = 1; forks = 0; words = canary_words }; depth = 0 }

-- a standard stream of which so much can be read
abbrev pub unwritten : List ℕ → Stream
unwritten left = record { left = left; written = [] }

-- Process 0 is live with thread 1 and the granted descriptors, the file tree is this one, standard input has these bytes, and
-- nothing was written.
abbrev pub start_state : Tree → List Grant → List ℕ → State
start_state tree grants stdin = record no_state {
  tables = insert empty 0 (granted_table tree grants);
  processes = insert empty 0 first_process;
  statuses = insert empty 0 Live;
  opens = from_entries (numbered (granted_open tree) (first_open tree) grants);
  nodes = tree.nodes;
  names = tree.names;
  terms = insert (insert (insert empty 0 (unwritten stdin)) 1 (unwritten [])) 2 (unwritten []);
}
