-- The tree that records make, one after another, and which record may stand next.
--     node_at t d p      the node that a path leads to from a directory
--     Making, start times      the tree so far, what the next node needs and the paths of the `file` records;  before the first record
--     IsAllowed m r, with_record m r      a record that may stand next;  the tree with it
use Rattle.std.specs.Prelude.{◌≡◌, ℕ, ◌+◌, ◌≤◌, true, List, [], ◌∷◌, Option, None, Some, IsSome}
use Rattle.std.specs.FinMap.{empty, get, insert}
use Rattle.lists.specs.Options.{◌>>=◌}
use Rattle.abi_types.specs.declared.node.Node.{Node}
use Rattle.abi_types.specs.declared.node.NodeKind.{NodeKind}
use Rattle.abi_types.specs.declared.node.NodeKind.TheVariants as kind
use Rattle.abi_types.specs.declared.node.Times.{Times}
use Rattle.maps.specs.Names.{Names}
use Rattle.tree_model.specs.declared.limits.TheConstants.{ROOT}
use Rattle.tree_model.specs.Start.{root_tree}
use Rattle.tree_model.specs.Tree.{Tree, entry_of}
use Rattle.tree_model.specs.Changes.{first_fault, is_absent, link_faults, linked, made, make_faults}
use Rattle.tree_records.specs.Paths.{Path, name_of, parent, path_bytes}
use Rattle.tree_records.specs.Records.{Record, dir, file, link, hard}

-- ---- paths in a tree

-- the node that a path leads to from a directory
abbrev pub node_at : Tree → ℕ → Path → Option ℕ
node_at t d [] = Some d
node_at t d (name ∷ more) = entry_of t d name >>= λ n. node_at t n more

-- ---- what records make

-- the tree of the records so far, the times of each node, the number of the next one, and the paths of the `file` records as
-- these write them
pub record Making : Type 0 where
  pub tree : Tree
  pub times : Times
  pub next : ℕ
  pub files : Names (Unit {0})

-- before the first record: the root alone
abbrev pub start : Times → Making
start times = record { tree = root_tree times; times = times; next = ROOT + 1; files = empty }

-- ---- a new node

-- a name may be made in the directory: it is one, and has no such name
abbrev pub IsPlaceIn : Tree → List ℕ → Option ℕ → Type 0
IsPlaceIn t name None = ⊥
IsPlaceIn t name (Some d) = first_fault (make_faults t d name) ≡ None

-- a node may be made at the path: all names but the last lead to a directory that has no such last name
abbrev pub IsPlace : Tree → Path → Type 0
IsPlace t p = IsPlaceIn t (name_of p) (node_at t ROOT (parent p))

abbrev pub node_of : Times → NodeKind → Node
node_of times kind = record { kind = kind; times = times; links = 1 }

abbrev pub with_node_in : Making → List ℕ → NodeKind → Option ℕ → Making
with_node_in m name kind None = m
with_node_in m name kind (Some d) = record m { tree = made m.tree d name m.next (node_of m.times kind); next = m.next + 1 }

-- with a new node at the path
abbrev pub with_node : Making → Path → NodeKind → Making
with_node m p kind = with_node_in m (name_of p) kind (node_at m.tree ROOT (parent p))

-- a path is that of a `file` record
abbrev pub with_file : Making → Path → Making
with_file m p = record m { files = insert m.files (path_bytes p) tt }

-- ---- one more name of a file

abbrev pub HasFile : Making → Path → Type 0
HasFile m target = IsSome (get m.files (path_bytes target))

abbrev pub IsLinkPlaceIn : Tree → List ℕ → Option ℕ → Option ℕ → Type 0
IsLinkPlaceIn t name None n = ⊥
IsLinkPlaceIn t name (Some d) None = ⊥
IsLinkPlaceIn t name (Some d) (Some n) = first_fault (link_faults t d name n) ≡ None

-- the node of the target may have one more name, at the path
abbrev pub IsLinkPlace : Tree → Path → Path → Type 0
IsLinkPlace t p target = IsLinkPlaceIn t (name_of p) (node_at t ROOT (parent p)) (node_at t ROOT target)

abbrev pub with_name_in : Making → List ℕ → Option ℕ → Option ℕ → Making
with_name_in m name None n = m
with_name_in m name (Some d) None = m
with_name_in m name (Some d) (Some n) = record m { tree = linked m.tree d name n }

-- with one more name of the target's node, at the path
abbrev pub with_name : Making → Path → Path → Making
with_name m p target = with_name_in m (name_of p) (node_at m.tree ROOT (parent p)) (node_at m.tree ROOT target)

-- ---- a record

-- a record may stand next: its parent is a directory, its name is new, and a second name is of a file that has a record and
-- may have one more name
abbrev pub IsAllowed : Making → Record → Type 0
IsAllowed m (dir p) = IsPlace m.tree p
IsAllowed m (file p bytes) = IsPlace m.tree p
IsAllowed m (link p text) = IsPlace m.tree p
IsAllowed m (hard p target) = HasFile m target × IsLinkPlace m.tree p target

-- the tree with the record
abbrev pub with_record : Making → Record → Making
with_record m (dir p) = with_node m p kind.Directory
with_record m (file p bytes) = with_file (with_node m p (kind.File bytes)) p
with_record m (link p text) = with_node m p (kind.Link text)
with_record m (hard p target) = with_name m p target

-- the numbers from the next one on are no nodes'
abbrev pub IsFresh : Making → Type 0
IsFresh m = (k : ℕ) → m.next ≤ k → is_absent m.tree k ≡ true
