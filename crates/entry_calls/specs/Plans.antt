-- What a plan says of an open: what is opened, what is done to the tree for it, and how many nodes that makes.
use Rattle.std.specs.Prelude.{◌≡◌, ℕ, true, false, List, [], ◌∷◌, Result, Ok, Err}
use Rattle.abi_types.specs.declared.node.NodeKind.TheVariants as node
use Rattle.abi_types.specs.declared.open_kind.OpenKind.{OpenKind}
use Rattle.abi_types.specs.declared.open_kind.OpenKind.TheVariants as open_kind
use Rattle.file_calls.specs.declared.paths.PathFault.{PathFault}
use Rattle.file_calls.specs.declared.paths.PathFault.TheVariants as path_fault
use Rattle.kernel_model.specs.Families.FileChanges.{sized}
use Rattle.kernel_model.specs.Families.LastNames.{name_at}
use Rattle.kernel_model.specs.Families.NameMaking.{with_node}
use Rattle.kernel_model.specs.Families.Opening.{Opened, NotOpened, OpenedOutside, Opens}
use Rattle.kernel_model.specs.Families.TreeUpdates.{Change, no_change}
use Rattle.entry_calls.specs.declared.plans.OpenPlan.{OpenPlan}
use Rattle.entry_calls.specs.declared.plans.OpenPlan.TheVariants.{File, Directory, New}
use Rattle.tree_model.specs.Tree.{Tree}

-- the open, by its flags and the number of a node that is made
abbrev pub kind_of : OpenPlan → ℕ → ℕ → OpenKind
kind_of (File n truncates) flags new = open_kind.File n 0 flags
kind_of (Directory n) flags new = open_kind.Directory n flags
kind_of (New place) flags new = open_kind.File new 0 flags

-- what is done to the tree, by the path, the time and the number of a node that is made
abbrev pub change_of : OpenPlan → List ℕ → ℕ → ℕ → Tree → Change
change_of (File n true) path now new t = record { tree = sized t n now 0; nodes = n ∷ []; directories = [] }
change_of (File n false) path now new t = no_change t
change_of (Directory n) path now new t = no_change t
change_of (New place) path now new t = with_node (node.File []) now new t place.dir (name_at path place.from place.len)

abbrev pub new_nodes_of : OpenPlan → ℕ
new_nodes_of (File n truncates) = 0
new_nodes_of (Directory n) = 0
new_nodes_of (New place) = 1

-- what the call comes to whose plan this is
abbrev pub opened_by : OpenPlan → List ℕ → Tree → ℕ → ℕ → ℕ → Opened
opened_by plan path t flags now new = Opens (kind_of plan flags new) (change_of plan path now new t) (new_nodes_of plan)

abbrev pub opened_of : Result OpenPlan PathFault → List ℕ → Tree → ℕ → ℕ → ℕ → Opened
opened_of (Ok plan) path t flags now new = opened_by plan path t flags now new
opened_of (Err (path_fault.Errno errno)) path t flags now new = NotOpened errno
opened_of (Err (path_fault.Outside component)) path t flags now new = OpenedOutside component

-- The plan of this path in the tree, or the refusal, is that of what a call comes to by the open's flags, the time and the number
-- of a node that is made.
abbrev pub Plans : List ℕ → Tree → Result OpenPlan PathFault → (ℕ → ℕ → ℕ → Opened) → Type 0
Plans path t result comes = (flags now new : ℕ) → comes flags now new ≡ opened_of result path t flags now new
