-- The descriptors that a launch may grant, where it begins with this file tree.
--     IsStartTree t      a launch may begin with the tree
--     AreGrants t grants      it may grant these descriptors of what is there
--     MayBegin t grants      both
use Rattle.std.specs.Prelude.{ℕ, ◌+◌, ◌^◌, ◌<◌, ◌≤◌, List, length, Option, None, Some, IsSome, IsTrue}
use Rattle.std.specs.List.{AllByRecursion}
use Rattle.std.specs.FinMap.{get, len}
use Rattle.abi_base.specs.declared.grant.Grant.{Grant}
use Rattle.abi_base.specs.declared.grant.GrantTarget.{GrantTarget}
use Rattle.abi_base.specs.declared.grant.GrantTarget.TheVariants as target
use Rattle.abi_base.specs.declared.limits.TheConstants.{MOST_DESCRIPTORS}
use Rattle.abi_base.specs.Grants.{stream_rights}
use Rattle.abi_base.specs.Rights.{has_all}
use Rattle.abi_types.specs.declared.node.Node.{Node}
use Rattle.abi_types.specs.declared.node.NodeKind.{NodeKind}
use Rattle.abi_types.specs.declared.node.NodeKind.TheVariants as kind
use Rattle.abi_types.specs.declared.open_type.OpenType.{OpenType}
use Rattle.abi_types.specs.declared.open_type.OpenType.TheVariants as type
use Rattle.abi_types.specs.OpenTypes.{rights_of, inheriting_of}
use Rattle.tree_model.specs.declared.limits.TheConstants.{ROOT}
use Rattle.tree_model.specs.Tree.{Tree, IsTree, links_of}

-- ---- the tree

-- The tree that a launch begins with is a tree. Each node of it has a name, the root aside, which counts one. The nodes are
-- numbered from the root's number on, and there are fewer than a launch's objects may be.
pub record IsStartTree (t : Tree) : Type 0 where
  pub tree : IsTree t
  pub named : (n : ℕ) → IsSome (get t.nodes n) → 1 ≤ links_of t n
  pub numbered : (n : ℕ) → IsSome (get t.nodes n) → (ROOT ≤ n) × (n < ROOT + len t.nodes)
  pub few : len t.nodes ≤ 2 ^ 31

-- ---- grants

-- what a node is opened as: a symlink isn't opened
abbrev pub type_of_kind : NodeKind → Option OpenType
type_of_kind (kind.File bytes) = Some type.File
type_of_kind kind.Directory = Some type.Directory
type_of_kind (kind.Link text) = None

abbrev pub type_of_node : Option Node → Option OpenType
type_of_node None = None
type_of_node (Some node) = type_of_kind node.kind

-- the rights are among those of the type
abbrev pub HasRightsOfType : Grant → Option OpenType → Type 0
HasRightsOfType grant None = ⊥
HasRightsOfType grant (Some type) = IsTrue (has_all (rights_of type) grant.base.0) × IsTrue (has_all (inheriting_of type) grant.inheriting.0)

-- A grant of what is there, with rights of its type alone: of one of the three standard streams, through which nothing is
-- opened, or of a file or directory of the tree.
abbrev pub IsGrantOf : Tree → Grant → GrantTarget → Type 0
IsGrantOf t grant (target.Terminal which) = (which < 3) × IsTrue (has_all (stream_rights which) grant.base.0) × IsTrue (has_all 0 grant.inheriting.0)
IsGrantOf t grant (target.Node n) = HasRightsOfType grant (type_of_node (get t.nodes n))

abbrev pub IsGrant : Tree → Grant → Type 0
IsGrant t grant = IsGrantOf t grant grant.target

-- at most as many grants as a table has numbers, each of what is there
abbrev pub AreGrants : Tree → List Grant → Type 0
AreGrants t grants = (length grants ≤ MOST_DESCRIPTORS) × AllByRecursion (IsGrant t) grants

-- a launch may begin with this tree and grant these descriptors
pub record MayBegin (t : Tree) (granted : List Grant) : Type 0 where
  pub tree : IsStartTree t
  pub grants : AreGrants t granted
