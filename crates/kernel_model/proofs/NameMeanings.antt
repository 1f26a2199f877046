-- What a meaning on names keeps to, and that it is then proper.
--     IsChangeOf t new makes c      the change leads from the tree t to a tree, says all that it changes, and makes at most one node
--     SetsAlike, SaysAll, IsPlainly, IsGood      what holds of what such a call comes to
--     NamesWell m      what is shown of each such meaning
use Rattle.std.proofs.Common.{◌≡◌, ◌≢◌, ◌⊎◌, ℕ, zero, suc, true, false, List, [], ◌++◌, map, Option, Some, None}
use Rattle.std.specs.Prelude.{⊤}
use Rattle.std.specs.FinMap.{get}
use Rattle.std.specs.List.{AllByRecursion}
use Rattle.abi_base.specs.declared.errno.Errno.{Errno}
use Rattle.abi_base.specs.declared.errno.Errno.TheVariants.{Again, Nomem}
use Rattle.abi_types.specs.declared.node.Node.{Node}
use Rattle.abi_types.specs.declared.open_kind.OpenKind.{OpenKind}
use Rattle.maps.specs.Closure.{member}
use Rattle.tree_model.specs.Changes.{is_file}
use Rattle.tree_model.specs.Tree.{IsTree, is_directory}
use Rattle.kernel_model.specs.Families.NameMeaning.{NameOutcome, Refuses, LeadsOut, Changes, NameMeaning}
use Rattle.kernel_model.specs.Families.Numbers.{object_parts}
use Rattle.kernel_model.specs.Proper.{IsIn}
use Rattle.kernel_model.specs.Sight.{behind}
use Rattle.kernel_model.specs.State.{State, Tree, tree_of, Part, has_part, part_of}
use Rattle.kernel_model.specs.Families.TreeUpdates.{Change, change_updates}
use Rattle.kernel_model.specs.Valid.{HasBehind}
use Rattle.kernel_model.proofs.Branches.{IsSeen}

-- ---- what such a call comes to

-- The change leads from the tree t to a tree. What it doesn't name is as it was, what was there stays and is of the same kind, and
-- it makes no node but the new one, and that only where it makes one.
pub record IsChangeOf (t : Tree) (new new_nodes : ℕ) (c : Change) : Type 0 where
  pub tree : IsTree c.tree
  pub nodes : (q : ℕ) → member q c.nodes ≡ false → get c.tree.nodes q ≡ get t.nodes q
  pub names : (q : ℕ) → member q c.directories ≡ false → get c.tree.names q ≡ get t.names q
  pub files : (q : ℕ) → is_file t q ≡ true → is_file c.tree q ≡ true
  pub directories : (q : ℕ) → is_directory t q ≡ true → is_directory c.tree q ≡ true
  pub stays : (q : ℕ) → get c.tree.nodes q ≡ None → get t.nodes q ≡ None
  pub fresh : (q : ℕ) (node : Node) → get t.nodes q ≡ None → get c.tree.nodes q ≡ Some node → (q ≡ new) × (new_nodes ≢ 0)

-- both are refused alike, or set the same
abbrev pub SetsAlike : NameOutcome → NameOutcome → Type 0
SetsAlike (Refuses errno) comes = comes ≡ Refuses errno
SetsAlike (LeadsOut component) comes = comes ≡ LeadsOut component
SetsAlike (Changes c) comes = (d : Change) × (comes ≡ Changes d) × (change_updates c ≡ change_updates d)

-- the part is none that it sets
abbrev pub IsUnsetBy : NameOutcome → Part → Type 0
IsUnsetBy (Refuses errno) q = ⊤
IsUnsetBy (LeadsOut component) q = ⊤
IsUnsetBy (Changes c) q = has_part (map part_of (change_updates c)) q ≡ false

-- the parts of the new node, where one is made
abbrev pub new_node_parts : ℕ → ℕ → List Part
new_node_parts zero new = []
new_node_parts (suc new_nodes) new = object_parts new

-- where a path leads outside it says so, and else it is refused by one of these errors, or changes the tree
abbrev pub IsPlainly : List Errno → Option ℕ → NameOutcome → Type 0
IsPlainly errors (Some component) comes = comes ≡ LeadsOut component
IsPlainly errors None (Refuses errno) = IsIn errno errors
IsPlainly errors None (LeadsOut component) = ⊥
IsPlainly errors None (Changes c) = ⊤

abbrev pub IsGood : Tree → ℕ → ℕ → NameOutcome → Type 0
IsGood t new new_nodes (Refuses errno) = ⊤
IsGood t new new_nodes (LeadsOut component) = ⊤
IsGood t new new_nodes (Changes c) = IsChangeOf t new new_nodes c

-- what stands behind the open is there
abbrev pub IsBehind : State → Option OpenKind → Type 0
IsBehind S kind = (k : OpenKind) → kind ≡ Some k → HasBehind S k

-- ---- meanings

pub record NamesWell (m : NameMeaning) : Type 0 where
  -- by what it sees of the tree u it sets what it sets by the whole tree t, and its paths lead where they do
  pub reads : (now new : ℕ) (t u : Tree) (here there : Option OpenKind) → IsSeen t u here → IsSeen t u there
      → SetsAlike (m.effect now new u here there) (m.effect now new t here there)
  pub walks : (t u : Tree) (here there : Option OpenKind) → IsSeen t u here → IsSeen t u there → m.outside u here there ≡ m.outside t here there
  -- it sets nothing but the node that it makes and what it says that it changes; and it sees that
  pub sets : (now new : ℕ) (t : Tree) (here there : Option OpenKind) (q : Part)
      → has_part (new_node_parts m.new_nodes new ++ m.touched t here there) q ≡ false → IsUnsetBy (m.effect now new t here there) q
  pub seen : (S : State) (here there : Option OpenKind) (q : Part) → has_part (m.touched (tree_of S) here there) q ≡ true
      → has_part (behind S here ++ behind S there) q ≡ true
  -- its errors
  pub plain : (now new : ℕ) (t : Tree) (here there : Option OpenKind)
      → IsPlainly m.errors (m.outside t here there) (m.effect now new t here there)
  pub again : (m.new_nodes ≡ 0) ⊎ IsIn Again m.errors
  pub lacks : AllByRecursion (λ errno. errno ≢ Nomem) m.errors
  -- what it changes is a change of the tree
  pub good : (now new : ℕ) (S : State) (here there : Option OpenKind) → IsBehind S here → IsBehind S there → IsTree (tree_of S)
      → (m.new_nodes ≢ 0 → get S.nodes new ≡ None) → IsGood (tree_of S) new m.new_nodes (m.effect now new (tree_of S) here there)
