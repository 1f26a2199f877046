-- The tree that slots are, and what is kept beside it.
--     tree_of m      the tree that contracts see
--     IsKept m nameless      it is a tree; each directory's slot names the directory above it; the nodes without a name are listed
--     with_entry, without_entry, with_links, with_parent, ..      slots after one of them changed
use Rattle.std.specs.Prelude.{◌≡◌, ◌↔◌, ℕ, ◌+◌, ◌-◌, ◌==◌, ◌&&◌, not, Bool, true, false, List, Option, None, Some, is_some, if◌then◌else◌}
use Rattle.std.specs.Ordering.{nat_cmp}
use Rattle.std.specs.FinMap.{FinMap, empty, get, insert, remove, retain_keys}
use Rattle.abi_types.specs.declared.node.Node.{Node}
use Rattle.maps.specs.Closure.{changed}
use Rattle.maps.specs.Maps.{passes}
use Rattle.tree_model.specs.declared.limits.TheConstants.{ROOT}
use Rattle.tree_model.specs.Tree.{Names, Tree, HasName, IsTree, is_directory, is_directory_kind}
use Rattle.tree_model.specs.Changes.{with_count}
use Rattle.file_tree.specs.declared.slot.Slot.{Slot}

abbrev pub Slots : Type 0
Slots = FinMap nat_cmp Slot

-- ---- what is seen

abbrev pub nodes_of : Slots → FinMap nat_cmp Node
nodes_of m = changed (λ _ s. s.node) m

-- whether it is a directory's slot
abbrev pub is_directory_slot : Option Slot → Bool
is_directory_slot None = false
is_directory_slot (Some s) = is_directory_kind s.node.kind

-- the names of directories
abbrev pub names_of_slots : Slots → FinMap nat_cmp Names
names_of_slots m = retain_keys (changed (λ _ s. s.names) m) (λ n. is_directory_slot (get m n))

abbrev pub tree_of : Slots → Tree
tree_of m = record { nodes = nodes_of m; names = names_of_slots m }

-- ---- what is kept beside it

-- the directory that a slot names as the one above its node
abbrev pub parent_in : Option Slot → Option ℕ
parent_in None = None
parent_in (Some s) = s.parent

-- what is reported of the directory above a node: a directory exactly where that one has a name of it
abbrev pub ReportsParent : Option ℕ → Tree → ℕ → Type 0
ReportsParent reported t n = (d : ℕ) → (reported ≡ Some d) ↔ ((name : List ℕ) × HasName t d name n)

-- each directory's slot names the directory above it
abbrev pub HasParents : Slots → Type 0
HasParents m = (n : ℕ) → is_directory (tree_of m) n ≡ true → ReportsParent (parent_in (get m n)) (tree_of m) n

-- a set of numbers
abbrev pub Numbers : Type 0
Numbers = FinMap nat_cmp (Unit {0})

-- whether this node is one to be found as having no name: the root is none
abbrev pub is_nameless : ℕ → Node → Bool
is_nameless n node = (node.links == 0) && not (n == ROOT)

-- the list has exactly the nodes without a name, the root aside
abbrev pub IsListed : Slots → Numbers → Type 0
IsListed m nameless = (n : ℕ) → is_some (get nameless n) ≡ passes is_nameless n (get (nodes_of m) n)

pub record IsKept (m : Slots) (nameless : Numbers) : Type 0 where
  pub tree : IsTree (tree_of m)
  pub parents : HasParents m
  pub listed : IsListed m nameless

-- ---- single slots

-- how many names the node counts, and 0 where there is none
abbrev pub links_in_slot : Option Slot → ℕ
links_in_slot None = 0
links_in_slot (Some s) = s.node.links

abbrev pub links_at : Slots → ℕ → ℕ
links_at m n = links_in_slot (get m n)

-- the names that a slot has
abbrev pub names_in_any : Option Slot → Names
names_in_any None = empty
names_in_any (Some s) = s.names

abbrev pub names_at : Slots → ℕ → Names
names_at m n = names_in_any (get m n)

-- ---- slots after one of them changed

-- the slot of the number is this one, if it has one
abbrev pub changed_slot : (Slot → Slot) → Slots → ℕ → Option Slot → Slots
changed_slot f m n None = m
changed_slot f m n (Some s) = insert m n (f s)

-- one name more in a directory
abbrev pub with_entry : Slots → ℕ → List ℕ → ℕ → Slots
with_entry m d name n = changed_slot (λ s. record s { names = insert s.names name n }) m d (get m d)

-- the name is gone from a directory
abbrev pub without_entry : Slots → ℕ → List ℕ → Slots
without_entry m d name = changed_slot (λ s. record s { names = remove s.names name }) m d (get m d)

-- a node counts one name more, or one less
abbrev pub one_more_name : Slots → ℕ → Slots
one_more_name m n = changed_slot (λ s. record s { node = with_count s.node (s.node.links + 1) }) m n (get m n)

abbrev pub one_name_less : Slots → ℕ → Slots
one_name_less m n = changed_slot (λ s. record s { node = with_count s.node (s.node.links - 1) }) m n (get m n)

-- a slot names another directory, or none, as the one above its node
abbrev pub with_parent : Slots → ℕ → Option ℕ → Slots
with_parent m n parent = changed_slot (λ s. record s { parent = parent }) m n (get m n)

-- what a new node's slot is: the node counts one name, and there are no names in it
abbrev pub first_slot : ℕ → Node → Slot
first_slot d node = record { node = with_count node 1; names = empty; parent = Some d }

-- a node that has another's name no more, if there is one
abbrev pub without_name : Slots → Option ℕ → Slots
without_name m None = m
without_name m (Some n) = with_parent (one_name_less m n) n None

-- a node that loses its last name comes to the list of those without one
abbrev pub listed_if_last : Slots → Numbers → ℕ → Numbers
listed_if_last m nameless n = if links_at m n == 1 then insert nameless n tt else nameless

abbrev pub listed_if_lost : Slots → Numbers → Option ℕ → Numbers
listed_if_lost m nameless None = nameless
listed_if_lost m nameless (Some n) = listed_if_last m nameless n
