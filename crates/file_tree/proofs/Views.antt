-- What is seen of the slots, and how it changes with them.
use Rattle.std.proofs.Common.{◌≡◌, ℕ, cond, List, [], ◌∷◌, length, slice_get, Option, Some, None, option_map, refl, sym, ap, ◌∙◌, arith}
use Rattle.std.specs.Ordering.{nat_cmp}
use Rattle.std.specs.Cmp.Lexicographic.{slice_cmp}
use Rattle.std.specs.FinMap.{empty, get, entries, get-empty, len-empty, len-entries}
use Rattle.maps.specs.Closure.{changed, get-changed}
use Rattle.maps.specs.Maps.{get-retain}
use Rattle.tree_model.specs.Tree.{Names, Tree, names_in, is_directory, is_directory_node}
use Rattle.file_tree.specs.declared.slot.Slot.{Slot}
use Rattle.file_tree.specs.SlotNames.{names_in_slot}
use Rattle.file_tree.specs.Kept.{Slots, nodes_of, names_of_slots, is_directory_slot, tree_of}

-- ---- what is found

-- the names of a slot, if it is there and a directory's
abbrev pub names_found : Option Slot → Option Names
names_found None = None
names_found (Some s) = names_in_slot s

pub node_found : (m : Slots) (n : ℕ) → get (nodes_of m) n ≡ option_map (λ s. s.node) (get m n)
node_found m n = get-changed (λ _ s. s.node) m n

picked : (o : Option Slot) → cond (is_directory_slot o) (option_map (λ s. s.names) o) None ≡ names_found o
picked None = refl
picked (Some s) = refl

pub names_at : (m : Slots) (d : ℕ) → get (names_of_slots m) d ≡ names_found (get m d)
names_at m d =
    get-retain (changed (λ (_ : ℕ) (s : Slot). s.names) m) (λ n. is_directory_slot (get m n)) d
    ∙ ap (λ o. cond (is_directory_slot (get m d)) o None) (get-changed (λ (_ : ℕ) (s : Slot). s.names) m d)
    ∙ picked (get m d)

kind_found : (o : Option Slot) → is_directory_node (option_map (λ s. s.node) o) ≡ is_directory_slot o
kind_found None = refl
kind_found (Some s) = refl

pub directory_found : (m : Slots) (d : ℕ) → is_directory (tree_of m) d ≡ is_directory_slot (get m d)
directory_found m d = ap is_directory_node (node_found m d) ∙ kind_found (get m d)

-- ---- what contracts see, where they see the tree as t

module _ (m : Slots) (t : Tree) (view : tree_of m ≡ t) (n : ℕ) where
  pub seen_node : (o : Option Slot) → o ≡ get m n → option_map (λ s. s.node) o ≡ get t.nodes n
  seen_node o is = ap (option_map (λ s. s.node)) is ∙ sym (node_found m n) ∙ (λ i. get (view i).nodes n)

  pub seen_names : (o : Option Slot) → o ≡ get m n → names_found o ≡ get t.names n
  seen_names o is = ap names_found is ∙ sym (names_at m n) ∙ (λ i. get (view i).names n)

-- where there is no directory there is no name

no_entries : {A : Type 0} (xs : List A) → length xs ≡ 0 → xs ≡ []
no_entries [] none = refl
no_entries (x ∷ xs) none = absurd (omega arith)

pub no_entry : (o : Option Names) (name : List ℕ) → None ≡ o → None ≡ get (names_in o) name
no_entry o name none = sym (get-empty {X = ℕ} (slice_cmp nat_cmp) name) ∙ ap (λ o. get (names_in o) name) none

pub no_entry_at : (o : Option Names) (place : ℕ) → None ≡ o → None ≡ slice_get (entries (names_in o)) place
no_entry_at o place none =
    let empty_list : entries (empty {X = ℕ} {R = slice_cmp nat_cmp}) ≡ [] = no_entries _ (sym (len-entries (empty {X = ℕ} {R = slice_cmp nat_cmp})) ∙ len-empty (slice_cmp nat_cmp) ℕ) in
    sym (ap (λ es. slice_get es place) empty_list) ∙ ap (λ o. slice_get (entries (names_in o)) place) none
