-- A name that comes into a directory's slot: the tree that is seen, and what each slot is found to be.
use Rattle.std.proofs.Common.{◌≡◌, ◌≢◌, ℕ, true, cond, List, Option, Some, None, IsSome, is_some, option_map, refl, sym, ap, ◌∙◌}
use Rattle.std.proofs.lemmas.Bool.{false≢true}
use Rattle.std.specs.FinMap.{get, insert}
use Rattle.maps.specs.Maps.{get-insert-same, get-insert-other, same_numbers}
use Rattle.tree_model.specs.Tree.{is_directory, is_directory_kind, names_in, names_of}
use Rattle.tree_model.specs.Changes.{put_name}
use Rattle.tree_model.specs.Entries.{here_or_other}
use Rattle.file_tree.specs.declared.slot.Slot.{Slot}
use Rattle.file_tree.specs.Kept.{Slots, nodes_of, names_of_slots, tree_of, is_directory_slot, changed_slot, with_entry}
use Rattle.file_tree.proofs.Views.{names_found, node_found, names_at, directory_found}

-- ---- slots that are there

directory_of : (o : Option Slot) → is_directory_slot o ≡ true → (s : Slot) × (o ≡ Some s) × (is_directory_kind s.node.kind ≡ true)
directory_of None is = absurd (false≢true is)
directory_of (Some s) is = (s, refl, is)

-- a directory's slot
pub directory_slot : (m : Slots) (d : ℕ) → is_directory (tree_of m) d ≡ true → (s : Slot) × (get m d ≡ Some s) × (is_directory_kind s.node.kind ≡ true)
directory_slot m d is = directory_of (get m d) (sym (directory_found m d) ∙ is)

node_there : (o : Option Slot) → IsSome (option_map (λ s. s.node) o) → (s : Slot) × (o ≡ Some s)
node_there None is = absurd (false≢true is)
node_there (Some s) is = (s, refl)

-- the slot of a node
pub node_slot : (m : Slots) (n : ℕ) → IsSome (get (nodes_of m) n) → (s : Slot) × (get m n ≡ Some s)
node_slot m n is = node_there (get m n) (sym (ap is_some (node_found m n)) ∙ is)

no_node : (o : Option Slot) → option_map (λ s. s.node) o ≡ None → o ≡ None
no_node None none = refl
no_node (Some s) none = absurd (false≢true (sym (ap is_some none)))

-- where there is no node there is no slot
pub no_slot_there : (m : Slots) (n : ℕ) → get (nodes_of m) n ≡ None → get m n ≡ None
no_slot_there m n none = no_node (get m n) (sym (node_found m n) ∙ none)

-- what is there stays there as a slot is put
pub stays_there : (m : Slots) (k : ℕ) (s : Slot) (d : ℕ) → IsSome (get m d) → IsSome (get (insert m k s) d)
stays_there m k s d there =
    here_or_other (λ x. IsSome (get m x) → IsSome (get (insert m k s) x)) k d
    (λ _. ap is_some (get-insert-same m k s)) (λ other is. ap is_some (get-insert-other m k s d other) ∙ is) there

-- ---- a name comes into the slot s

module _ (m : Slots) (d : ℕ) (name : List ℕ) (n : ℕ) (s : Slot) (there : get m d ≡ Some s) where
  abbrev named_slot : Slot
  named_slot = record s { names = insert s.names name n }

  entered : with_entry m d name n ≡ insert m d named_slot
  entered = ap (changed_slot (λ s. record s { names = insert s.names name n }) m d) there

  -- what a slot is found to be is the same, where it is not by its names
  pub entered_at : {A : Type 0} (f : Option Slot → A) → f (Some named_slot) ≡ f (Some s) → (q : ℕ) → f (get (with_entry m d name n) q) ≡ f (get m q)
  entered_at f same q =
      ap (λ (x : Slots). f (get x q)) entered
      ∙ here_or_other (λ x. f (get (insert m d named_slot) x) ≡ f (get m x)) d q
      (ap f (get-insert-same m d named_slot) ∙ same ∙ ap f (sym there))
      (λ other. ap f (get-insert-other m d named_slot q other))

  pub entered_other : (q : ℕ) → q ≢ d → get (with_entry m d name n) q ≡ get m q
  entered_other q other = ap (λ (x : Slots). get x q) entered ∙ get-insert-other m d named_slot q other

  entered_nodes : nodes_of (with_entry m d name n) ≡ nodes_of m
  entered_nodes = same_numbers _ _ (λ q. node_found (with_entry m d name n) q ∙ entered_at (option_map (λ s. s.node)) refl q ∙ sym (node_found m q))

  module _ (kind : is_directory_kind s.node.kind ≡ true) where
    names_there : names_of (tree_of m) d ≡ s.names
    names_there = ap names_in (names_at m d ∙ ap names_found there ∙ ap (λ b. cond b (Some s.names) None) kind)

    entered_here : names_found (Some named_slot) ≡ Some (insert (names_of (tree_of m) d) name n)
    entered_here = ap (λ b. cond b (Some named_slot.names) None) kind ∙ ap (λ names. Some (insert names name n)) (sym names_there)

    entered_tables : names_of_slots (with_entry m d name n) ≡ (put_name (tree_of m) d name n).names
    entered_tables = same_numbers _ _ (λ q.
        names_at (with_entry m d name n) q
        ∙ ap (λ (x : Slots). names_found (get x q)) entered
        ∙ here_or_other (λ x. names_found (get (insert m d named_slot) x) ≡ get (put_name (tree_of m) d name n).names x) d q
        (ap names_found (get-insert-same m d named_slot) ∙ entered_here ∙ sym (get-insert-same (names_of_slots m) d _))
        (λ other. ap names_found (get-insert-other m d named_slot q other) ∙ sym (get-insert-other (names_of_slots m) d _ q other ∙ names_at m q)))

    -- the tree has the new name
    pub entered_view : tree_of (with_entry m d name n) ≡ put_name (tree_of m) d name n
    entered_view = λ i. record { nodes = entered_nodes i; names = entered_tables i }
