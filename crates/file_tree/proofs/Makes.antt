-- A new node with its first name: the tree that is seen, and what is kept.
use Rattle.std.proofs.Common.{◌≡◌, ◌≢◌, ℕ, true, false, cond, List, Option, Some, None, IsSome, is_some, inl, inr, refl, sym, ap, ◌∙◌}
use Rattle.std.proofs.lemmas.Option.{none-some, same_Some}
use Rattle.std.specs.FinMap.{empty, get, insert}
use Rattle.abi_types.specs.declared.node.Node.{Node}
use Rattle.maps.specs.Closure.{changed-insert}
use Rattle.maps.specs.Maps.{get-insert-same, get-insert-other, same_numbers}
use Rattle.tree_model.specs.Tree.{Tree, HasName, IsTree, entry_of, is_directory, is_directory_kind}
use Rattle.tree_model.specs.Changes.{first_fault, is_absent, made, make_faults, new_node, put_name}
use Rattle.tree_model.specs.Entries.{HasName-put_name, entry_of-new_node, here_or_other, table-new_node-other}
use Rattle.tree_model.specs.Facts.{absent, absent_no_directory, no_name_of_absent, no_names_in}
use Rattle.tree_model.specs.Faults.{CanMake, can_make}
use Rattle.tree_model.specs.Keeps.{made-tree}
use Rattle.tree_model.specs.Outcomes.{made-name, made-other_names}
use Rattle.file_tree.specs.declared.slot.Slot.{Slot}
use Rattle.file_tree.specs.Kept.{Slots, Numbers, names_of_slots, tree_of, is_directory_slot, parent_in, ReportsParent, IsKept, first_slot, with_entry}
use Rattle.file_tree.proofs.NewNames.{directory_slot, no_slot_there, entered_at, entered_view}
use Rattle.file_tree.proofs.Stays.{same_names_but, parent_is, parent_stays, listed_at, listed_all, is_nameless_slot}
use Rattle.file_tree.proofs.Views.{names_found, names_at, directory_found}

-- ---- the new node's slot, before it has its name

module _ (m : Slots) (d n : ℕ) (node : Node) (gone : get m n ≡ None) where
  -- of a directory there are names, none yet, and nothing else has any
  first_names : names_found (Some (first_slot d node)) ≡ get (new_node (tree_of m) n node).names n
  first_names =
      elim (is_directory_kind node.kind) as (λ b. cond b (Some empty) None ≡ get (cond b (insert (names_of_slots m) n empty) (names_of_slots m)) n) [
        | true ↦ sym (get-insert-same (names_of_slots m) n empty)
        | false ↦ sym (names_at m n ∙ ap names_found gone)
      ]

  first_tables : names_of_slots (insert m n (first_slot d node)) ≡ (new_node (tree_of m) n node).names
  first_tables = same_numbers _ _ (λ q.
      names_at (insert m n (first_slot d node)) q
      ∙ here_or_other (λ x. names_found (get (insert m n (first_slot d node)) x) ≡ get (new_node (tree_of m) n node).names x) n q
      (ap names_found (get-insert-same m n (first_slot d node)) ∙ first_names)
      (λ other. ap names_found (get-insert-other m n (first_slot d node) q other)
      ∙ sym (table-new_node-other (tree_of m) n node q other ∙ names_at m q)))

  first_view : tree_of (insert m n (first_slot d node)) ≡ new_node (tree_of m) n node
  first_view = λ i. record { nodes = changed-insert (λ (_ : ℕ) (s : Slot). s.node) m n (first_slot d node) i; names = first_tables i }

-- the slots with the new node and its name
abbrev pub made_slots : Slots → ℕ → List ℕ → ℕ → Node → Slots
made_slots m d name n node = with_entry (insert m n (first_slot d node)) d name n

-- ---- with its name, in the slot s

module _ (m : Slots) (d : ℕ) (name : List ℕ) (n : ℕ) (node : Node) (gone : get m n ≡ None) (s : Slot) (there : get m d ≡ Some s) where
  apart : d ≢ n
  apart same = none-some s (sym gone ∙ ap (get m) (sym same) ∙ there)

  still : get (insert m n (first_slot d node)) d ≡ Some s
  still = get-insert-other m n (first_slot d node) d apart ∙ there

  module _ {A : Type 0} (f : Option Slot → A) (same : f (Some (record s { names = insert s.names name n })) ≡ f (Some s)) where
    -- what is found at the new node, and at each other one
    made_here : f (get (made_slots m d name n node) n) ≡ f (Some (first_slot d node))
    made_here = entered_at (insert m n (first_slot d node)) d name n s still f same n ∙ ap f (get-insert-same m n (first_slot d node))

    made_at : (q : ℕ) → q ≢ n → f (get (made_slots m d name n node) q) ≡ f (get m q)
    made_at q other = entered_at (insert m n (first_slot d node)) d name n s still f same q ∙ ap f (get-insert-other m n (first_slot d node) q other)

  made_view : is_directory_kind s.node.kind ≡ true → tree_of (made_slots m d name n node) ≡ made (tree_of m) d name n node
  made_view kind =
      entered_view (insert m n (first_slot d node)) d name n s still kind ∙ ap (λ t. put_name t d name n) (first_view m d n node gone)

  -- the list stays right: the new node has a name
  made_listed : (nameless : Numbers) → IsKept m nameless → (q : ℕ) → is_some (get nameless q) ≡ is_nameless_slot q (get (made_slots m d name n node) q)
  made_listed nameless kept q =
      here_or_other (λ x. is_some (get nameless x) ≡ is_nameless_slot x (get (made_slots m d name n node) x)) n q
      (listed_at m nameless kept.listed n ∙ ap (is_nameless_slot n) gone ∙ sym (made_here (is_nameless_slot n) refl))
      (λ other. listed_at m nameless kept.listed q ∙ sym (made_at (is_nameless_slot q) refl q other))

  module _ (tree : IsTree (tree_of m)) (can : CanMake (tree_of m) d name) (new : is_absent (tree_of m) n ≡ true)
      (view : tree_of (made_slots m d name n node) ≡ made (tree_of m) d name n node) where
    -- only one directory has a name of the new node
    made_only : (d' : ℕ) (other : List ℕ) → HasName (tree_of (made_slots m d name n node)) d' other n → d' ≡ d
    made_only d' other has =
        let none = absent (tree_of m) n new in
        let bare = no_names_in (tree_of m) tree n (absent_no_directory (tree_of m) n none) in
        elim (HasName-put_name (new_node (tree_of m) n node) d name n d' other n (sym (λ i. entry_of (view i) d' other) ∙ has)) [
          | inl same ↦ same.0
          | inr before ↦ absurd (no_name_of_absent (tree_of m) tree n none d' other (sym (entry_of-new_node (tree_of m) n node bare d' other) ∙ before.1))
        ]

    made_parent_here : ReportsParent (parent_in (get (made_slots m d name n node) n)) (tree_of (made_slots m d name n node)) n
    made_parent_here =
        parent_is (tree_of (made_slots m d name n node)) _ n d name (made_here parent_in refl)
        ((λ i. entry_of (view i) d name) ∙ made-name (tree_of m) d name n node) made_only

    made_parent_at : (q : ℕ) → q ≢ n → ReportsParent (parent_in (get m q)) (tree_of m) q
        → ReportsParent (parent_in (get (made_slots m d name n node) q)) (tree_of (made_slots m d name n node)) q
    made_parent_at q other reports =
        parent_stays (tree_of m) (tree_of (made_slots m d name n node)) (parent_in (get m q)) _ q reports (made_at parent_in refl q other)
        (same_names_but (tree_of m) (tree_of (made_slots m d name n node)) d name q
        (λ d' name' away. (λ i. entry_of (view i) d' name') ∙ made-other_names (tree_of m) d name n node tree new d' name' away)
        (λ before. none-some q (sym can.new ∙ before))
        (λ after. other (sym (same_Some n q (sym ((λ i. entry_of (view i) d name) ∙ made-name (tree_of m) d name n node) ∙ after)))))

    made_parents : ((q : ℕ) → is_directory (tree_of m) q ≡ true → ReportsParent (parent_in (get m q)) (tree_of m) q)
        → (q : ℕ) → is_directory (tree_of (made_slots m d name n node)) q ≡ true
        → ReportsParent (parent_in (get (made_slots m d name n node) q)) (tree_of (made_slots m d name n node)) q
    made_parents parents q =
        here_or_other (λ x. is_directory (tree_of (made_slots m d name n node)) x ≡ true
        → ReportsParent (parent_in (get (made_slots m d name n node) x)) (tree_of (made_slots m d name n node)) x) n q
        (λ _. made_parent_here)
        (λ other is.
        let was = directory_found m q ∙ sym (made_at is_directory_slot refl q other) ∙ sym (directory_found (made_slots m d name n node) q) ∙ is in
        made_parent_at q other (parents q was))

-- ---- where contracts see the tree as t

module _ (m : Slots) (nameless : Numbers) (kept : IsKept m nameless) (t : Tree) (view : tree_of m ≡ t) (d : ℕ) (name : List ℕ) (n : ℕ)
    (free : first_fault (make_faults t d name) ≡ None) (new : is_absent t n ≡ true) where
  free_here : first_fault (make_faults (tree_of m) d name) ≡ None
  free_here = (λ i. first_fault (make_faults (view i) d name)) ∙ free

  new_here : is_absent (tree_of m) n ≡ true
  new_here = (λ i. is_absent (view i) n) ∙ new

  can : CanMake (tree_of m) d name
  can = can_make (tree_of m) d name free_here

  pub make_gone : get m n ≡ None
  make_gone = no_slot_there m n (absent (tree_of m) n new_here)

  pub make_there : IsSome (get m d)
  make_there = ap is_some (directory_slot m d can.directory).1

  module _ (node : Node) where
    seen_here : tree_of (made_slots m d name n node) ≡ made (tree_of m) d name n node
    seen_here =
        let slot = directory_slot m d can.directory in
        made_view m d name n node make_gone slot.0 slot.1 slot.2

    kept_here : IsKept (made_slots m d name n node) nameless
    kept_here =
        let slot = directory_slot m d can.directory in
        record {
          tree = rw seen_here (made-tree (tree_of m) d name n node kept.tree free_here new_here);
          parents = made_parents m d name n node make_gone slot.0 slot.1 kept.tree can new_here seen_here kept.parents;
          listed = listed_all (made_slots m d name n node) nameless (made_listed m d name n node make_gone slot.0 slot.1 nameless kept);
        }

    pub seen_made : (after : Slots) → after ≡ made_slots m d name n node → tree_of after ≡ made t d name n node
    seen_made after is = ap tree_of is ∙ seen_here ∙ (λ i. made (view i) d name n node)

    pub kept_made : (after : Slots) → after ≡ made_slots m d name n node → IsKept after nameless
    kept_made after is = rw is kept_here
