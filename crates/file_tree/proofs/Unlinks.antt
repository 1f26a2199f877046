-- A name that goes: the tree that is seen, and what is kept.
use Rattle.std.proofs.Common.{◌≡◌, ◌≢◌, ℕ, ◌≤◌, true, List, Option, Some, None, IsSome, is_some, refl, sym, ap, subst, ◌∙◌, arith}
use Rattle.std.proofs.lemmas.Option.{same_Some, none-some}
use Rattle.std.specs.FinMap.{get, remove}
use Rattle.tree_model.specs.Tree.{Tree, HasName, IsTree, entry_of, is_directory}
use Rattle.tree_model.specs.Changes.{drop_name, first_fault, unlink_faults, unlinked, without_old}
use Rattle.tree_model.specs.Counts.{one_for-same}
use Rattle.tree_model.specs.Entries.{KeepsNodes-without_old, here_or_other}
use Rattle.tree_model.specs.Facts.{no_name_of_nameless}
use Rattle.tree_model.specs.Faults.{can_unlink}
use Rattle.tree_model.specs.Keeps.{unlinked-tree}
use Rattle.tree_model.specs.Outcomes.{unlinked-counts, unlinked-name, unlinked-other_names}
use Rattle.file_tree.specs.declared.slot.Slot.{Slot}
use Rattle.file_tree.specs.Kept.{Slots, Numbers, tree_of, parent_in, ReportsParent, IsKept, links_at, one_name_less, with_parent, without_entry, without_name, listed_if_last}
use Rattle.file_tree.proofs.Stays.{parent_none, parent_stays, same_names_but, listed_all, is_nameless_slot}
use Rattle.file_tree.proofs.SlotChanges.{found_alike, links_of_name, lost_alike, lost_listed, lost_other, lost_parent, not_the_root, slot_of_directory, slot_of_name, without_entry-view, without_name-view}

module _ (m : Slots) (nameless : Numbers) (kept : IsKept m nameless) (d : ℕ) (name : List ℕ) (n : ℕ) (named : HasName (tree_of m) d name n)
    (free : first_fault (unlink_faults (tree_of m) d name) ≡ None) where
  -- the tree before, and after
  abbrev before : Tree
  before = tree_of m

  abbrev after : Tree
  after = unlinked before d name

  -- the slots whose node counts a name less, and the name isn't gone yet
  abbrev lost : Slots
  lost = without_name m (Some n)

  abbrev left : Slots
  left = without_entry lost d name

  lost_view : tree_of lost ≡ without_old before (Some n)
  lost_view = without_name-view m (Some n)

  lost_directory : is_directory (tree_of lost) d ≡ true
  lost_directory =
      (λ i. is_directory (lost_view i) d) ∙ (KeepsNodes-without_old before (Some n)).kinds d ∙ (can_unlink before d name free).directory

  left_view : tree_of left ≡ after
  left_view =
      without_entry-view lost d name lost_directory
      ∙ (λ i. drop_name (lost_view i) d name)
      ∙ ap (λ o. drop_name (without_old before o) d name) (sym named)

  after_tree : IsTree after
  after_tree = unlinked-tree before d name kept.tree free

  -- but for the names, slots are found as before the name went
  left_alike : {A : Type 0} (f : Option Slot → A) → ((s : Slot) → f (Some (record s { names = remove s.names name })) ≡ f (Some s)) → (q : ℕ)
      → f (get left q) ≡ f (get lost q)
  left_alike f same = found_alike (λ s. record s { names = remove s.names name }) lost d f same

  was_directory : (q : ℕ) → is_directory after q ≡ true → is_directory before q ≡ true
  was_directory q is = sym ((KeepsNodes-without_old before (entry_of before d name)).kinds q) ∙ is

  -- a directory that lost its name has no other one
  node_parent : is_directory after n ≡ true → ReportsParent (parent_in (get left n)) after n
  node_parent is =
      let counts = unlinked-counts before d name kept.tree n named n in
      let one = one_for-same n in
      let most = kept.tree.single n (was_directory n is) in
      parent_none after _ n (left_alike parent_in (λ _. refl) n ∙ lost_parent m n) (no_name_of_nameless after after_tree n (omega arith))

  -- each other one has the names that it had
  other_parent : (q : ℕ) → q ≢ n → is_directory after q ≡ true → ReportsParent (parent_in (get left q)) after q
  other_parent q other is =
      parent_stays before after (parent_in (get m q)) _ q (kept.parents q (was_directory q is))
      (left_alike parent_in (λ _. refl) q ∙ ap parent_in (lost_other m (Some n) q (λ same. other (sym (same_Some n q same)))))
      (same_names_but before after d name q (unlinked-other_names before d name)
      (λ e. other (same_Some q n (sym e ∙ named)))
      (λ e. none-some q (sym (unlinked-name before d name) ∙ e)))

  unlinked_parents : (q : ℕ) → is_directory after q ≡ true → ReportsParent (parent_in (get left q)) after q
  unlinked_parents q = here_or_other (λ x. is_directory after x ≡ true → ReportsParent (parent_in (get left x)) after x) n q node_parent (other_parent q)

  left_kept : IsKept left (listed_if_last m nameless n)
  left_kept = record {
    tree = rw left_view after_tree;
    parents = λ q is.
        subst (λ u. ReportsParent (parent_in (get left q)) u q) (sym left_view) (unlinked_parents q (sym (λ i. is_directory (left_view i) q) ∙ is));
    listed = listed_all left (listed_if_last m nameless n) (λ q.
        lost_listed m nameless kept.listed (Some n) (links_of_name m kept.tree d name n named, not_the_root m kept.tree d name n named) q
        ∙ sym (left_alike (is_nameless_slot q) (λ _. refl) q));
  }

-- ---- where contracts see the tree as t

module _ (m : Slots) (nameless : Numbers) (kept : IsKept m nameless) (t : Tree) (view : tree_of m ≡ t) (d : ℕ) (name : List ℕ) (n : ℕ)
    (named : HasName t d name n) where
  seen_name : HasName (tree_of m) d name n
  seen_name = (λ i. entry_of (view i) d name) ∙ named

  pub seen_slot : IsSome (get m n)
  seen_slot = slot_of_name m kept.tree d name n seen_name

  pub seen_links : 1 ≤ links_at m n
  seen_links = links_of_name m kept.tree d name n seen_name

  module _ (free : first_fault (unlink_faults t d name) ≡ None) (lost : Slots) (slots : lost ≡ with_parent (one_name_less m n) n None) where
    seen_free : first_fault (unlink_faults (tree_of m) d name) ≡ None
    seen_free = (λ i. first_fault (unlink_faults (view i) d name)) ∙ free

    pub seen_directory : IsSome (get lost d)
    seen_directory =
        ap (λ x. is_some (get x d)) slots
        ∙ lost_alike m is_some (λ _. refl) (λ _. refl) (Some n) d
        ∙ slot_of_directory m d (can_unlink (tree_of m) d name seen_free).directory

    module _ (left : Slots) (dropped : left ≡ without_entry lost d name) where
      left_is : left ≡ without_entry (without_name m (Some n)) d name
      left_is = dropped ∙ ap (λ x. without_entry x d name) slots

      pub seen_unlinked : tree_of left ≡ unlinked t d name
      seen_unlinked = ap tree_of left_is ∙ left_view m nameless kept d name n seen_name seen_free ∙ (λ i. unlinked (view i) d name)

      pub kept_unlinked : (numbers : Numbers) → numbers ≡ listed_if_last m nameless n → IsKept left numbers
      kept_unlinked numbers listed = rw left_is (rw listed (left_kept m nameless kept d name n seen_name seen_free))
