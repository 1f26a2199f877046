-- A name that moves: the tree that is seen, and what is kept.
use Rattle.std.proofs.Common.{◌≡◌, ◌≢◌, ℕ, ◌≤◌, true, false, cond, inl, inr, List, Option, Some, None, IsSome, IfSome, is_some, option_map, refl, sym, ap, subst, ◌∙◌, arith}
use Rattle.std.specs.Prelude.{if◌then◌else◌}
use Rattle.std.proofs.lemmas.Bool.{eq-eqb, false≢true}
use Rattle.std.proofs.lemmas.Bool.Decides.{eqb_tells}
use Rattle.std.proofs.lemmas.Option.{same_Some, none-some}
use Rattle.std.specs.FinMap.{get, insert, remove}
use Rattle.maps.specs.Maps.{insert-again, insert-insert, weight}
use Rattle.maps.specs.Names as name_map
use Rattle.tree_model.specs.declared.limits.TheConstants.{ROOT}
use Rattle.tree_model.specs.Tree.{Tree, HasName, IsTree, entry_of, is_directory, names_in, names_of, one_for}
use Rattle.tree_model.specs.Changes.{drop_name, first_fault, is_same, moved_to, put_name, rename_faults, renamed, replaced, without_old}
use Rattle.tree_model.specs.Climbing.{single_name}
use Rattle.tree_model.specs.Counts.{one_for-same}
use Rattle.tree_model.specs.Entries.{IsElsewhere, KeepsNodes-without_old, here_or_other, names_of-drop_name-other, names_of-drop_name-same, names_of-put_name-other, names_of-put_name-same}
use Rattle.tree_model.specs.Facts.{no_name_of_nameless}
use Rattle.tree_model.specs.Renames.{CanRename, KeepsNodes-renamed, can_rename, renamed-links, renamed-name, renamed-old_name, renamed-other_names, renamed-tree}
use Rattle.file_tree.specs.declared.slot.Slot.{Slot}
use Rattle.file_tree.specs.Kept.{Slots, Numbers, tree_of, is_directory_slot, parent_in, ReportsParent, IsKept, links_at, names_at, names_in_any, with_entry, without_entry, with_parent, without_name, listed_if_lost}
use Rattle.file_tree.proofs.Views as views
use Rattle.file_tree.proofs.Views.{names_found, directory_found}
use Rattle.file_tree.proofs.Stays.{parent_is, parent_none, parent_stays, same_names, listed_all, is_nameless_slot}
use Rattle.file_tree.proofs.SlotChanges.{found_alike, found_other, found_same, links_of_name, lost_alike, lost_listed, lost_other, lost_parent, not_the_root, slot_of_directory, slot_of_name, with_entry-view, with_parent-view, without_entry-view, without_name-view}

-- ---- a name put and another one dropped, in either order

module _ (w : Tree) (from : ℕ) (name : List ℕ) (to : ℕ) (new : List ℕ) (n : ℕ) (off : IsElsewhere from name to new) where
  abbrev put_first : Tree
  put_first = drop_name (put_name w to new n) from name

  abbrev drop_first : Tree
  drop_first = put_name (drop_name w from name) to new n

  -- the tables of names of both
  abbrev AreAlike : Type 0
  AreAlike = put_first.names ≡ drop_first.names

  other_tables : to ≢ from → AreAlike
  other_tables other =
      ap (λ names. insert (insert w.names to (insert (names_of w to) new n)) from (remove names name))
      (names_of-put_name-other w to new n from (λ same. other (sym same)))
      ∙ insert-insert w.names to from _ _ (λ same. other (sym same))
      ∙ ap (λ names. insert (insert w.names from (remove (names_of w from) name)) to (insert names new n)) (sym (names_of-drop_name-other w from name to other))

-- in one directory
one_table : (w : Tree) (d : ℕ) (name new : List ℕ) (n : ℕ) → new ≢ name
    → (drop_name (put_name w d new n) d name).names ≡ (put_name (drop_name w d name) d new n).names
one_table w d name new n other =
    insert-again w.names d _ _
    ∙ ap (λ names. insert w.names d (remove names name)) (names_of-put_name-same w d new n)
    ∙ ap (insert w.names d) (name_map.remove-insert_other (names_of w d) new name n (λ same. other (sym same)))
    ∙ ap (λ names. insert w.names d (insert names new n)) (sym (names_of-drop_name-same w d name))
    ∙ sym (insert-again w.names d _ _)

either_order : (w : Tree) (from : ℕ) (name : List ℕ) (to : ℕ) (new : List ℕ) (n : ℕ) → IsElsewhere from name to new
    → drop_name (put_name w to new n) from name ≡ put_name (drop_name w from name) to new n
either_order w from name to new n off =
    let names : (drop_name (put_name w to new n) from name).names ≡ (put_name (drop_name w from name) to new n).names =
    elim (eqb_tells to from) [
      | inl same ↦ subst (λ d. (drop_name (put_name w d new n) from name).names ≡ (put_name (drop_name w from name) d new n).names) (sym same.1)
          (one_table w from name new n (off same.1))
      | inr other ↦ other_tables w from name to new n off other.1
    ] in
    λ i. record { nodes = w.nodes; names = names i }

-- ---- a name is moved

reported_here : (to : ℕ) (o : Option Slot) → IsSome o → parent_in (option_map {T = Slot} (λ s. record s { parent = Some to }) o) ≡ Some to
reported_here to None there = absurd (false≢true there)
reported_here to (Some s) there = refl

module _ (m : Slots) (nameless : Numbers) (kept : IsKept m nameless) (from : ℕ) (name : List ℕ) (to : ℕ) (new : List ℕ) (n : ℕ)
    (named : HasName (tree_of m) from name n) (free : first_fault (rename_faults (tree_of m) from name to new) ≡ None)
    (differ : is_same (entry_of (tree_of m) from name) (entry_of (tree_of m) to new) ≡ false) where
  -- the tree before, and after
  abbrev before : Tree
  before = tree_of m

  abbrev after : Tree
  after = renamed before from name to new

  -- the node that has the new name
  abbrev old : Option ℕ
  old = entry_of before to new

  -- the slots after each step
  abbrev lost : Slots
  lost = without_name m old

  abbrev put : Slots
  put = with_entry lost to new n

  abbrev dropped : Slots
  dropped = without_entry put from name

  abbrev moved : Slots
  moved = with_parent dropped n (Some to)

  can : CanRename before from name to new
  can = can_rename before from name to new free

  -- the two names are at two places
  places : IsElsewhere from name to new
  places d e =
      let one : old ≡ Some n = ap (λ x. entry_of before x new) d ∙ ap (entry_of before from) e ∙ named in
      false≢true (sym differ ∙ ap (λ o. is_same o old) named ∙ ap (is_same (Some n)) one ∙ eq-eqb n n refl)

  -- ---- the tree that is seen

  lost_view : tree_of lost ≡ without_old before old
  lost_view = without_name-view m old

  lost_directory : (d : ℕ) → is_directory before d ≡ true → is_directory (tree_of lost) d ≡ true
  lost_directory d is = (λ i. is_directory (lost_view i) d) ∙ (KeepsNodes-without_old before old).kinds d ∙ is

  put_view : tree_of put ≡ put_name (without_old before old) to new n
  put_view = with_entry-view lost to new n (lost_directory to can.target) ∙ (λ i. put_name (lost_view i) to new n)

  put_directory : is_directory (tree_of put) from ≡ true
  put_directory = (λ i. is_directory (put_view i) from) ∙ (KeepsNodes-without_old before old).kinds from ∙ can.source

  renamed_is : after ≡ put_name (drop_name (without_old before old) from name) to new n
  renamed_is = ap (λ b. if b then before else moved_to before from name to new (entry_of before from name)) differ ∙ ap (moved_to before from name to new) named

  moved_view : tree_of moved ≡ after
  moved_view =
      with_parent-view dropped n (Some to)
      ∙ without_entry-view put from name put_directory
      ∙ (λ i. drop_name (put_view i) from name)
      ∙ either_order (without_old before old) from name to new n places
      ∙ sym renamed_is

  after_tree : IsTree after
  after_tree = renamed-tree before from name to new kept.tree free

  was_directory : (q : ℕ) → is_directory after q ≡ true → is_directory before q ≡ true
  was_directory q is = sym ((KeepsNodes-renamed before from name to new kept.tree can).kinds q) ∙ is

  -- ---- what is kept

  -- but for names and what a slot says of the directory above, slots are found as after the loss
  dropped_alike : {A : Type 0} (f : Option Slot → A) → ((s : Slot) → f (Some (record s { names = remove s.names name })) ≡ f (Some s))
      → ((s : Slot) → f (Some (record s { names = insert s.names new n })) ≡ f (Some s)) → (q : ℕ) → f (get dropped q) ≡ f (get lost q)
  dropped_alike f less more q =
      found_alike (λ s. record s { names = remove s.names name }) put from f less q
      ∙ found_alike (λ s. record s { names = insert s.names new n }) lost to f more q

  named_now : HasName after to new n
  named_now = renamed-name before from name to new n named

  dropped_there : (q : ℕ) → IsSome (get m q) → IsSome (get dropped q)
  dropped_there q there = dropped_alike is_some (λ _. refl) (λ _. refl) q ∙ lost_alike m is_some (λ _. refl) (λ _. refl) old q ∙ there

  -- the slot of the node that was moved names its new place
  node_parent : is_directory after n ≡ true → ReportsParent (parent_in (get moved n)) after n
  node_parent is =
      parent_is after _ n to new
      (ap parent_in (found_same (λ s. record s { parent = Some to }) dropped n)
      ∙ reported_here to (get dropped n) (dropped_there n (slot_of_name m kept.tree from name n named)))
      named_now
      (λ d other has. (single_name after after_tree n is d other to new has named_now).0)

  -- each other one names what it named after the loss
  reported_still : (q : ℕ) → q ≢ n → parent_in (get moved q) ≡ parent_in (get lost q)
  reported_still q other =
      ap parent_in (found_other (λ s. record s { parent = Some to }) dropped n q other) ∙ dropped_alike parent_in (λ _. refl) (λ _. refl) q

  -- a directory that lost its name has no other one
  lost_name : (q : ℕ) → q ≢ n → old ≡ Some q → is_directory after q ≡ true → ReportsParent (parent_in (get moved q)) after q
  lost_name q other e is =
      let counts = renamed-links before from name to new kept.tree n named q in
      let gone : weight (one_for q) (replaced before from name to new) ≡ 1 =
      ap (λ b. weight (one_for q) (if b then None else old)) differ ∙ ap (weight (one_for q)) e ∙ one_for-same q in
      let most = kept.tree.single q (was_directory q is) in
      parent_none after _ q
      (reported_still q other ∙ ap (λ o. parent_in (get (without_name m o) q)) e ∙ lost_parent m q)
      (no_name_of_nameless after after_tree q (omega arith))

  -- each other one has the names that it had
  other_parent : (q : ℕ) → q ≢ n → old ≢ Some q → is_directory after q ≡ true → ReportsParent (parent_in (get moved q)) after q
  other_parent q other off is =
      parent_stays before after (parent_in (get m q)) _ q (kept.parents q (was_directory q is))
      (reported_still q other ∙ ap parent_in (lost_other m old q off))
      (same_names before after from name to new q (renamed-other_names before from name to new)
      (λ e. other (same_Some q n (sym e ∙ named)), λ e. none-some q (sym (renamed-old_name before from name to new n named differ) ∙ e))
      (off, λ e. other (same_Some q n (sym e ∙ named_now))))

  renamed_parents : (q : ℕ) → is_directory after q ≡ true → ReportsParent (parent_in (get moved q)) after q
  renamed_parents q =
      here_or_other (λ x. is_directory after x ≡ true → ReportsParent (parent_in (get moved x)) after x) n q node_parent
      (λ other. elim old as (λ o. old ≡ o → is_directory after q ≡ true → ReportsParent (parent_in (get moved q)) after q) [
        | None ↦ λ none. other_parent q other (λ e. none-some q (sym none ∙ e))
        | Some x ↦ λ some. elim (eqb_tells x q) [
          | inl same ↦ lost_name q other (some ∙ ap Some same.1)
          | inr apart ↦ other_parent q other (λ e. apart.1 (same_Some x q (sym some ∙ e)))
        ]
      ] refl)

  -- what holds of each node of the new name
  if_old : (P : ℕ → Type 0) → ((x : ℕ) → HasName before to new x → P x) → IfSome old P
  if_old P each = elim old as (λ o. old ≡ o → IfSome o P) [ None ↦ λ _. tt | Some x ↦ each x ] refl

  moved_kept : IsKept moved (listed_if_lost m nameless old)
  moved_kept = record {
    tree = rw moved_view after_tree;
    parents = λ q is.
        subst (λ u. ReportsParent (parent_in (get moved q)) u q) (sym moved_view) (renamed_parents q (sym (λ i. is_directory (moved_view i) q) ∙ is));
    listed = listed_all moved (listed_if_lost m nameless old) (λ q.
        lost_listed m nameless kept.listed old
        (if_old (λ x. (1 ≤ links_at m x) × (x ≢ ROOT)) (λ x has. (links_of_name m kept.tree to new x has, not_the_root m kept.tree to new x has))) q
        ∙ sym (found_alike (λ s. record s { parent = Some to }) dropped n (is_nameless_slot q) (λ _. refl) q
        ∙ dropped_alike (is_nameless_slot q) (λ _. refl) (λ _. refl) q));
  }

-- ---- where contracts see the tree as t, and the node of the new name as o

names_any : (o : Option Slot) → is_directory_slot o ≡ true → names_in (names_found o) ≡ names_in_any o
names_any None is = absurd (false≢true is)
names_any (Some s) is = λ i. names_in (cond (is i) (Some s.names) None)

-- a directory's names are those of its slot
entry_found : (m : Slots) (d : ℕ) (name : List ℕ) → is_directory (tree_of m) d ≡ true → entry_of (tree_of m) d name ≡ get (names_at m d) name
entry_found m d name is =
    ap (λ o. get (names_in o) name) (views.names_at m d) ∙ ap (λ names. get names name) (names_any (get m d) (sym (directory_found m d) ∙ is))

-- what holds of each node that an entry has
each_of : (P : ℕ → Type 0) (o e : Option ℕ) → o ≡ e → ((x : ℕ) → e ≡ Some x → P x) → IfSome o P
each_of P None e is each = tt
each_of P (Some x) e is each = each x (sym is)

module _ (m : Slots) (nameless : Numbers) (kept : IsKept m nameless) (t : Tree) (view : tree_of m ≡ t)
    (from : ℕ) (name : List ℕ) (to : ℕ) (new : List ℕ) (n : ℕ) (named : HasName t from name n) (free : first_fault (rename_faults t from name to new) ≡ None) where
  seen_named : HasName (tree_of m) from name n
  seen_named = (λ i. entry_of (view i) from name) ∙ named

  seen_free : first_fault (rename_faults (tree_of m) from name to new) ≡ None
  seen_free = (λ i. first_fault (rename_faults (view i) from name to new)) ∙ free

  seen_can : CanRename (tree_of m) from name to new
  seen_can = can_rename (tree_of m) from name to new seen_free

  pub seen_target : IsSome (get m to)
  seen_target = slot_of_directory m to seen_can.target

  module _ (o : Option ℕ) (entry : o ≡ entry_of t to new) where
    entry_is : o ≡ entry_of (tree_of m) to new
    entry_is = entry ∙ sym (λ i. entry_of (view i) to new)

    pub seen_entry : o ≡ get (names_at m to) new
    seen_entry = entry_is ∙ entry_found m to new seen_can.target

    pub seen_old_slot : IfSome o (λ x. IsSome (get m x))
    seen_old_slot = each_of (λ x. IsSome (get m x)) o (entry_of (tree_of m) to new) entry_is (slot_of_name m kept.tree to new)

    pub seen_old_links : IfSome o (λ x. 1 ≤ links_at m x)
    seen_old_links = each_of (λ x. 1 ≤ links_at m x) o (entry_of (tree_of m) to new) entry_is (links_of_name m kept.tree to new)

    module _ (differ : false ≡ is_same (Some n) o) (put : Slots) (given : put ≡ with_entry (without_name m o) to new n) where
      seen_differ : is_same (entry_of (tree_of m) from name) (entry_of (tree_of m) to new) ≡ false
      seen_differ = ap (λ a. is_same a (entry_of (tree_of m) to new)) seen_named ∙ ap (is_same (Some n)) (sym entry_is) ∙ sym differ

      put_there : (q : ℕ) → IsSome (get m q) → IsSome (get put q)
      put_there q there =
          ap (λ x. is_some (get x q)) given
          ∙ found_alike (λ s. record s { names = insert s.names new n }) (without_name m o) to is_some (λ _. refl) q
          ∙ lost_alike m is_some (λ _. refl) (λ _. refl) o q
          ∙ there

      pub seen_source : IsSome (get put from)
      seen_source = put_there from (slot_of_directory m from seen_can.source)

      module _ (dropped : Slots) (less : dropped ≡ without_entry put from name) where
        pub seen_node : IsSome (get dropped n)
        seen_node =
            ap (λ x. is_some (get x n)) less
            ∙ found_alike (λ s. record s { names = remove s.names name }) put from is_some (λ _. refl) n
            ∙ put_there n (slot_of_name m kept.tree from name n seen_named)

        module _ (moved : Slots) (reported : moved ≡ with_parent dropped n (Some to)) where
          moved_is : moved ≡ with_parent (without_entry (with_entry (without_name m (entry_of (tree_of m) to new)) to new n) from name) n (Some to)
          moved_is =
              reported
              ∙ ap (λ x. with_parent x n (Some to)) less
              ∙ ap (λ x. with_parent (without_entry x from name) n (Some to)) given
              ∙ ap (λ o. with_parent (without_entry (with_entry (without_name m o) to new n) from name) n (Some to)) entry_is

          pub seen_renamed : tree_of moved ≡ renamed t from name to new
          seen_renamed =
              ap tree_of moved_is
              ∙ moved_view m nameless kept from name to new n seen_named seen_free seen_differ
              ∙ (λ i. renamed (view i) from name to new)

          pub kept_renamed : (numbers : Numbers) → numbers ≡ listed_if_lost m nameless o → IsKept moved numbers
          kept_renamed numbers listed =
              rw moved_is (rw (listed ∙ ap (listed_if_lost m nameless) entry_is)
              (moved_kept m nameless kept from name to new n seen_named seen_free seen_differ))
