-- Slots after one of them changed: what is found in them, the tree that is seen, and the list of the nodes without a name.
--     found_same, found_other, found_alike      the changed slot;  each other one;  what is found alike before and after
--     with_parent-view, one_name_less-view, without_name-view, with_entry-view, without_entry-view      the tree after each change
--     slot_of_name, links_of_name, not_the_root      the node of a name has a slot, counts a name, and is not the root
--     lost_other, lost_parent, lost_listed      after a node lost a name
use Rattle.std.proofs.Common.{◌≡◌, ◌≢◌, ℕ, ◌-◌, ◌≤◌, ◌==◌, ◌&&◌, not, Bool, true, false, cond, List, Option, Some, None, IsSome, IfSome, is_some, option_map, inr, refl, sym, ap, ◌∙◌, arith}
use Rattle.std.specs.Prelude.{if◌then◌else◌}
use Rattle.std.proofs.lemmas.Bool.{false≢true, false_from_ne_true, eqb-true, eq-eqb}
use Rattle.std.proofs.lemmas.Bool.Decides.{same_from_decides}
use Rattle.std.specs.FinMap.{get, insert, remove}
use Rattle.maps.specs.Closure.{changed-insert}
use Rattle.maps.specs.Maps.{get-insert-same, get-insert-other, insert_self, same_numbers}
use Rattle.tree_model.specs.declared.limits.TheConstants.{ROOT}
use Rattle.tree_model.specs.Tree.{Tree, Names, HasName, IsTree, is_directory, is_directory_kind, links_in, names_in, names_of}
use Rattle.tree_model.specs.Changes.{drop_name, one_less, one_less_in, put_name, with_count, without_old}
use Rattle.tree_model.specs.Entries.{here_or_other}
use Rattle.tree_model.specs.Climbing.{no_parent}
use Rattle.tree_model.specs.Facts.{links_of_named}
use Rattle.file_tree.specs.declared.slot.Slot.{Slot}
use Rattle.file_tree.specs.Kept.{Slots, Numbers, nodes_of, names_of_slots, tree_of, is_directory_slot, parent_in, links_in_slot, links_at, IsListed, changed_slot, with_entry, without_entry, one_name_less, with_parent, without_name, listed_if_last, listed_if_lost}
use Rattle.file_tree.proofs.Views.{names_found, node_found, names_at, directory_found}
use Rattle.file_tree.proofs.Stays.{ListedAt, listed_at, is_nameless_slot}
use Rattle.file_tree.proofs.Edits.{edited_view}

-- ---- what is found

mapped_alike : {A : Type 0} (f : Option Slot → A) (g : Slot → Slot) → ((s : Slot) → f (Some (g s)) ≡ f (Some s)) → (o : Option Slot) → f (option_map g o) ≡ f o
mapped_alike f g same None = refl
mapped_alike f g same (Some s) = same s

module _ (g : Slot → Slot) (m : Slots) (n : ℕ) where
  changed_same : (o : Option Slot) → get m n ≡ o → get (changed_slot g m n o) n ≡ option_map g o
  changed_same None none = none
  changed_same (Some s) there = get-insert-same m n (g s)

  changed_other : (o : Option Slot) (q : ℕ) → q ≢ n → get (changed_slot g m n o) q ≡ get m q
  changed_other None q other = refl
  changed_other (Some s) q other = get-insert-other m n (g s) q other

  pub found_same : get (changed_slot g m n (get m n)) n ≡ option_map g (get m n)
  found_same = changed_same (get m n) refl

  pub found_other : (q : ℕ) → q ≢ n → get (changed_slot g m n (get m n)) q ≡ get m q
  found_other = changed_other (get m n)

  -- what the change leaves of a slot is found alike at each number
  pub found_alike : {A : Type 0} (f : Option Slot → A) → ((s : Slot) → f (Some (g s)) ≡ f (Some s)) → (q : ℕ)
      → f (get (changed_slot g m n (get m n)) q) ≡ f (get m q)
  found_alike f same q =
      here_or_other (λ x. f (get (changed_slot g m n (get m n)) x) ≡ f (get m x)) n q
      (ap f found_same ∙ mapped_alike f g same (get m n)) (λ other. ap f (found_other q other))

-- ---- the tree that is seen

node_there : (m : Slots) (n : ℕ) (s : Slot) → get m n ≡ Some s → get (nodes_of m) n ≡ Some s.node
node_there m n s there = node_found m n ∙ ap (option_map (λ s. s.node)) there

-- what a slot says of the directory above is not seen
pub with_parent-view : (m : Slots) (n : ℕ) (parent : Option ℕ) → tree_of (with_parent m n parent) ≡ tree_of m
with_parent-view m n parent =
    elim (get m n) as (λ o. get m n ≡ o → tree_of (changed_slot (λ s. record s { parent = parent }) m n o) ≡ tree_of m) [
      | None ↦ λ _. refl
      | Some s ↦ λ there.
          edited_view m n s (record s { parent = parent }) there refl refl
          ∙ (λ i. record { nodes = insert_self (nodes_of m) n s.node (node_there m n s there) i; names = names_of_slots m })
    ] refl

pub one_name_less-view : (m : Slots) (n : ℕ) → tree_of (one_name_less m n) ≡ one_less (tree_of m) n
one_name_less-view m n =
    elim (get m n) as (λ o. get m n ≡ o
    → tree_of (changed_slot (λ s. record s { node = with_count s.node (s.node.links - 1) }) m n o) ≡ one_less (tree_of m) n) [
      | None ↦ λ none. sym (ap (one_less_in (tree_of m) n) (node_found m n ∙ ap (option_map (λ s. s.node)) none))
      | Some s ↦ λ there.
          edited_view m n s (record s { node = with_count s.node (s.node.links - 1) }) there refl refl
          ∙ sym (ap (one_less_in (tree_of m) n) (node_there m n s there))
    ] refl

pub without_name-view : (m : Slots) (o : Option ℕ) → tree_of (without_name m o) ≡ without_old (tree_of m) o
without_name-view m None = refl
without_name-view m (Some n) = with_parent-view (one_name_less m n) n None ∙ one_name_less-view m n

-- a directory's slot with other names
module _ (m : Slots) (d : ℕ) (g : Names → Names) where
  -- the tree with these names in the directory
  abbrev named_so : Tree
  named_so = record { nodes = nodes_of m; names = insert (names_of_slots m) d (g (names_of (tree_of m) d)) }

  module _ (s : Slot) (there : get m d ≡ Some s) (is : is_directory_kind s.node.kind ≡ true) where
    abbrev slot : Slot
    slot = record s { names = g s.names }

    names_here : names_of (tree_of m) d ≡ s.names
    names_here = ap names_in (names_at m d ∙ ap names_found there ∙ (λ i. cond (is i) (Some s.names) None))

    tables_named : names_of_slots (insert m d slot) ≡ insert (names_of_slots m) d (g (names_of (tree_of m) d))
    tables_named = same_numbers _ _ (λ q.
        names_at (insert m d slot) q
        ∙ here_or_other (λ x. names_found (get (insert m d slot) x) ≡ get (insert (names_of_slots m) d (g (names_of (tree_of m) d))) x) d q
        (ap names_found (get-insert-same m d slot) ∙ (λ i. cond (is i) (Some (g s.names)) None) ∙ ap (λ names. Some (g names)) (sym names_here)
        ∙ sym (get-insert-same (names_of_slots m) d _))
        (λ other. ap names_found (get-insert-other m d slot q other) ∙ sym (names_at m q) ∙ sym (get-insert-other (names_of_slots m) d _ q other)))

    slot_named : tree_of (insert m d slot) ≡ named_so
    slot_named = λ i. record {
      nodes = (changed-insert (λ (_ : ℕ) (s : Slot). s.node) m d slot ∙ insert_self (nodes_of m) d s.node (node_there m d s there)) i;
      names = tables_named i;
    }

  changed_names-view : is_directory (tree_of m) d ≡ true → tree_of (changed_slot (λ s. record s { names = g s.names }) m d (get m d)) ≡ named_so
  changed_names-view is =
      elim (get m d) as (λ o. get m d ≡ o → is_directory_slot o ≡ true → tree_of (changed_slot (λ s. record s { names = g s.names }) m d o) ≡ named_so) [
        | None ↦ λ _ none. absurd (false≢true none)
        | Some s ↦ λ there kind. slot_named s there kind
      ] refl (sym (directory_found m d) ∙ is)

pub with_entry-view : (m : Slots) (d : ℕ) (name : List ℕ) (n : ℕ) → is_directory (tree_of m) d ≡ true
    → tree_of (with_entry m d name n) ≡ put_name (tree_of m) d name n
with_entry-view m d name n is = changed_names-view m d (λ names. insert names name n) is

pub without_entry-view : (m : Slots) (d : ℕ) (name : List ℕ) → is_directory (tree_of m) d ≡ true
    → tree_of (without_entry m d name) ≡ drop_name (tree_of m) d name
without_entry-view m d name is = changed_names-view m d (λ names. remove names name) is

-- ---- the node of a name

links_mapped : (o : Option Slot) → links_in (option_map (λ s. s.node) o) ≡ links_in_slot o
links_mapped None = refl
links_mapped (Some s) = refl

some_mapped : (o : Option Slot) → is_some (option_map (λ s. s.node) o) ≡ is_some o
some_mapped None = refl
some_mapped (Some s) = refl

directory_slot_there : (o : Option Slot) → is_directory_slot o ≡ true → IsSome o
directory_slot_there None e = absurd (false≢true e)
directory_slot_there (Some s) e = refl

-- a directory has a slot
pub slot_of_directory : (m : Slots) (d : ℕ) → is_directory (tree_of m) d ≡ true → IsSome (get m d)
slot_of_directory m d is = directory_slot_there (get m d) (sym (directory_found m d) ∙ is)

module _ (m : Slots) (tree : IsTree (tree_of m)) (d : ℕ) (name : List ℕ) (n : ℕ) (named : HasName (tree_of m) d name n) where
  pub slot_of_name : IsSome (get m n)
  slot_of_name = sym (ap is_some (node_found m n) ∙ some_mapped (get m n)) ∙ tree.led d name n named

  pub links_of_name : 1 ≤ links_at m n
  links_of_name =
      let seen = ap links_in (node_found m n) ∙ links_mapped (get m n) in
      let some = links_of_named (tree_of m) tree d name n named in
      omega arith

  pub not_the_root : n ≢ ROOT
  not_the_root same = no_parent (tree_of m) tree n (inr same) d name named

-- ---- after a node lost a name

parent_mapped : (o : Option Slot) → parent_in (option_map {T = Slot} (λ s. record s { parent = None }) o) ≡ None
parent_mapped None = refl
parent_mapped (Some s) = refl

module _ (m : Slots) where
  pub lost_other : (o : Option ℕ) (q : ℕ) → o ≢ Some q → get (without_name m o) q ≡ get m q
  lost_other None q other = refl
  lost_other (Some n) q other =
      let apart : q ≢ n = λ same. other (ap Some (sym same)) in
      found_other (λ s. record s { parent = None }) (one_name_less m n) n q apart
      ∙ found_other (λ s. record s { node = with_count s.node (s.node.links - 1) }) m n q apart

  pub lost_parent : (n : ℕ) → parent_in (get (without_name m (Some n)) n) ≡ None
  lost_parent n =
      ap parent_in (found_same (λ s. record s { parent = None }) (one_name_less m n) n) ∙ parent_mapped (get (one_name_less m n) n)

  -- what losing a name leaves of a slot is found alike at each number
  pub lost_alike : {A : Type 0} (f : Option Slot → A) → ((s : Slot) → f (Some (record s { parent = None })) ≡ f (Some s))
      → ((s : Slot) → f (Some (record s { node = with_count s.node (s.node.links - 1) })) ≡ f (Some s))
      → (o : Option ℕ) (q : ℕ) → f (get (without_name m o) q) ≡ f (get m q)
  lost_alike f parent count None q = refl
  lost_alike f parent count (Some n) q =
      found_alike (λ s. record s { parent = None }) (one_name_less m n) n f parent q
      ∙ found_alike (λ s. record s { node = with_count s.node (s.node.links - 1) }) m n f count q

-- a slot that counts a name is of no node without one
counts_some : (n : ℕ) (o : Option Slot) → 1 ≤ links_in_slot o → is_nameless_slot n o ≡ false
counts_some n None some = absurd (omega arith)
counts_some n (Some s) some =
    let counts : (s.node.links == 0) ≡ false = false_from_ne_true _ (λ none. let zero = eqb-true s.node.links 0 none in absurd (omega arith)) in
    ap (λ b. b && not (n == ROOT)) counts

and_true : (b : Bool) → (b && true) ≡ b
and_true true = refl
and_true false = refl

-- the slot of a node that lost a name is one of a node without a name where it counted one alone
counted_one : (n : ℕ) → n ≢ ROOT → (o : Option Slot) → 1 ≤ links_in_slot o
    → is_nameless_slot n (option_map {T = Slot} (λ s. record s { parent = None })
    (option_map {T = Slot} (λ s. record s { node = with_count s.node (s.node.links - 1) }) o)) ≡ (links_in_slot o == 1)
counted_one n other None some = absurd (omega arith)
counted_one n other (Some s) some =
    let not_root : (n == ROOT) ≡ false = false_from_ne_true _ (λ same. other (eqb-true n ROOT same)) in
    ap (λ b. ((s.node.links - 1) == 0) && not b) not_root
    ∙ and_true ((s.node.links - 1) == 0)
    ∙ same_from_decides _ _ (λ e. e, λ e. e) (
      λ one. let is = eqb-true s.node.links 1 one in eq-eqb (s.node.links - 1) 0 (omega arith),
      λ none. let zero = eqb-true (s.node.links - 1) 0 none in eq-eqb s.node.links 1 (omega arith),
    )

module _ (m : Slots) (nameless : Numbers) (listed : IsListed m nameless) where
  module _ (n : ℕ) (some : 1 ≤ links_at m n) (other : n ≢ ROOT) where
    last_here : ListedAt (without_name m (Some n)) (listed_if_last m nameless n) n
    last_here =
        elim (links_at m n == 1) as (λ b. is_some (get (if b then insert nameless n tt else nameless) n) ≡ b) [
          | true ↦ ap is_some (get-insert-same nameless n tt)
          | false ↦ listed_at m nameless listed n ∙ counts_some n (get m n) some
        ]
        ∙ sym (ap (is_nameless_slot n) (found_same (λ s. record s { parent = None }) (one_name_less m n) n)
        ∙ ap (λ o. is_nameless_slot n (option_map {T = Slot} (λ s. record s { parent = None }) o))
        (found_same (λ s. record s { node = with_count s.node (s.node.links - 1) }) m n)
        ∙ counted_one n other (get m n) some)

    last_there : (q : ℕ) → q ≢ n → ListedAt (without_name m (Some n)) (listed_if_last m nameless n) q
    last_there q apart =
        elim (links_at m n == 1) as (λ b. is_some (get (if b then insert nameless n tt else nameless) q) ≡ is_some (get nameless q)) [
          | true ↦ ap is_some (get-insert-other nameless n tt q apart)
          | false ↦ refl
        ]
        ∙ listed_at m nameless listed q
        ∙ sym (ap (is_nameless_slot q) (lost_other m (Some n) q (λ same. apart (sym (same_of n q same)))))
      where
        same_of : (n q : ℕ) → Some n ≡ Some q → n ≡ q
        same_of n q e = cc

    last_listed : (q : ℕ) → ListedAt (without_name m (Some n)) (listed_if_last m nameless n) q
    last_listed q = here_or_other (ListedAt (without_name m (Some n)) (listed_if_last m nameless n)) n q last_here (last_there q)

  -- the list has a node that lost its last name
  pub lost_listed : (o : Option ℕ) → IfSome o (λ n. (1 ≤ links_at m n) × (n ≢ ROOT)) → (q : ℕ) → ListedAt (without_name m o) (listed_if_lost m nameless o) q
  lost_listed None named q = listed_at m nameless listed q
  lost_listed (Some n) named q = last_listed n named.0 named.1 q
