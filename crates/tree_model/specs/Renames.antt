-- A rename leaves a tree, and what it answers.
--     CanRename, can_rename      what holds where a rename is not refused;  it does where the table has no fault
--     CanReplace      what holds besides where the new name is another node's, or no node's
--     renamed-tree      a rename that is not refused leaves a tree
--     renamed-same      two names of one node stay as they are
--     renamed-name      the node has the new name
--     renamed-old_name      the old name is gone
--     renamed-other_names      each other name is as it was
--     renamed-replaced, renamed-other_nodes      the node that lost its name counts one less;  each other is as it was
--     renamed-links      so each counts as many names as before, but for that one
--     KeepsNodes-renamed      no node came or went, and none changed its kind
use Rattle.std.proofs.Common.{◌≡◌, ◌≢◌, ◌⊎◌, ℕ, ◌+◌, ◌-◌, Bool, true, false, not, ◌&&◌, inl, inr, List, [], Option, Some, None, IsSome, is_some, refl, sym, ap, subst, ◌∙◌, arith}
use Rattle.std.specs.Prelude.{if◌then◌else◌}
use Rattle.std.proofs.lemmas.Bool.{eq-eqb, eqb-true, false≢true, not-false}
use Rattle.std.proofs.lemmas.Bool.Decides.{eqb_tells}
use Rattle.std.proofs.lemmas.Option.{none-some}
use Rattle.std.specs.FinMap.{empty, get}
use Rattle.std.specs.Option.{option_map}
use Rattle.maps.specs.Closure.{member}
use Rattle.maps.specs.Maps.{weight}
use Rattle.tree_model.specs.declared.limits.TheConstants.{ROOT}
use Rattle.tree_model.specs.Tree.{Tree, HasName, HasNoCycle, IsTree, below, entry_of, is_directory, links_of, names_count, names_of, one_for}
use Rattle.tree_model.specs.Changes.{first_fault, drop_name, is_full, is_same, leads_to_directory, moved_to, put_name, rename_faults, renamed, replace_faults, replaced, with_count, without_old}
use Rattle.tree_model.specs.Entries.{IsElsewhere, HasName-drop_name, HasName-put_name, KeepsNodes, KeepsNodes-drop_name, KeepsNodes-itself, KeepsNodes-put_name, KeepsNodes-twice, KeepsNodes-without_old, entry_of-drop_name-other, entry_of-drop_name-same, entry_of-put_name-other, entry_of-put_name-same, entry_of-without_old, names_of-drop_name-other, names_of-put_name-other, names_of-without_old, one_less-changes}
use Rattle.tree_model.specs.Counts.{links_of-without_old, names_count-drop_name, names_count-put_name, names_count-without_old, one_for-other}
use Rattle.tree_model.specs.Faults.{NoneHolds, name_there, none_holds, no_names, not_removed}
use Rattle.tree_model.specs.Facts.{links_of_held, links_of_named, names_of_name, table_of_directory}
use Rattle.tree_model.specs.Heights.{no_cycle-fewer, no_cycle-put_name, no_own_name}
use Rattle.tree_model.specs.Keeps.{tree_where_nodes_stay}

-- ---- where a rename is not refused

-- what holds where the node n comes into the directory under a name that another node has, or none
pub record CanReplace (t : Tree) (n to : ℕ) (old : Option ℕ) : Type 0 where
  -- the directory isn't below n
  pub beside : member to (below t n) ≡ false
  -- what loses the name is a directory exactly where n is one
  pub kinds : (m : ℕ) → old ≡ Some m → is_directory t m ≡ is_directory t n
  -- and has no names in it
  pub bare : (m : ℕ) → old ≡ Some m → names_of t m ≡ empty

-- a name may be moved to another place
pub record CanRename (t : Tree) (from : ℕ) (name : List ℕ) (to : ℕ) (new : List ℕ) : Type 0 where
  pub source : is_directory t from ≡ true
  pub target : is_directory t to ≡ true
  -- the target has a name, or is the root
  pub held : links_of t to ≡ 0 → to ≡ ROOT
  -- the node of the name
  pub node : ℕ
  pub named : HasName t from name node
  -- what holds besides where both names aren't of one node
  pub apart : is_same (entry_of t from name) (entry_of t to new) ≡ false → CanReplace t node to (entry_of t to new)

same_kinds : (moved old : Bool) → (moved && not old) ≡ false → (not moved && old) ≡ false → old ≡ moved
same_kinds true true a b = refl
same_kinds true false a b = absurd (false≢true (sym a))
same_kinds false true a b = absurd (false≢true (sym b))
same_kinds false false a b = refl

can_replace : (t : Tree) (n to : ℕ) (old : Option ℕ) → NoneHolds (replace_faults t (Some n) to old) → CanReplace t n to old
can_replace t n to old none = record {
  beside = none.0;
  kinds = λ m is.
      same_kinds (is_directory t n) (is_directory t m)
      (sym (ap (λ o. is_some o && (is_directory t n && not (leads_to_directory t o))) is) ∙ none.1.0)
      (sym (ap (λ o. is_some o && (not (is_directory t n) && leads_to_directory t o)) is) ∙ none.1.1.0);
  bare = λ m is. no_names t m (sym (ap (is_full t) is) ∙ none.1.1.1.0);
}

pub can_rename : (t : Tree) (from : ℕ) (name : List ℕ) (to : ℕ) (new : List ℕ)
    → first_fault (rename_faults t from name to new) ≡ None → CanRename t from name to new
can_rename t from name to new e =
    let none = none_holds (rename_faults t from name to new) e in
    let there = name_there t from name none.1.1.0 in
    let after = none.1.1.1 in
    record {
      source = not-false (is_directory t from) none.1.0;
      target = not-false (is_directory t to) after.1.0;
      held = not_removed t to after.1.1.0;
      node = there.0;
      named = there.1;
      apart = λ differ. can_replace t there.0 to (entry_of t to new)
          (subst (λ o. NoneHolds (replace_faults t o to (entry_of t to new))) there.1
          (subst (λ s. NoneHolds (if s then [] else replace_faults t (entry_of t from name) to (entry_of t to new))) differ after.1.1.1));
    }

-- ---- the tree after a name was moved

-- the two names of one node are at two places
places_differ : (t : Tree) (from : ℕ) (name : List ℕ) (to : ℕ) (new : List ℕ) (n : ℕ) → HasName t from name n
    → is_same (entry_of t from name) (entry_of t to new) ≡ false → IsElsewhere from name to new
places_differ t from name to new n named differ d e =
    let one : entry_of t to new ≡ Some n = ap (λ x. entry_of t x new) d ∙ ap (entry_of t from) e ∙ named in
    false≢true (sym differ ∙ ap (λ o. is_same o (entry_of t to new)) named ∙ ap (is_same (Some n)) one ∙ eq-eqb n n refl)

module _ (t : Tree) (from : ℕ) (name : List ℕ) (to : ℕ) (new : List ℕ) (n : ℕ) where
  -- the tree in which the node of the new name counts a name less
  abbrev less : Tree
  less = without_old t (entry_of t to new)

  -- and the old name is gone
  abbrev dropped : Tree
  dropped = drop_name less from name

  -- and the new name is the node's
  abbrev moved : Tree
  moved = put_name dropped to new n

  -- a name is the new one, or was there at another place than the old name and the new one
  HasName-moved : (d : ℕ) (other : List ℕ) (m : ℕ) → HasName moved d other m
      → ((d ≡ to) × (other ≡ new) × (m ≡ n)) ⊎ (IsElsewhere to new d other × IsElsewhere from name d other × HasName t d other m)
  HasName-moved d other m h =
      elim (HasName-put_name dropped to new n d other m h) [
        | inl came ↦ inl came
        | inr before ↦
            let old = HasName-drop_name less from name d other m before.1 in
            inr (before.0, old.0, sym (entry_of-without_old t (entry_of t to new) d other) ∙ old.1)
      ]

  entry_of-moved-other : (d : ℕ) (other : List ℕ) → IsElsewhere to new d other → IsElsewhere from name d other → entry_of moved d other ≡ entry_of t d other
  entry_of-moved-other d other away off =
      entry_of-put_name-other dropped to new n d other away
      ∙ entry_of-drop_name-other less from name d other off
      ∙ entry_of-without_old t (entry_of t to new) d other

  -- no node comes or goes, and no directory's table of names does
  KeepsNodes-moved : IsSome (get t.names from) → IsSome (get t.names to) → KeepsNodes t moved
  KeepsNodes-moved source target =
      let a = KeepsNodes-without_old t (entry_of t to new) in
      let b = KeepsNodes-drop_name less from name (a.tables from ∙ source) in
      let ab = KeepsNodes-twice t less dropped a b in
      KeepsNodes-twice t dropped moved ab (KeepsNodes-put_name dropped to new n (ab.tables to ∙ target))

  -- what had the new name has one name less, and each other node as many as before
  names_count-moved : HasName t from name n → IsElsewhere from name to new
      → (q : ℕ) → names_count moved q + weight (one_for q) (entry_of t to new) ≡ names_count t q
  names_count-moved named off q =
      let put = names_count-put_name dropped to new n q in
      let drop = names_count-drop_name less from name q in
      let same = names_count-without_old t (entry_of t to new) q in
      let old = ap (weight (one_for q)) (entry_of-drop_name-other less from name to new off ∙ entry_of-without_old t (entry_of t to new) to new) in
      let gone = ap (weight (one_for q)) (entry_of-without_old t (entry_of t to new) from name ∙ named) in
      omega arith

  -- and what had the new name counts one less
  links_of-moved : IsTree t → (q : ℕ) → links_of moved q + weight (one_for q) (entry_of t to new) ≡ links_of t q
  links_of-moved tree = links_of-without_old t (entry_of t to new) (λ m is. links_of_named t tree to new m is)

  no_cycle-moved : IsTree t → member to (below t n) ≡ false → HasNoCycle moved
  no_cycle-moved tree beside =
      let more = put_name t to new n in
      no_cycle-fewer more moved
      (λ d other m h. elim (HasName-moved d other m h) [
        | inl came ↦
            ap (λ x. entry_of more x other) came.0 ∙ ap (entry_of more to) came.1 ∙ entry_of-put_name-same t to new n ∙ ap Some (sym came.2)
        | inr before ↦ entry_of-put_name-other t to new n d other before.0 ∙ before.2
      ])
      (no_cycle-put_name t to new n tree.led tree.acyclic beside)

  -- a directory that counts no name afterwards had no names in it
  bare_before : IsTree t → ((m : ℕ) → entry_of t to new ≡ Some m → names_of t m ≡ empty)
      → (d : ℕ) → is_directory t d ≡ true → links_of moved d ≡ 0 → names_of t d ≡ empty
  bare_before tree bare d is none =
      let count = links_of-moved tree d in
      elim (entry_of t to new) as (λ o. entry_of t to new ≡ o → names_of t d ≡ empty) [
        | None ↦ λ e. let nothing = ap (weight (one_for d)) e in tree.bare d is (omega arith)
        | Some m ↦ λ e. elim (eqb_tells m d) [
          | inl same ↦ sym (ap (names_of t) same.1) ∙ bare m e
          | inr other ↦ let nothing = ap (weight (one_for d)) e ∙ one_for-other d m other.1 in tree.bare d is (omega arith)
        ]
      ] refl

  -- a directory that counts no name afterwards is not the target
  not_target : IsTree t → links_of t to ≢ 0 → (d : ℕ) → links_of moved d ≡ 0 → d ≢ to
  not_target tree linked d none same =
      let count = links_of-moved tree to in
      let nothing = sym (ap (links_of moved) same) ∙ none in
      elim (entry_of t to new) as (λ o. entry_of t to new ≡ o → ⊥) [
        | None ↦ λ e. let zero = ap (weight (one_for to)) e in omega arith
        | Some m ↦ λ e. elim (eqb_tells m to) [
          | inl itself ↦ no_own_name t tree.acyclic to new (e ∙ ap Some itself.1)
          | inr other ↦ let zero = ap (weight (one_for to)) e ∙ one_for-other to m other.1 in omega arith
        ]
      ] refl

  moved-tree : IsTree t → is_directory t from ≡ true → is_directory t to ≡ true → links_of t to ≢ 0 → HasName t from name n
      → IsElsewhere from name to new → CanReplace t n to (entry_of t to new) → IsTree moved
  moved-tree tree source target linked named off can =
      tree_where_nodes_stay t moved tree
      (KeepsNodes-moved (table_of_directory t tree from source) (table_of_directory t tree to target))
      (λ q. let lost = links_of-moved tree q in let names = names_count-moved named off q in omega arith)
      (λ d other m h. elim (HasName-moved d other m h) [
        | inl came ↦ ap (λ x. is_some (get t.nodes x)) came.2 ∙ tree.led from name n named
        | inr before ↦ tree.led d other m before.2
      ])
      (λ d is. let most = tree.single d is in let count = links_of-moved tree d in omega arith)
      (λ d is none.
      let empty_before = bare_before tree can.bare d is none in
      names_of-put_name-other dropped to new n d (not_target tree linked d none)
      ∙ names_of-drop_name-other less from name d (λ same. names_of_name t from name n named (sym (ap (names_of t) same) ∙ empty_before))
      ∙ names_of-without_old t (entry_of t to new) d
      ∙ empty_before)
      (no_cycle-moved tree can.beside)

-- ---- a rename

-- each other node than that of the name stays
nodes-without_old : (t : Tree) (o : Option ℕ) (q : ℕ) → o ≢ Some q → get (without_old t o).nodes q ≡ get t.nodes q
nodes-without_old t None q other = refl
nodes-without_old t (Some m) q other = (one_less-changes t m).others q (λ same. other (ap Some (sym same)))

same_entry : (o p : Option ℕ) → is_same o p ≡ true → o ≡ p
same_entry None p e = absurd (false≢true e)
same_entry (Some n) None e = absurd (false≢true e)
same_entry (Some n) (Some m) e = ap Some (eqb-true n m e)

module _ (t : Tree) (from : ℕ) (name : List ℕ) (to : ℕ) (new : List ℕ) where
  -- whether both names are of one node
  abbrev alike : Bool
  alike = is_same (entry_of t from name) (entry_of t to new)

  -- what holds of the tree, where both names are of one node, and of what moving the name makes of it, holds of the renamed tree
  renamed_cases : (P : Tree → Type 0) → (alike ≡ true → P t) → (alike ≡ false → P (moved_to t from name to new (entry_of t from name)))
      → P (renamed t from name to new)
  renamed_cases P same differ =
      elim alike as (λ b. alike ≡ b → P (if b then t else moved_to t from name to new (entry_of t from name))) [ true ↦ same | false ↦ differ ] refl

  -- the same with the node of the name
  renamed_by : (P : Tree → Type 0) (n : ℕ) → HasName t from name n → (alike ≡ true → P t) → (alike ≡ false → P (moved t from name to new n))
      → P (renamed t from name to new)
  renamed_by P n named same differ =
      renamed_cases P same (λ e. subst (λ o. P (moved_to t from name to new o)) (sym named) (differ e))

  -- two names of one node stay as they are
  pub renamed-same : is_same (entry_of t from name) (entry_of t to new) ≡ true → renamed t from name to new ≡ t
  renamed-same e = ap (λ b. if b then t else moved_to t from name to new (entry_of t from name)) e

  -- the node has the new name
  pub renamed-name : (n : ℕ) → HasName t from name n → HasName (renamed t from name to new) to new n
  renamed-name n named =
      renamed_by (λ u. HasName u to new n) n named
      (λ e. sym (same_entry (entry_of t from name) (entry_of t to new) e) ∙ named)
      (λ e. entry_of-put_name-same (dropped t from name to new n) to new n)

  -- the old name is gone
  pub renamed-old_name : (n : ℕ) → HasName t from name n → is_same (entry_of t from name) (entry_of t to new) ≡ false
      → entry_of (renamed t from name to new) from name ≡ None
  renamed-old_name n named differ =
      renamed_by (λ u. entry_of u from name ≡ None) n named
      (λ e. absurd (false≢true (sym differ ∙ e)))
      (λ e.
      entry_of-put_name-other (dropped t from name to new n) to new n from name (λ d same. places_differ t from name to new n named differ (sym d) (sym same))
      ∙ entry_of-drop_name-same (less t from name to new n) from name)

  -- each other name is as it was
  pub renamed-other_names : (d : ℕ) (other : List ℕ) → IsElsewhere from name d other → IsElsewhere to new d other
      → entry_of (renamed t from name to new) d other ≡ entry_of t d other
  renamed-other_names d other off away =
      renamed_cases (λ u. entry_of u d other ≡ entry_of t d other) (λ _. refl)
      (λ _. elim (entry_of t from name) as (λ o. entry_of (moved_to t from name to new o) d other ≡ entry_of t d other) [
        | None ↦ refl
        | Some n ↦ entry_of-moved-other t from name to new n d other away off
      ])

  -- a node that doesn't lose its name to the moved one is as it was
  pub renamed-other_nodes : (q : ℕ) → replaced t from name to new ≢ Some q → get (renamed t from name to new).nodes q ≡ get t.nodes q
  renamed-other_nodes q other =
      renamed_cases (λ u. get u.nodes q ≡ get t.nodes q) (λ _. refl)
      (λ differ. elim (entry_of t from name) as (λ o. get (moved_to t from name to new o).nodes q ≡ get t.nodes q) [
        | None ↦ refl
        | Some n ↦ nodes-without_old t (entry_of t to new) q
            (λ is. other (ap (λ b. if b then None else entry_of t to new) differ ∙ is))
      ])

  -- the one that does counts a name less
  pub renamed-replaced : (n : ℕ) → HasName t from name n → (m : ℕ) → replaced t from name to new ≡ Some m
      → get (renamed t from name to new).nodes m ≡ option_map (λ node. with_count node (node.links - 1)) (get t.nodes m)
  renamed-replaced n named m is =
      renamed_by (λ u. get u.nodes m ≡ option_map (λ node. with_count node (node.links - 1)) (get t.nodes m)) n named
      (λ e. absurd (none-some m (sym (ap (λ b. if b then None else entry_of t to new) e) ∙ is)))
      (λ e.
      ap (λ o. get (without_old t o).nodes m) (sym (ap (λ b. if b then None else entry_of t to new) e) ∙ is)
      ∙ (one_less-changes t m).node)

  -- so each node counts as many names as before, and one less where it lost its name
  pub renamed-links : IsTree t → (n : ℕ) → HasName t from name n
      → (q : ℕ) → links_of (renamed t from name to new) q + weight (one_for q) (replaced t from name to new) ≡ links_of t q
  renamed-links tree n named q =
      renamed_by (λ u. links_of u q + weight (one_for q) (replaced t from name to new) ≡ links_of t q) n named
      (λ e. let none = ap (λ b. weight (one_for q) (if b then None else entry_of t to new)) e in omega arith)
      (λ e.
      let lost = ap (λ b. weight (one_for q) (if b then None else entry_of t to new)) e in
      let sum = links_of-moved t from name to new n tree q in
      omega arith)

  -- no node comes or goes, and none changes its kind
  pub KeepsNodes-renamed : IsTree t → CanRename t from name to new → KeepsNodes t (renamed t from name to new)
  KeepsNodes-renamed tree can =
      renamed_by (KeepsNodes t) can.node can.named (λ _. KeepsNodes-itself t)
      (λ _. KeepsNodes-moved t from name to new can.node (table_of_directory t tree from can.source) (table_of_directory t tree to can.target))

  -- a rename that is not refused leaves a tree
  pub renamed-tree : IsTree t → first_fault (rename_faults t from name to new) ≡ None → IsTree (renamed t from name to new)
  renamed-tree tree none =
      let can = can_rename t from name to new none in
      renamed_by IsTree can.node can.named (λ _. tree)
      (λ differ. moved-tree t from name to new can.node tree can.source can.target (links_of_held t tree to can.held) can.named
      (places_differ t from name to new can.node can.named differ) (can.apart differ))
