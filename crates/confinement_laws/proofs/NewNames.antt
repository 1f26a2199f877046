-- Which names come into a tree by a change of it.
--     ComesBy R t u      where u has a name that t hasn't, R holds of its node
--     node_comes, link_comes, unlink_comes, move_comes      so it is of a new node, of one more name, of a name that goes, and of a name that moves
--     ComesOf R t comes, outcome_comes      what such a call comes to, and the state after it
--     change_comes      the state once a change of the tree is set
--     kept_comes      what sets no names
use Rattle.std.proofs.Common.{◌≡◌, ◌⊎◌, inl, inr, ℕ, zero, suc, Bool, true, false, cond, List, [], ◌∷◌, ◌++◌, Option, Some, None, refl, sym, ap, subst, ◌∙◌}
use Rattle.std.specs.Prelude.{⊤}
use Rattle.std.specs.FinMap.{empty, get, insert}
use Rattle.abi_types.specs.declared.node.Node.{Node}
use Rattle.abi_types.specs.declared.node.NodeKind.{NodeKind}
use Rattle.abi_types.specs.declared.node.Times.{Times}
use Rattle.maps.specs.Maps.{get-insert-other, get-insert-same}
use Rattle.tree_model.specs.Changes.{drop_name, is_same, linked, made, moved_to, new_node, one_more, put_name, renamed, replaced, unlinked, without_old}
use Rattle.tree_model.specs.Entries.{HasName-drop_name, HasName-put_name, empty_answers, here_or_other, names-without_old, one_more-changes}
use Rattle.tree_model.specs.Tree.{HasName, entry_of, is_directory_kind, names_in}
use Rattle.kernel_model.specs.Families.FileChanges.{modified, retimed}
use Rattle.kernel_model.specs.Families.NameMaking.{node_of, with_new_names, with_node}
use Rattle.kernel_model.specs.Families.NameMeaning.{NameOutcome, Refuses, LeadsOut, Changes, outcome_of}
use Rattle.kernel_model.specs.Families.NameMoving.{move_or_stay, with_link, with_move, with_new_count_of}
use Rattle.kernel_model.specs.Families.NameRemoving.{recounted, without_name}
use Rattle.kernel_model.specs.Families.Numbers.{can_number, process_updates}
use Rattle.kernel_model.specs.Families.TreeUpdates.{Change, change_updates, names_update, names_updates, node_update, nodes_updates}
use Rattle.kernel_model.specs.Outcome.{Outcome}
use Rattle.kernel_model.specs.Proper.{IsUnset}
use Rattle.kernel_model.specs.State.{Names, ProcessState, State, Tree, at_names, put_all, put_one, set_names, tree_of}
use Rattle.kernel_model.proofs.NameProper.{change_holds}
use Rattle.kernel_model.proofs.Parts.{put_keeps}
use Rattle.kernel_model.proofs.Reworks.{retimed_reworks}
use Rattle.kernel_model.proofs.Tests.{none_is_no}
use Rattle.kernel_model.proofs.TreeUpdates.{put_both}

-- where the second tree has a name that the first hasn't, this holds of its node
abbrev pub ComesBy : (ℕ → Type 0) → Tree → Tree → Type 0
ComesBy R t u = (d : ℕ) (name : List ℕ) (n : ℕ) → HasName u d name n → HasName t d name n ⊎ R n

-- what such a call comes to that changes the tree
abbrev pub ComesOf : (ℕ → Type 0) → Tree → NameOutcome → Type 0
ComesOf R t (Refuses errno) = ⊤
ComesOf R t (LeadsOut component) = ⊤
ComesOf R t (Changes c) = ComesBy R t c.tree

-- the names in the directory of one tree, where another has the same
pub same_name : (t u : Tree) (d : ℕ) (name : List ℕ) (n : ℕ) → get u.names d ≡ get t.names d → HasName u d name n → HasName t d name n
same_name t u d name n same h = sym (ap (λ o. get (names_in o) name) same) ∙ h

module _ (R : ℕ → Type 0) where
  pub none_comes : (t : Tree) → ComesBy R t t
  none_comes t d name n h = inl h

  pub same_comes : (t u : Tree) → u.names ≡ t.names → ComesBy R t u
  same_comes t u same d name n h = inl (same_name t u d name n (ap (λ m. get m d) same) h)

  twice_comes : (t u v : Tree) → ComesBy R t u → ComesBy R u v → ComesBy R t v
  twice_comes t u v first second d name n h =
      elim (second d name n h) [
        | inl before ↦ first d name n before
        | inr new ↦ inr new
      ]

  put_comes : (t : Tree) (d : ℕ) (name : List ℕ) (n : ℕ) → R n → ComesBy R t (put_name t d name n)
  put_comes t d name n new e other m h =
      elim (HasName-put_name t d name n e other m h) [
        | inl here ↦ inr (subst R (sym here.2) new)
        | inr away ↦ inl away.1
      ]

  drop_comes : (t : Tree) (d : ℕ) (name : List ℕ) → ComesBy R t (drop_name t d name)
  drop_comes t d name e other m h = inl (HasName-drop_name t d name e other m h).1

  retimed_comes : (t u : Tree) (n : ℕ) (times : Times → Times) → ComesBy R t u → ComesBy R t (retimed u n times)
  retimed_comes t u n times by = twice_comes t u (retimed u n times) by (same_comes u (retimed u n times) (retimed_reworks u n times).names)

  -- ---- a new node

  -- a directory that is new has no names
  emptied : (t : Tree) (n d : ℕ) (name : List ℕ) (m : ℕ) → get (names_in (get (insert t.names n empty) d)) name ≡ Some m → HasName t d name m
  emptied t n d name m h =
      here_or_other (λ k. get (names_in (get (insert t.names n empty) k)) name ≡ Some m → HasName t k name m) n d
      (λ there. absurd (none_is_no m (sym (ap (λ o. get (names_in o) name) (get-insert-same t.names n empty) ∙ empty_answers name) ∙ there)))
      (λ other there. sym (ap (λ o. get (names_in o) name) (get-insert-other t.names n empty d other)) ∙ there) h

  fresh_comes : (t : Tree) (n : ℕ) (node : Node) → ComesBy R t (new_node t n node)
  fresh_comes t n node d name m =
      elim (is_directory_kind node.kind) as (λ b. get (names_in (get (cond b (insert t.names n empty) t.names) d)) name ≡ Some m → HasName t d name m ⊎ R m) [
        | true ↦ λ h. inl (emptied t n d name m h)
        | false ↦ λ h. inl h
      ]

  pub node_comes : (kind : NodeKind) (now new : ℕ) (t : Tree) (d : ℕ) (name : List ℕ) → R new → ComesBy R t (with_node kind now new t d name).tree
  node_comes kind now new t d name is =
      let node : Node = node_of kind now in
      retimed_comes t (made t d name new node) d (modified now)
      (twice_comes t (new_node t new node) (made t d name new node) (fresh_comes t new node) (put_comes (new_node t new node) d name new is))

  -- ---- names that come, go and move

  pub link_comes : (now : ℕ) (t : Tree) (n d : ℕ) (name : List ℕ) → R n → ComesBy R t (with_link now t n d name).tree
  link_comes now t n d name is =
      retimed_comes t (with_new_names now (linked t d name n) d) n (recounted now)
      (retimed_comes t (linked t d name n) d (modified now)
      (twice_comes t (one_more t n) (linked t d name n) (same_comes t (one_more t n) (one_more-changes t n).names) (put_comes (one_more t n) d name n is)))

  pub unlink_comes : (now : ℕ) (t : Tree) (d : ℕ) (name : List ℕ) (n : ℕ) → ComesBy R t (without_name now t d name n).tree
  unlink_comes now t d name n =
      let less : Tree = without_old t (entry_of t d name) in
      retimed_comes t (with_new_names now (unlinked t d name) d) n (recounted now)
      (retimed_comes t (unlinked t d name) d (modified now)
      (twice_comes t less (unlinked t d name) (same_comes t less (names-without_old t (entry_of t d name))) (drop_comes less d name)))

  counted_comes : (now : ℕ) (t u : Tree) (o : Option ℕ) → ComesBy R t u → ComesBy R t (with_new_count_of now u o)
  counted_comes now t u None by = by
  counted_comes now t u (Some n) by = retimed_comes t u n (recounted now) by

  module _ (t : Tree) (from : ℕ) (name : List ℕ) (to : ℕ) (new : List ℕ) (moved : (n : ℕ) → HasName t from name n → R n) where
    moved_comes : (o : Option ℕ) → entry_of t from name ≡ o → ComesBy R t (moved_to t from name to new o)
    moved_comes None is = none_comes t
    moved_comes (Some n) is =
        let less : Tree = without_old t (entry_of t to new) in
        twice_comes t (drop_name less from name) (put_name (drop_name less from name) to new n)
        (twice_comes t less (drop_name less from name) (same_comes t less (names-without_old t (entry_of t to new))) (drop_comes less from name))
        (put_comes (drop_name less from name) to new n (moved n is))

    either_comes : (b : Bool) (u v : Tree) → ComesBy R t u → ComesBy R t v → ComesBy R t (cond b u v)
    either_comes true u v first second = first
    either_comes false u v first second = second

    renamed_comes : ComesBy R t (renamed t from name to new)
    renamed_comes =
        either_comes (is_same (entry_of t from name) (entry_of t to new)) t (moved_to t from name to new (entry_of t from name)) (none_comes t)
        (moved_comes (entry_of t from name) refl)

    with_move_comes : (now : ℕ) → ComesBy R t (with_move now t from name to new).tree
    with_move_comes now =
        counted_comes now t (with_new_names now (with_new_names now (renamed t from name to new) from) to) (replaced t from name to new)
        (retimed_comes t (with_new_names now (renamed t from name to new) from) to (modified now)
        (retimed_comes t (renamed t from name to new) from (modified now) renamed_comes))

    pub move_comes : (now : ℕ) → ComesBy R t (move_or_stay now t from name to new).tree
    move_comes now =
        elim (is_same (entry_of t from name) (entry_of t to new)) as
        (λ b. ComesBy R t (cond b (record { tree = t; nodes = []; directories = [] }) (with_move now t from name to new)).tree) [
          | true ↦ none_comes t
          | false ↦ with_move_comes now
        ]

  -- ---- the state after a change

  node_keeps : (n : ℕ) (o : Option Node) (U : State) → (put_all (node_update n o) U).names ≡ U.names
  node_keeps n None U = refl
  node_keeps n (Some node) U = refl

  nodes_keep : (t : Tree) (ns : List ℕ) (U : State) → (put_all (nodes_updates t ns) U).names ≡ U.names
  nodes_keep t [] U = refl
  nodes_keep t (n ∷ ns) U =
      ap (λ (V : State). V.names) (put_both (node_update n (get t.nodes n)) (nodes_updates t ns) U)
      ∙ nodes_keep t ns (put_all (node_update n (get t.nodes n)) U) ∙ node_keeps n (get t.nodes n) U

  -- the names in a directory are as they were, or as in the tree
  abbrev IsOfEither : Tree → State → State → ℕ → Type 0
  IsOfEither t U V d = (get V.names d ≡ get U.names d) ⊎ (get V.names d ≡ get t.names d)

  set_one : (t : Tree) (e : ℕ) (names : Names) (U : State) (d : ℕ) → get t.names e ≡ Some names → IsOfEither t U (put_one (set_names e names) U) d
  set_one t e names U d is =
      here_or_other (λ k. (get (insert U.names e names) k ≡ get U.names k) ⊎ (get (insert U.names e names) k ≡ get t.names k)) e d
      (inr (get-insert-same U.names e names ∙ sym is)) (λ other. inl (get-insert-other U.names e names d other))

  either_twice : (t : Tree) (U V W : State) (d : ℕ) → IsOfEither t U V d → IsOfEither t V W d → IsOfEither t U W d
  either_twice t U V W d first second =
      elim second [
        | inl same ↦ elim first [ inl before ↦ inl (same ∙ before) | inr is ↦ inr (same ∙ is) ]
        | inr is ↦ inr is
      ]

  one_set : (t : Tree) (e : ℕ) (o : Option Names) (U : State) (d : ℕ) → get t.names e ≡ o → IsOfEither t U (put_all (names_update e o) U) d
  one_set t e None U d is = inl refl
  one_set t e (Some names) U d is = set_one t e names U d is

  all_set : (t : Tree) (ds : List ℕ) (U : State) (d : ℕ) → IsOfEither t U (put_all (names_updates t ds) U) d
  all_set t [] U d = inl refl
  all_set t (e ∷ ds) U d =
      let V : State = put_all (names_update e (get t.names e)) U in
      subst (λ W. IsOfEither t U W d) (sym (put_both (names_update e (get t.names e)) (names_updates t ds) U))
      (either_twice t U V (put_all (names_updates t ds) V) d (one_set t e (get t.names e) U d refl) (all_set t ds V d))

  change_set : (c : Change) (U : State) (d : ℕ) → IsOfEither c.tree U (put_all (change_updates c) U) d
  change_set c U d =
      let V : State = put_all (nodes_updates c.tree c.nodes) U in
      subst (λ W. IsOfEither c.tree U W d) (sym (put_both (nodes_updates c.tree c.nodes) (names_updates c.tree c.directories) U))
      (either_twice c.tree U V (put_all (names_updates c.tree c.directories) V) d (inl (ap (λ m. get m d) (nodes_keep c.tree c.nodes U)))
      (all_set c.tree c.directories V d))

  pub change_comes : (t : Tree) (c : Change) (U : State) → U.names ≡ t.names → ComesBy R t c.tree → ComesBy R t (tree_of (put_all (change_updates c) U))
  change_comes t c U same by d name n h =
      elim (change_set c U d) [
        | inl kept ↦ inl (same_name t (tree_of (put_all (change_updates c) U)) d name n (kept ∙ ap (λ m. get m d) same) h)
        | inr is ↦ by d name n (same_name c.tree (tree_of (put_all (change_updates c) U)) d name n is h)
      ]

  -- what a process numbers is no name
  pub process_names : (p count : ℕ) (own : Option ProcessState) (U : State) → (put_all (process_updates p count own) U).names ≡ U.names
  process_names p zero own U = refl
  process_names p (suc count) None U = refl
  process_names p (suc count) (Some own) U = refl

  pub counted_change_comes : (t : Tree) (p count : ℕ) (own : Option ProcessState) (c : Change) (U : State) → U.names ≡ t.names → ComesBy R t c.tree
      → ComesBy R t (tree_of (put_all (process_updates p count own ++ change_updates c) U))
  counted_change_comes t p count own c U same by =
      subst (λ V. ComesBy R t (tree_of V)) (sym (put_both (process_updates p count own) (change_updates c) U))
      (change_comes t c (put_all (process_updates p count own) U) (process_names p count own U ∙ same) by)

  pub outcome_comes : (U : State) (p count : ℕ) (own : Option ProcessState) (comes : NameOutcome)
      → (can_number p count own ≡ true → ComesOf R (tree_of U) comes) → ComesBy R (tree_of U) (tree_of (put_all (outcome_of p own count comes).updates U))
  outcome_comes U p count own (Refuses errno) by = none_comes (tree_of U)
  outcome_comes U p count own (LeadsOut component) by = none_comes (tree_of U)
  outcome_comes U p count own (Changes c) by =
      change_holds (λ (o : Outcome). ComesBy R (tree_of U) (tree_of (put_all o.updates U))) p count own c (λ _. none_comes (tree_of U))
      (λ can. counted_change_comes (tree_of U) p count own c U refl (by can))

  -- what sets no names
  pub kept_comes : (U : State) (o : Outcome) → ((d : ℕ) → IsUnset o (at_names d)) → ComesBy R (tree_of U) (tree_of (put_all o.updates U))
  kept_comes U o unset d name n h =
      inl (same_name (tree_of U) (tree_of (put_all o.updates U)) d name n (put_keeps o.updates U (at_names d) (unset d)) h)
