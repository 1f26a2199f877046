-- States whose file tree is another one.
--     all_of_both, node_of_tree, change_of_tree, put_both      what holds of both lists of updates;  updates of a node and of a change are of
--         the tree alone;  updates after others
--     with_tree u S, tree_same      the state S with the tree u;  updates of the tree lead to such a state
--     put_change      the updates of a change of the state's tree give it the tree that the change leads to
--     counted_nearly_valid      a nearly valid state in which a process has made more is so
--     with_tree_nearly_valid      and so is one with another tree in which no file and no directory is missing
--     change_nearly_valid      and so is one where a call has made so many nodes and changed the tree
use Rattle.std.proofs.Common.{◌≡◌, ◌≢◌, ℕ, zero, suc, ◌+◌, ◌^◌, ◌<◌, ◌≤◌, true, false, List, [], ◌∷◌, ◌++◌, map, Option, Some, None, IsSome, is_some, refl, sym, ap, subst, ◌∙◌, arith}
use Rattle.std.specs.List.{AllByRecursion}
use Rattle.std.specs.Ordering.{nat_cmp}
use Rattle.std.specs.FinMap.{FinMap, get, insert}
use Rattle.std.specs.Option.{option_map}
use Rattle.std.specs.Prelude.{◌||◌}
use Rattle.abi_types.specs.declared.node.Node.{Node}
use Rattle.abi_types.specs.declared.open_kind.OpenKind.{OpenKind}
use Rattle.abi_types.specs.declared.open_kind.OpenKind.TheVariants.{File, Directory, End, Terminal, Process}
use Rattle.maps.specs.Closure.{member}
use Rattle.maps.specs.Maps.{get-insert-same, get-insert-other, same_numbers}
use Rattle.tree_model.specs.Changes.{is_file}
use Rattle.tree_model.specs.Entries.{here_or_other}
use Rattle.tree_model.specs.Tree.{IsTree, is_directory}
use Rattle.kernel_model.specs.Families.Numbers.{can_number, next_object, object_of, made_more, process_updates}
use Rattle.kernel_model.specs.OwnChanges.{IsChangedBy}
use Rattle.kernel_model.specs.State.{State, Names, ProcessState, Tree, tree_of, Part, Update, counts_in, has_part, part_of, put_all, put_one, set_node, set_names, set_process}
use Rattle.kernel_model.specs.Families.TreeUpdates.{Change, change_updates, names_update, names_updates, node_update, nodes_updates}
use Rattle.kernel_model.specs.Valid.{HasBehind, IsNearlyValid, IsUncounted}
use Rattle.kernel_model.proofs.FileMeanings.{IsOfTree}
use Rattle.kernel_model.proofs.NameMeanings.{IsChangeOf}
use Rattle.kernel_model.proofs.ObjectNumbers.{fewer_fit}
use Rattle.kernel_model.proofs.OwnChanges.{more_grows, set_process_nearly_valid}
use Rattle.kernel_model.proofs.Parts.{number_apart, outside_cons, own_stays}
use Rattle.kernel_model.proofs.Tests.{none_is_no, not_true}

-- ---- lists of updates

pub put_both : (us ws : List Update) (S : State) → put_all (us ++ ws) S ≡ put_all ws (put_all us S)
put_both [] ws S = refl
put_both (u ∷ us) ws S = put_both us ws (put_one u S)

-- a part that neither sets
pub both_unset : (us ws : List Update) (q : Part) → has_part (map part_of us) q ≡ false → has_part (map part_of ws) q ≡ false
    → has_part (map part_of (us ++ ws)) q ≡ false
both_unset [] ws q first second = second
both_unset (u ∷ us) ws q first second =
    let apart = outside_cons (part_of u) (map part_of us) q first in
    ap (λ b. b || has_part (map part_of (us ++ ws)) q) apart.0 ∙ both_unset us ws q apart.1 second

pub all_of_both : (P : Update → Type 0) (us ws : List Update) → AllByRecursion P us → AllByRecursion P ws → AllByRecursion P (us ++ ws)
all_of_both P [] ws first second = second
all_of_both P (u ∷ us) ws first second = (first.0, all_of_both P us ws first.1 second)

pub node_of_tree : (n : ℕ) (o : Option Node) → AllByRecursion IsOfTree (node_update n o)
node_of_tree n None = tt
node_of_tree n (Some node) = (tt, tt)

nodes_of_tree : (t : Tree) (ns : List ℕ) → AllByRecursion IsOfTree (nodes_updates t ns)
nodes_of_tree t [] = tt
nodes_of_tree t (n ∷ ns) = all_of_both IsOfTree (node_update n (get t.nodes n)) (nodes_updates t ns) (node_of_tree n (get t.nodes n)) (nodes_of_tree t ns)

name_of_tree : (d : ℕ) (o : Option Names) → AllByRecursion IsOfTree (names_update d o)
name_of_tree d None = tt
name_of_tree d (Some names) = (tt, tt)

names_of_tree : (t : Tree) (ds : List ℕ) → AllByRecursion IsOfTree (names_updates t ds)
names_of_tree t [] = tt
names_of_tree t (d ∷ ds) = all_of_both IsOfTree (names_update d (get t.names d)) (names_updates t ds) (name_of_tree d (get t.names d)) (names_of_tree t ds)

pub change_of_tree : (c : Change) → AllByRecursion IsOfTree (change_updates c)
change_of_tree c =
    all_of_both IsOfTree (nodes_updates c.tree c.nodes) (names_updates c.tree c.directories) (nodes_of_tree c.tree c.nodes)
    (names_of_tree c.tree c.directories)

-- ---- the tree that a change leads to

abbrev pub with_tree : Tree → State → State
with_tree u S = record S { nodes = u.nodes; names = u.names }

-- updates of the tree change nothing else
one_same : (u : Update) (w : Tree) (S : State) → IsOfTree u → with_tree w (put_one u S) ≡ with_tree w S
one_same (set_node n node) w S h = refl
one_same (set_names n names) w S h = refl
one_same u w S h = absurd h

pub tree_same : (us : List Update) (S : State) → AllByRecursion IsOfTree us → put_all us S ≡ with_tree (tree_of (put_all us S)) S
tree_same [] S h = refl
tree_same (u ∷ us) S h = tree_same us (put_one u S) h.1 ∙ one_same u (tree_of (put_all us (put_one u S))) S h.0

-- a value put, where there is one
abbrev put_some : {X : Type 0} → FinMap nat_cmp X → ℕ → Option X → FinMap nat_cmp X
put_some m n None = m
put_some m n (Some x) = insert m n x

-- the values of these numbers as the source has them
abbrev put_from : {X : Type 0} → FinMap nat_cmp X → List ℕ → FinMap nat_cmp X → FinMap nat_cmp X
put_from source [] m = m
put_from source (n ∷ ns) m = put_from source ns (put_some m n (get source n))

put_node_updates : (t : Tree) (ns : List ℕ) (us : List Update) (S : State)
    → put_all (nodes_updates t ns ++ us) S ≡ put_all us (record S { nodes = put_from t.nodes ns S.nodes })
put_node_updates t [] us S = refl
put_node_updates t (n ∷ ns) us S =
    elim (get t.nodes n) as (λ o. put_all ((node_update n o ++ nodes_updates t ns) ++ us) S
    ≡ put_all us (record S { nodes = put_from t.nodes ns (put_some S.nodes n o) })) [
      | None ↦ put_node_updates t ns us S
      | Some node ↦ put_node_updates t ns us (put_one (set_node n node) S)
    ]

put_names_updates : (t : Tree) (ds : List ℕ) (S : State) → put_all (names_updates t ds) S ≡ record S { names = put_from t.names ds S.names }
put_names_updates t [] S = refl
put_names_updates t (d ∷ ds) S =
    elim (get t.names d) as (λ o. put_all (names_update d o ++ names_updates t ds) S ≡ record S { names = put_from t.names ds (put_some S.names d o) }) [
      | None ↦ put_names_updates t ds S
      | Some names ↦ put_names_updates t ds (put_one (set_names d names) S)
    ]

-- the map differs from the source in these numbers at most, and has nothing that the source lacks
record IsBut {X : Type 0} (source m : FinMap nat_cmp X) (ns : List ℕ) : Type 0 where
  same : (q : ℕ) → member q ns ≡ false → get m q ≡ get source q
  none : (q : ℕ) → get source q ≡ None → get m q ≡ None

module _ {X : Type 0} (source : FinMap nat_cmp X) where
  -- with one value more from the source it differs in the others at most
  put_some_same : (m : FinMap nat_cmp X) (n : ℕ) (ns : List ℕ) (o : Option X) → get source n ≡ o → IsBut source m (n ∷ ns)
      → IsBut source (put_some m n o) ns
  put_some_same m n ns None at but = record {
    same = λ q apart. here_or_other (λ k. get m k ≡ get source k) n q (but.none n at ∙ sym at)
        (λ other. but.same q (ap (λ b. b || member q ns) (number_apart q n (λ e. other (sym e))) ∙ apart));
    none = but.none;
  }
  put_some_same m n ns (Some x) at but = record {
    same = λ q apart. here_or_other (λ k. get (insert m n x) k ≡ get source k) n q (get-insert-same m n x ∙ sym at)
        (λ other. get-insert-other m n x q other ∙ but.same q (ap (λ b. b || member q ns) (number_apart q n (λ e. other (sym e))) ∙ apart));
    none = λ q no. get-insert-other m n x q (λ e. none_is_no x (sym no ∙ ap (get source) e ∙ at)) ∙ but.none q no;
  }

  put_from_is : (ns : List ℕ) (m : FinMap nat_cmp X) → IsBut source m ns → put_from source ns m ≡ source
  put_from_is [] m but = same_numbers m source (λ q. but.same q refl)
  put_from_is (n ∷ ns) m but = put_from_is ns (put_some m n (get source n)) (put_some_same m n ns (get source n) refl but)

no_some : {X : Type 0} (o : Option X) → (IsSome o → ⊥) → o ≡ None
no_some None h = refl
no_some (Some x) h = absurd (h refl)

-- a tree's names after a change are there where they were
names_stay : (t : Tree) (new new_nodes : ℕ) (c : Change) → IsTree t → IsChangeOf t new new_nodes c → (d : ℕ) → get c.tree.names d ≡ None → get t.names d ≡ None
names_stay t new new_nodes c tree change d none =
    no_some (get t.names d) (λ there.
    not_true (sym (ap is_some none) ∙ (change.tree.directories d).1 (change.directories d ((tree.directories d).0 there))))

pub put_change : (S : State) (new new_nodes : ℕ) (c : Change) → IsTree (tree_of S) → IsChangeOf (tree_of S) new new_nodes c
    → put_all (change_updates c) S ≡ with_tree c.tree S
put_change S new new_nodes c tree change =
    let nodes : put_from c.tree.nodes c.nodes S.nodes ≡ c.tree.nodes =
    put_from_is c.tree.nodes c.nodes S.nodes (record { same = λ q apart. sym (change.nodes q apart); none = change.stays }) in
    let names : put_from c.tree.names c.directories S.names ≡ c.tree.names =
    put_from_is c.tree.names c.directories S.names
    (record { same = λ q apart. sym (change.names q apart); none = names_stay (tree_of S) new new_nodes c tree change }) in
    put_node_updates c.tree c.nodes (names_updates c.tree c.directories) S
    ∙ put_names_updates c.tree c.directories (record S { nodes = put_from c.tree.nodes c.nodes S.nodes })
    ∙ (λ i. record S { nodes = nodes i; names = names i })

-- ---- valid states

-- the file tree is another one, in which no file and no directory is missing, nor any node that some process is yet to make
pub record IsTreeAfter (S : State) (u : Tree) : Type 0 where
  pub tree : IsTree u
  pub files : (q : ℕ) → is_file (tree_of S) q ≡ true → is_file u q ≡ true
  pub directories : (q : ℕ) → is_directory (tree_of S) q ≡ true → is_directory u q ≡ true
  pub made : (p k : ℕ) → p < 0xffffffff → IsUncounted S p k → k < 2 ^ 32 → get u.nodes (object_of p k) ≡ None

behind_after : (S : State) (u : Tree) → IsTreeAfter S u → (kind : OpenKind) → HasBehind S kind → HasBehind (with_tree u S) kind
behind_after S u after (File q offset flags) h = after.files q h
behind_after S u after (Directory q flags) h = after.directories q h
behind_after S u after (End reads writes flags form) h = h
behind_after S u after (Terminal which flags) h = h
behind_after S u after (Process p object) h = h

pub with_tree_nearly_valid : (S : State) (u : Tree) → IsTreeAfter S u → IsNearlyValid S → IsNearlyValid (with_tree u S)
with_tree_nearly_valid S u after v = record {
  named = v.named;
  behind = λ o kind e. behind_after S u after kind (v.behind o kind e);
  sole = v.sole;
  tables = v.tables;
  owns = v.owns;
  numbered = v.numbered;
  made = v.made;
  made_nodes = after.made;
  born = v.born;
  tree = after.tree;
  waits = v.waits;
  channels = v.channels;
  made_channels = v.made_channels;
}

-- ---- a process that has made more

-- the state in which the process has made so many more
abbrev pub counted : ℕ → ℕ → State → State
counted p count S = put_all (process_updates p count (get S.processes p)) S

-- what holds of the state holds where nothing is made, and where more is
pub counted_holds : (P : State → Type 0) (S : State) (p count : ℕ) → P S
    → ((own : ProcessState) → get S.processes p ≡ Some own → P (put_one (set_process p (made_more count own)) S)) → P (counted p count S)
counted_holds P S p zero none some = none
counted_holds P S p (suc count) none some =
    elim (get S.processes p) as (λ o. get S.processes p ≡ o → P (put_all (process_updates p (suc count) o) S)) [
      | None ↦ λ _. none
      | Some own ↦ λ there. some own there
    ] refl

pub counted_tree : (S : State) (p count : ℕ) → tree_of (counted p count S) ≡ tree_of S
counted_tree S p count = counted_holds (λ (T : State). tree_of T ≡ tree_of S) S p count refl (λ own _. refl)

pub counted_nearly_valid : (S : State) (p count : ℕ) → IsNearlyValid S → IsNearlyValid (counted p count S)
counted_nearly_valid S p count v =
    counted_holds IsNearlyValid S p count v (λ own there.
    set_process_nearly_valid S p own (made_more count own) there (more_grows count own) v)

-- the process has made so many more objects, and else what it had of its own
pub counted_own : (S : State) (p count : ℕ) → IsChangedBy (λ own. own) (get S.processes p) (get (counted p count S).processes p)
counted_own S p count =
    counted_holds (λ (T : State). IsChangedBy (λ own. own) (get S.processes p) (get T.processes p)) S p count (own_stays (get S.processes p)) (λ own there.
    (count, get-insert-same S.processes p (made_more count own) ∙ sym (ap (option_map (made_more count)) there)))

pub counted_more : (S : State) (p count : ℕ) → can_number p count (get S.processes p) ≡ true
    → (counts_in (get (counted p count S).processes p)).objects ≡ (counts_in (get S.processes p)).objects + count
counted_more S p zero can = omega arith
counted_more S p (suc count) can =
    elim (get S.processes p) as (λ o. get S.processes p ≡ o → can_number p (suc count) o ≡ true
    → (counts_in (get (put_all (process_updates p (suc count) o) S).processes p)).objects ≡ (counts_in o).objects + suc count) [
      | None ↦ λ _ can. absurd (not_true can)
      | Some own ↦ λ there _. ap (λ o. (counts_in o).objects) (get-insert-same S.processes p (made_more (suc count) own))
    ] refl can

-- ---- a call that has made so many objects and changed the tree

-- a number is that of one object alone
pub one_object : (p q j k : ℕ) → object_of q k ≡ object_of p j → k < 2 ^ 32 → j < 2 ^ 32 → (q ≡ p) × (k ≡ j)
one_object p q j k same small fits = (omega (arith, same, small, fits), omega (arith, same, small, fits))

module _ (S : State) (p count new new_nodes : ℕ) (c : Change) (can : can_number p count (get S.processes p) ≡ true) (change : IsChangeOf (tree_of S) new new_nodes c)
    (is_next : new_nodes ≢ 0 → new ≡ next_object p (get S.processes p) 1) (enough : new_nodes ≤ count) (v : IsNearlyValid S) where
  counted_change : IsChangeOf (tree_of (counted p count S)) new new_nodes c
  counted_change = subst (λ t. IsChangeOf t new new_nodes c) (sym (counted_tree S p count)) change

  -- the new node is one of those that the process has made now
  new_is_counted : (q k : ℕ) → IsUncounted (counted p count S) q k → k < 2 ^ 32 → object_of q k ≡ new → new_nodes ≢ 0 → ⊥
  new_is_counted q k beyond small is some =
      let one : 1 ≤ count = omega (arith, some, enough) in
      let fits = fewer_fit p 1 count (get S.processes p) (omega arith) one can in
      let at = one_object p q ((counts_in (get S.processes p)).objects + 1) k (is ∙ is_next some) small fits.1 in
      let number : k ≡ (counts_in (get S.processes p)).objects + 1 = at.1 in
      let total : (counts_in (get (counted p count S).processes p)).objects ≡ (counts_in (get S.processes p)).objects + count = counted_more S p count can in
      let past : (counts_in (get (counted p count S).processes p)).objects < k = subst (λ r. (counts_in (get (counted p count S).processes r)).objects < k) at.0 beyond.1 in
      omega (arith, number, total, past, one)

  still_unmade : (q k : ℕ) → q < 0xffffffff → IsUncounted (counted p count S) q k → k < 2 ^ 32 → get c.tree.nodes (object_of q k) ≡ None
  still_unmade q k small beyond fits =
      let before : get (tree_of S).nodes (object_of q k) ≡ None =
      ap (λ (t : Tree). get t.nodes (object_of q k)) (sym (counted_tree S p count)) ∙ (counted_nearly_valid S p count v).made_nodes q k small beyond fits in
      elim (get c.tree.nodes (object_of q k)) as (λ o. get c.tree.nodes (object_of q k) ≡ o → o ≡ None) [
        | None ↦ λ _. refl
        | Some node ↦ λ there. (let fresh = change.fresh (object_of q k) node before there in absurd (new_is_counted q k beyond fits fresh.0 fresh.1))
      ] refl

  pub change_nearly_valid : IsNearlyValid (with_tree c.tree (counted p count S))
  change_nearly_valid =
      with_tree_nearly_valid (counted p count S) c.tree
      (record { tree = change.tree; files = counted_change.files; directories = counted_change.directories; made = still_unmade })
      (counted_nearly_valid S p count v)

  -- such updates lead to that state
  pub put_counted : put_all (process_updates p count (get S.processes p) ++ change_updates c) S ≡ with_tree c.tree (counted p count S)
  put_counted =
      put_both (process_updates p count (get S.processes p)) (change_updates c) S
      ∙ put_change (counted p count S) new new_nodes c (counted_nearly_valid S p count v).tree counted_change
