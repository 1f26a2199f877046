-- Each change that is not refused leaves a tree a tree.
--     tree_where_nodes_stay      where no node comes or goes, what has to be shown
--     made-tree      after a new node with its first name
--     linked-tree      after one more name of a node
--     unlinked-tree      after a name goes
--     with_bytes-tree, with_times-tree      after a file has other bytes;  after a node has other times
--     forgotten-tree      after a node without a name goes
use Rattle.std.proofs.Common.{◌≡◌, ◌≢◌, ◌↔◌, ℕ, ◌+◌, ◌≤◌, true, false, inl, inr, List, None, Some, IsSome, is_some, refl, sym, ap, subst, ◌∙◌, arith}
use Rattle.std.proofs.lemmas.Bool.{false≢true, false_from_ne_true}
use Rattle.std.proofs.lemmas.Bool.Decides.{same_from_decides}
use Rattle.std.specs.FinMap.{empty, get}
use Rattle.abi_types.specs.declared.node.Node.{Node}
use Rattle.abi_types.specs.declared.node.NodeKind.{NodeKind}
use Rattle.abi_types.specs.declared.node.NodeKind.TheVariants as kind
use Rattle.abi_types.specs.declared.node.Times.{Times}
use Rattle.maps.specs.Closure.{member}
use Rattle.maps.specs.Maps.{get-insert-same, get-insert-other, get-remove-same, get-remove-other, weight}
use Rattle.tree_model.specs.declared.limits.TheConstants.{ROOT}
use Rattle.tree_model.specs.Tree.{Tree, HasName, HasNoCycle, IsTree, below, entry_of, is_directory, is_directory_kind, is_directory_node, links_in, links_of, names_count, names_in, names_of, one_for}
use Rattle.tree_model.specs.Changes.{first_fault, forgotten, is_absent, is_file, is_file_kind, is_file_node, linked, link_faults, made, make_faults, new_node, one_more, unlinked, unlink_faults, with_bytes, with_times, without_old}
use Rattle.tree_model.specs.Entries.{KeepsNodes, KeepsNodes-changed, KeepsNodes-drop_name, KeepsNodes-one_more, KeepsNodes-put_name, KeepsNodes-twice, KeepsNodes-without_old, HasName-drop_name, HasName-put_name, ChangesNode, by_node, entry_of-changed, entry_of-new_node, entry_of-without_old, get-new_node-same, get-new_node-other, here_or_other, links_of-changed-kept, names_of-changed, names_of-drop_name-other, names_of-new_node, names_of-put_name-other, names_of-without_old, KeepsCount, one_more-changes, table-new_node-other, table-new_node-same, with_bytes-changes, with_times-changes}
use Rattle.tree_model.specs.Counts.{links_of-new_node-other, links_of-new_node-same, links_of-one_more, links_of-without_old, names_count-changed, names_count-drop_name, names_count-forgotten, names_count-new_node, names_count-put_new_name, names_count-without_old, one_for-other, one_for-same}
use Rattle.tree_model.specs.Faults.{CanLink, CanMake, CanUnlink, can_link, can_make, can_unlink}
use Rattle.tree_model.specs.Facts.{absent, absent_no_directory, absent_not_root, counts_names, links_of_absent, links_of_held, links_of_named, links_of_root, names_of_name, no_name_of_absent, no_name_of_nameless, no_names_in, no_table, table_of_directory, two_kinds}
use Rattle.tree_model.specs.Below.{below_induction}
use Rattle.tree_model.specs.Heights.{no_cycle-fewer, no_cycle-put_name}

-- ---- parts of the proofs

-- the field `counted`, from the counts of all numbers
pub counted_from : (u : Tree) → ((q : ℕ) → links_of u q ≡ names_count u q + one_for ROOT q)
    → (n : ℕ) (node : Node) → get u.nodes n ≡ Some node → node.links ≡ names_count u n + one_for ROOT n
counted_from u counts n node there = sym (ap links_in there) ∙ counts n

-- the tables of names stand exactly where the directories are
tables_of : (t : Tree) → IsTree t → (q : ℕ) → is_some (get t.names q) ≡ is_directory t q
tables_of t tree q = same_from_decides _ _ (λ e. e, λ e. e) ((tree.directories q).1, (tree.directories q).0)

-- the field `directories`, from the same
pub directories_from : (u : Tree) → ((q : ℕ) → is_some (get u.names q) ≡ is_directory u q) → (d : ℕ) → IsSome (get u.names d) ↔ (is_directory u d ≡ true)
directories_from u same d = (λ e. sym (same d) ∙ e, λ e. same d ∙ e)

-- nothing but itself is below what has no names in it
pub not_below_bare : (t : Tree) (n d : ℕ) → names_of t n ≡ empty → n ≢ d → member d (below t n) ≡ false
not_below_bare t n d bare apart =
    false_from_ne_true _ (λ under. apart (sym (below_induction t n (λ q. q ≡ n) refl
    (λ e name m _ is h _. absurd (names_of_name t n name m (subst (λ x. HasName t x name m) is h) bare)) d under)))

-- Where no node comes or goes: the counts move together, the node of each name is there, a directory has at most one name, and
-- one without a name has no names in it
pub tree_where_nodes_stay : (t u : Tree) → IsTree t → KeepsNodes t u
    → ((q : ℕ) → links_of u q + names_count t q ≡ links_of t q + names_count u q)
    → ((d : ℕ) (name : List ℕ) (n : ℕ) → HasName u d name n → IsSome (get t.nodes n))
    → ((d : ℕ) → is_directory t d ≡ true → links_of u d ≤ 1)
    → ((d : ℕ) → is_directory t d ≡ true → links_of u d ≡ 0 → names_of u d ≡ empty)
    → HasNoCycle u → IsTree u
tree_where_nodes_stay t u tree keeps moves led single bare acyclic = record {
  root = keeps.kinds ROOT ∙ tree.root;
  directories = directories_from u (λ q. keeps.tables q ∙ tables_of t tree q ∙ sym (keeps.kinds q));
  led = λ d name n h. keeps.nodes n ∙ led d name n h;
  counted = counted_from u (λ q. let before = counts_names t tree q in let both = moves q in omega arith);
  single = λ d is. single d (sym (keeps.kinds d) ∙ is);
  bare = λ d is none. bare d (sym (keeps.kinds d) ∙ is) none;
  acyclic = acyclic;
}

-- ---- make

module _ (t : Tree) (d : ℕ) (name : List ℕ) (n : ℕ) (node : Node) (tree : IsTree t) (can : CanMake t d name) (none : get t.nodes n ≡ None) where
  made_apart : n ≢ d
  made_apart = two_kinds t d n can.directory (absent_no_directory t n none)

  made_bare : names_of t n ≡ empty
  made_bare = no_names_in t tree n (absent_no_directory t n none)

  made_kinds : (q : ℕ) → q ≢ n → is_directory (made t d name n node) q ≡ is_directory t q
  made_kinds q other = ap is_directory_node (get-new_node-other t n node q other)

  made_new : entry_of (new_node t n node) d name ≡ None
  made_new = entry_of-new_node t n node made_bare d name ∙ can.new

  made_old : (d' : ℕ) (name' : List ℕ) (m : ℕ) → HasName (new_node t n node) d' name' m → HasName t d' name' m
  made_old d' name' m h = sym (entry_of-new_node t n node made_bare d' name') ∙ h

  -- the node of a name that was there is there still
  made_led_old : (d' : ℕ) (name' : List ℕ) (m : ℕ) → HasName (new_node t n node) d' name' m → IsSome (get (new_node t n node).nodes m)
  made_led_old d' name' m h =
      let old = made_old d' name' m h in
      ap is_some (get-new_node-other t n node m (λ same. no_name_of_absent t tree n none d' name' (old ∙ ap Some same))) ∙ tree.led d' name' m old

  made_led : (d' : ℕ) (name' : List ℕ) (m : ℕ) → HasName (made t d name n node) d' name' m → IsSome (get (made t d name n node).nodes m)
  made_led d' name' m h =
      elim (HasName-put_name (new_node t n node) d name n d' name' m h) [
        | inl new ↦ ap (λ x. is_some (get (new_node t n node).nodes x)) new.2 ∙ ap is_some (get-new_node-same t n node)
        | inr before ↦ made_led_old d' name' m before.1
      ]

  made_tables : (q : ℕ) → is_some (get (made t d name n node).names q) ≡ is_directory (made t d name n node) q
  made_tables q =
      by_node (λ x. is_some (get (made t d name n node).names x) ≡ is_directory (made t d name n node) x) n d q
      (ap is_some (get-insert-other (new_node t n node).names d _ n made_apart)
      ∙ table-new_node-same t n node (no_table t tree n (absent_no_directory t n none))
      ∙ sym (ap is_directory_node (get-new_node-same t n node)))
      (ap is_some (get-insert-same (new_node t n node).names d _) ∙ sym (made_kinds d (λ same. made_apart (sym same)) ∙ can.directory))
      (λ other away. ap is_some (get-insert-other (new_node t n node).names d _ q away) ∙ ap is_some (table-new_node-other t n node q other)
      ∙ tables_of t tree q ∙ sym (made_kinds q other))

  made_counts : (q : ℕ) → links_of (made t d name n node) q ≡ names_count (made t d name n node) q + one_for ROOT q
  made_counts q =
      let names = names_count-put_new_name (new_node t n node) d name n made_new q in
      let same = names_count-new_node t n node made_bare q in
      let before = counts_names t tree q in
      here_or_other (λ x. x ≡ q → links_of (made t d name n node) x ≡ names_count (made t d name n node) q + one_for ROOT q) n q
      (λ is.
      let one = links_of-new_node-same t n node in
      let here : one_for q n ≡ 1 = ap (one_for q) is ∙ one_for-same q in
      let zero : links_of t q ≡ 0 = ap (links_of t) (sym is) ∙ links_of_absent t n none in
      omega arith)
      (λ other _.
      let kept = links_of-new_node-other t n node q other in
      let none_here = one_for-other q n (λ e. other (sym e)) in
      omega arith) refl

  made_single : (q : ℕ) → is_directory (made t d name n node) q ≡ true → links_of (made t d name n node) q ≤ 1
  made_single q =
      here_or_other (λ x. is_directory (made t d name n node) x ≡ true → links_of (made t d name n node) x ≤ 1) n q
      (λ _. let one = links_of-new_node-same t n node in omega arith)
      (λ other is.
      let kept = links_of-new_node-other t n node q other in
      let most = tree.single q (sym (made_kinds q other) ∙ is) in
      omega arith)

  made_bare_still : (q : ℕ) → is_directory (made t d name n node) q ≡ true → links_of (made t d name n node) q ≡ 0 → names_of (made t d name n node) q ≡ empty
  made_bare_still q =
      by_node (λ x. is_directory (made t d name n node) x ≡ true → links_of (made t d name n node) x ≡ 0 → names_of (made t d name n node) x ≡ empty) n d q
      (λ _ zero. let one = links_of-new_node-same t n node in absurd (omega arith))
      (λ _ zero. absurd (links_of_held t tree d can.held (sym (links_of-new_node-other t n node d (λ same. made_apart (sym same))) ∙ zero)))
      (λ other away is zero. names_of-put_name-other (new_node t n node) d name n q away
      ∙ names_of-new_node t n node made_bare q
      ∙ tree.bare q (sym (made_kinds q other) ∙ is) (sym (links_of-new_node-other t n node q other) ∙ zero))

  made_no_cycle : HasNoCycle (made t d name n node)
  made_no_cycle =
      no_cycle-put_name (new_node t n node) d name n made_led_old
      (no_cycle-fewer t (new_node t n node) made_old tree.acyclic)
      (not_below_bare (new_node t n node) n d (names_of-new_node t n node made_bare n ∙ made_bare) made_apart)

  made_is_tree : IsTree (made t d name n node)
  made_is_tree = record {
    root = made_kinds ROOT (λ same. absent_not_root t tree n none (sym same)) ∙ tree.root;
    directories = directories_from (made t d name n node) made_tables;
    led = made_led;
    counted = counted_from (made t d name n node) made_counts;
    single = made_single;
    bare = made_bare_still;
    acyclic = made_no_cycle;
  }

-- a new node with its first name
pub made-tree : (t : Tree) (d : ℕ) (name : List ℕ) (n : ℕ) (node : Node) → IsTree t
    → first_fault (make_faults t d name) ≡ None → is_absent t n ≡ true → IsTree (made t d name n node)
made-tree t d name n node tree free new = made_is_tree t d name n node tree (can_make t d name free) (absent t n new)

-- ---- link

module _ (t : Tree) (d : ℕ) (name : List ℕ) (n : ℕ) (tree : IsTree t) (can : CanLink t d name n) where
  linked_keeps : KeepsNodes t (linked t d name n)
  linked_keeps =
      KeepsNodes-twice t (one_more t n) (linked t d name n) (KeepsNodes-one_more t n)
      (KeepsNodes-put_name (one_more t n) d name n ((KeepsNodes-one_more t n).tables d ∙ table_of_directory t tree d can.directory))

  linked_apart : n ≢ d
  linked_apart = two_kinds t d n can.directory can.kind

  linked_entries : (d' : ℕ) (name' : List ℕ) → entry_of (one_more t n) d' name' ≡ entry_of t d' name'
  linked_entries = entry_of-changed t (one_more t n) n _ (one_more-changes t n)

  linked_names : (q : ℕ) → names_of (one_more t n) q ≡ names_of t q
  linked_names = names_of-changed t (one_more t n) n _ (one_more-changes t n)

  linked_links : (q : ℕ) → q ≢ n → links_of (linked t d name n) q ≡ links_of t q
  linked_links q other =
      let sums = links_of-one_more t n can.there q in
      let none = one_for-other q n (λ e. other (sym e)) in
      omega arith

  linked_led_old : (d' : ℕ) (name' : List ℕ) (m : ℕ) → HasName (one_more t n) d' name' m → IsSome (get t.nodes m)
  linked_led_old d' name' m h = tree.led d' name' m (sym (linked_entries d' name') ∙ h)

  linked_no_cycle : HasNoCycle (linked t d name n)
  linked_no_cycle =
      no_cycle-put_name (one_more t n) d name n
      (λ d' name' m h. (KeepsNodes-one_more t n).nodes m ∙ linked_led_old d' name' m h)
      (no_cycle-fewer t (one_more t n) (λ d' name' m h. sym (linked_entries d' name') ∙ h) tree.acyclic)
      (not_below_bare (one_more t n) n d (linked_names n ∙ no_names_in t tree n can.kind) linked_apart)

  linked_is_tree : IsTree (linked t d name n)
  linked_is_tree =
      tree_where_nodes_stay t (linked t d name n) tree linked_keeps
      (λ q.
      let links = links_of-one_more t n can.there q in
      let names = names_count-put_new_name (one_more t n) d name n (linked_entries d name ∙ can.new) q in
      let same = names_count-changed t (one_more t n) n _ (one_more-changes t n) q in
      omega arith)
      (λ d' name' m h. elim (HasName-put_name (one_more t n) d name n d' name' m h) [
        | inl new ↦ ap (λ x. is_some (get t.nodes x)) new.2 ∙ can.there
        | inr before ↦ linked_led_old d' name' m before.1
      ])
      (λ q is. let same = linked_links q (λ e. two_kinds t q n is can.kind (sym e)) in let most = tree.single q is in omega arith)
      (λ q is zero.
      let same = linked_links q (λ e. two_kinds t q n is can.kind (sym e)) in
      here_or_other (λ x. x ≡ q → names_of (linked t d name n) x ≡ empty) d q
      (λ e. absurd (links_of_held t tree d can.held (ap (links_of t) e ∙ sym same ∙ zero)))
      (λ away _. names_of-put_name-other (one_more t n) d name n q away ∙ linked_names q ∙ tree.bare q is (sym same ∙ zero)) refl)
      linked_no_cycle

-- one more name of a node that is no directory
pub linked-tree : (t : Tree) (d : ℕ) (name : List ℕ) (n : ℕ) → IsTree t → first_fault (link_faults t d name n) ≡ None → IsTree (linked t d name n)
linked-tree t d name n tree free = linked_is_tree t d name n tree (can_link t d name n free)

-- ---- unlink

module _ (t : Tree) (d : ℕ) (name : List ℕ) (tree : IsTree t) (can : CanUnlink t d name) where
  -- the tree whose node counts a name less, and the name isn't gone yet
  abbrev less : Tree
  less = without_old t (entry_of t d name)

  unlinked_keeps : KeepsNodes t (unlinked t d name)
  unlinked_keeps =
      KeepsNodes-twice t less (unlinked t d name) (KeepsNodes-without_old t (entry_of t d name))
      (KeepsNodes-drop_name less d name ((KeepsNodes-without_old t (entry_of t d name)).tables d ∙ table_of_directory t tree d can.directory))

  unlinked_old : (d' : ℕ) (name' : List ℕ) (m : ℕ) → HasName (unlinked t d name) d' name' m → HasName t d' name' m
  unlinked_old d' name' m h = sym (entry_of-without_old t (entry_of t d name) d' name') ∙ (HasName-drop_name less d name d' name' m h).1

  -- a directory that has a name in it is not the node that goes
  unlinked_apart : can.node ≢ d
  unlinked_apart same = names_of_name t d name can.node can.named (ap (names_of t) (sym same) ∙ can.bare)

  unlinked_links : (q : ℕ) → links_of (unlinked t d name) q + one_for q can.node ≡ links_of t q
  unlinked_links q =
      ap (λ o. links_of (unlinked t d name) q + weight (one_for q) o) (sym can.named)
      ∙ links_of-without_old t (entry_of t d name) (λ n h. links_of_named t tree d name n h) q

  unlinked_names : (q : ℕ) → q ≢ d → names_of (unlinked t d name) q ≡ names_of t q
  unlinked_names q away = names_of-drop_name-other less d name q away ∙ names_of-without_old t (entry_of t d name) q

  unlinked_is_tree : IsTree (unlinked t d name)
  unlinked_is_tree =
      tree_where_nodes_stay t (unlinked t d name) tree unlinked_keeps
      (λ q.
      let links = links_of-without_old t (entry_of t d name) (λ n h. links_of_named t tree d name n h) q in
      let names = names_count-drop_name less d name q in
      let entry = ap (weight (one_for q)) (entry_of-without_old t (entry_of t d name) d name) in
      let same = names_count-without_old t (entry_of t d name) q in
      omega arith)
      (λ d' name' m h. tree.led d' name' m (unlinked_old d' name' m h))
      (λ q is. let links = unlinked_links q in let most = tree.single q is in omega arith)
      (λ q is zero.
      by_node (λ x. x ≡ q → names_of (unlinked t d name) x ≡ empty) can.node d q
      (λ _. unlinked_names can.node unlinked_apart ∙ can.bare)
      (λ e.
      let links = unlinked_links d in
      let other = one_for-other d can.node unlinked_apart in
      let none : links_of (unlinked t d name) d ≡ 0 = ap (links_of (unlinked t d name)) e ∙ zero in
      absurd (names_of_name t d name can.node can.named (tree.bare d can.directory (omega arith))))
      (λ other away _.
      let links = unlinked_links q in
      let none = one_for-other q can.node (λ e. other (sym e)) in
      unlinked_names q away ∙ tree.bare q is (omega arith)) refl)
      (no_cycle-fewer t (unlinked t d name) unlinked_old tree.acyclic)

-- a name goes
pub unlinked-tree : (t : Tree) (d : ℕ) (name : List ℕ) → IsTree t → first_fault (unlink_faults t d name) ≡ None → IsTree (unlinked t d name)
unlinked-tree t d name tree free = unlinked_is_tree t d name tree (can_unlink t d name free)

-- ---- a node that changes, but for its count of names and for being a directory

pub changed-tree : (t u : Tree) (n : ℕ) (f : Node → Node) → IsTree t → ChangesNode t u n f → KeepsCount f
    → ((node : Node) → get t.nodes n ≡ Some node → is_directory_kind (f node).kind ≡ is_directory_kind node.kind) → IsTree u
changed-tree t u n f tree c counts kinds =
    let links = λ (q : ℕ). links_of-changed-kept t u n f c counts q in
    let old = λ (d : ℕ) (name : List ℕ) (m : ℕ) (h : HasName u d name m). sym (entry_of-changed t u n f c d name) ∙ h in
    tree_where_nodes_stay t u tree (KeepsNodes-changed t u n f c kinds)
    (λ q. let same = links q in let names = names_count-changed t u n f c q in omega arith)
    (λ d name m h. tree.led d name m (old d name m h))
    (λ d is. let same = links d in let most = tree.single d is in omega arith)
    (λ d is zero. names_of-changed t u n f c d ∙ tree.bare d is (sym (links d) ∙ zero))
    (no_cycle-fewer t u old tree.acyclic)

-- what is a file is no directory
file_kind : (kind : NodeKind) → is_file_kind kind ≡ true → is_directory_kind kind ≡ false
file_kind (kind.File bytes) e = refl
file_kind kind.Directory e = absurd (false≢true e)
file_kind (kind.Link text) e = absurd (false≢true e)

-- a file has other bytes
pub with_bytes-tree : (t : Tree) (n : ℕ) (bytes : List ℕ) → IsTree t → is_file t n ≡ true → IsTree (with_bytes t n bytes)
with_bytes-tree t n bytes tree file =
    changed-tree t (with_bytes t n bytes) n _ tree (with_bytes-changes t n bytes) (λ _. refl)
    (λ node there. sym (file_kind node.kind (sym (ap is_file_node there) ∙ file)))

-- a node has other times
pub with_times-tree : (t : Tree) (n : ℕ) (times : Times) → IsTree t → IsTree (with_times t n times)
with_times-tree t n times tree = changed-tree t (with_times t n times) n _ tree (with_times-changes t n times) (λ _. refl) (λ _ _. refl)

-- ---- a node without a name goes

module _ (t : Tree) (n : ℕ) (tree : IsTree t) (nameless : links_of t n ≡ 0) where
  forgotten_bare : names_of t n ≡ empty
  forgotten_bare =
      elim (is_directory t n) as (λ b. is_directory t n ≡ b → names_of t n ≡ empty) [
        | true ↦ λ is. tree.bare n is nameless
        | false ↦ λ other. no_names_in t tree n other
      ] refl

  pub forgotten_names : (q : ℕ) → names_of (forgotten t n) q ≡ names_of t q
  forgotten_names q =
      here_or_other (λ x. names_of (forgotten t n) x ≡ names_of t x) n q
      (ap names_in (get-remove-same t.names n) ∙ sym forgotten_bare)
      (λ other. ap names_in (get-remove-other t.names n q other))

  forgotten_old : (d : ℕ) (name : List ℕ) (m : ℕ) → HasName (forgotten t n) d name m → HasName t d name m
  forgotten_old d name m h = sym (ap (λ names. get names name) (forgotten_names d)) ∙ h

  -- what is there after it is another node, and was there
  forgotten_nodes : (q : ℕ) → q ≢ n → get (forgotten t n).nodes q ≡ get t.nodes q
  forgotten_nodes q other = get-remove-other t.nodes n q other

  forgotten_gone : get (forgotten t n).nodes n ≡ None
  forgotten_gone = get-remove-same t.nodes n

  forgotten_not_root : n ≢ ROOT
  forgotten_not_root same = let one = links_of_root t tree in let is = ap (links_of t) same in absurd (omega arith)

  forgotten_counts : (q : ℕ) → links_of (forgotten t n) q ≡ links_of t q
  forgotten_counts q =
      here_or_other (λ x. links_of (forgotten t n) x ≡ links_of t x) n q
      (ap links_in forgotten_gone ∙ sym nameless)
      (λ other. ap links_in (forgotten_nodes q other))

  -- a directory after it is another one, and was one
  forgotten_kinds : (q : ℕ) → is_directory (forgotten t n) q ≡ true → (q ≢ n) × (is_directory t q ≡ true)
  forgotten_kinds q is =
      let other : q ≢ n = λ same. false≢true (sym (ap is_directory_node forgotten_gone) ∙ ap (is_directory (forgotten t n)) (sym same) ∙ is) in
      (other, sym (ap is_directory_node (forgotten_nodes q other)) ∙ is)

  forgotten_is_tree : IsTree (forgotten t n)
  forgotten_is_tree = record {
    root = ap is_directory_node (forgotten_nodes ROOT (λ same. forgotten_not_root (sym same))) ∙ tree.root;
    directories = directories_from (forgotten t n)
        (λ q. here_or_other (λ x. is_some (get (forgotten t n).names x) ≡ is_directory (forgotten t n) x) n q
        (ap is_some (get-remove-same t.names n) ∙ sym (ap is_directory_node forgotten_gone))
        (λ other. ap is_some (get-remove-other t.names n q other) ∙ tables_of t tree q ∙ sym (ap is_directory_node (forgotten_nodes q other))));
    led = λ d name m h.
        let old = forgotten_old d name m h in
        ap is_some (forgotten_nodes m (λ same. no_name_of_nameless t tree n nameless d name (old ∙ ap Some same))) ∙ tree.led d name m old;
    counted = counted_from (forgotten t n) (λ q.
        let links = forgotten_counts q in
        let names = names_count-forgotten t n forgotten_bare q in
        let before = counts_names t tree q in
        omega arith);
    single = λ d is. let links = forgotten_counts d in let most = tree.single d (forgotten_kinds d is).1 in omega arith;
    bare = λ d is zero. forgotten_names d ∙ tree.bare d (forgotten_kinds d is).1 (sym (forgotten_counts d) ∙ zero);
    acyclic = no_cycle-fewer t (forgotten t n) forgotten_old tree.acyclic;
  }

-- a node without a name goes. That is not the root, which counts one
pub forgotten-tree : (t : Tree) (n : ℕ) → IsTree t → links_of t n ≡ 0 → IsTree (forgotten t n)
forgotten-tree t n tree nameless = forgotten_is_tree t n tree nameless
