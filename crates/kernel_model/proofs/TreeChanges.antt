-- Changes of the file tree lead to trees, and say all that they change.
--     first_is_member, later_is_member      numbers of a list
--     kept_change      so it is where no node comes or goes, none becomes one of another kind, and what isn't named is as it was
--     FilesStay, files-changed, files-one_more, files-without_old      what is a file stays one
--     updates_alike, updates_unset      what a change sets, where trees are alike at what it names;  what it doesn't name it doesn't set
--     retimed_alike_at      where trees are alike, they are so once a node has other times
--     made_change, unlinked_change      a new node with its first name;  a name that is taken away
--     retimed_change      and other times of a node that is named keep it
use Rattle.std.proofs.Common.{◌≡◌, ◌≢◌, ◌||◌, ℕ, Bool, true, false, List, [], ◌∷◌, ◌++◌, map, Option, Some, None, is_none, is_some, refl, sym, ap, ◌∙◌}
use Rattle.std.proofs.lemmas.Bool.{eq-eqb}
use Rattle.std.specs.Bool.{nat_eq}
use Rattle.std.specs.FinMap.{get}
use Rattle.std.specs.List.{AllByRecursion}
use Rattle.std.specs.Option.{option_map}
use Rattle.abi_types.specs.declared.node.Node.{Node}
use Rattle.abi_types.specs.declared.node.Times.{Times}
use Rattle.maps.specs.Closure.{member}
use Rattle.maps.specs.Maps.{get-insert-other}
use Rattle.tree_model.specs.Changes.{first_fault, is_file, is_file_kind, is_file_node, made, make_faults, new_node, one_less, one_more, unlinked, unlink_faults, without_old}
use Rattle.tree_model.specs.Entries.{ChangesNode, KeepsNodes, KeepsNodes-drop_name, KeepsNodes-twice, KeepsNodes-without_old, get-new_node-other, here_or_other, names-without_old, node_there-changed, one_less-changes, one_more-changes, with_times-changes}
use Rattle.tree_model.specs.Facts.{table_of_directory}
use Rattle.tree_model.specs.Faults.{can_unlink, none_of, some_there}
use Rattle.tree_model.specs.Keeps.{made-tree, unlinked-tree}
use Rattle.tree_model.specs.Tree.{IsTree, entry_of, is_directory, is_directory_node}
use Rattle.kernel_model.specs.Families.FileChanges.{retimed_in, retimed}
use Rattle.kernel_model.specs.State.{Names, Part, Tree, Update, at_names, at_node, has_part, part_of, same_part}
use Rattle.kernel_model.specs.Families.TreeUpdates.{Change, change_updates, names_update, names_updates, node_update, nodes_updates}
use Rattle.kernel_model.proofs.NameMeanings.{IsChangeOf}
use Rattle.kernel_model.proofs.Parts.{outside_cons}
use Rattle.kernel_model.proofs.Reworks.{retimed_alike, retimed_reworks}
use Rattle.kernel_model.proofs.Tests.{none_is_no, not_true, or_true}

-- ---- numbers of a list

pub first_is_member : (n : ℕ) (ns : List ℕ) → member n (n ∷ ns) ≡ true
first_is_member n ns = ap (λ b. b || member n ns) (eq-eqb n n refl)

pub later_is_member : (n m : ℕ) (ns : List ℕ) → member n ns ≡ true → member n (m ∷ ns) ≡ true
later_is_member n m ns h = ap (λ b. nat_eq n m || b) h ∙ or_true (nat_eq n m)

-- a number that a list hasn't is another than one that it has
pub not_member_apart : (n q : ℕ) (ns : List ℕ) → member n ns ≡ true → member q ns ≡ false → q ≢ n
not_member_apart n q ns has lacks same = not_true (sym lacks ∙ ap (λ k. member k ns) same ∙ has)

-- ---- changes by which no node comes or goes

abbrev pub FilesStay : Tree → Tree → Type 0
FilesStay t u = (q : ℕ) → is_file t q ≡ true → is_file u q ≡ true

files_of_node : (f : Node → Node) → ((node : Node) → is_file_kind (f node).kind ≡ is_file_kind node.kind) → (o : Option Node)
    → is_file_node (option_map f o) ≡ is_file_node o
files_of_node f kinds None = refl
files_of_node f kinds (Some node) = kinds node

pub files-changed : (t u : Tree) (n : ℕ) (f : Node → Node) → ChangesNode t u n f
    → ((node : Node) → is_file_kind (f node).kind ≡ is_file_kind node.kind) → (q : ℕ) → is_file u q ≡ is_file t q
files-changed t u n f c kinds q =
    here_or_other (λ k. is_file u k ≡ is_file t k) n q
    (ap is_file_node c.node ∙ files_of_node f kinds (get t.nodes n)) (λ other. ap is_file_node (c.others q other))

pub files-one_more : (t : Tree) (n : ℕ) → FilesStay t (one_more t n)
files-one_more t n q file = files-changed t (one_more t n) n _ (one_more-changes t n) (λ node. refl) q ∙ file

pub files-without_old : (t : Tree) (o : Option ℕ) → FilesStay t (without_old t o)
files-without_old t None q file = file
files-without_old t (Some n) q file = files-changed t (one_less t n) n _ (one_less-changes t n) (λ node. refl) q ∙ file

-- what isn't there after a change by which no node comes or goes was not there, and what is was there
kept_absent : (t u : Tree) (q : ℕ) → is_some (get u.nodes q) ≡ is_some (get t.nodes q) → get u.nodes q ≡ None → get t.nodes q ≡ None
kept_absent t u q same none = none_of (get t.nodes q) (sym same ∙ ap is_some none)

kept_there : (t u : Tree) (q : ℕ) (node : Node) → is_some (get u.nodes q) ≡ is_some (get t.nodes q) → get u.nodes q ≡ Some node
    → (old : Node) × (get t.nodes q ≡ Some old)
kept_there t u q node same there = some_there (get t.nodes q) (sym same ∙ ap is_some there)

pub kept_change : (t : Tree) (new new_nodes : ℕ) (c : Change) → IsTree c.tree → KeepsNodes t c.tree → FilesStay t c.tree
    → ((q : ℕ) → member q c.nodes ≡ false → get c.tree.nodes q ≡ get t.nodes q)
    → ((q : ℕ) → member q c.directories ≡ false → get c.tree.names q ≡ get t.names q) → IsChangeOf t new new_nodes c
kept_change t new new_nodes c tree keeps files nodes names = record {
  tree = tree;
  nodes = nodes;
  names = names;
  files = files;
  directories = λ q is. keeps.kinds q ∙ is;
  stays = λ q none. kept_absent t c.tree q (keeps.nodes q) none;
  fresh = λ q node none there.
      let old = kept_there t c.tree q node (keeps.nodes q) there in
      absurd (none_is_no old.0 (sym none ∙ old.1));
}

-- ---- a new node with its first name

module _ (t : Tree) (d : ℕ) (name : List ℕ) (n : ℕ) (node : Node) (none : get t.nodes n ≡ None) where
  -- what is there already is another node
  made_other : (test : Option Node → Bool) → test None ≡ false → (q : ℕ) → test (get t.nodes q) ≡ true
      → test (get (made t d name n node).nodes q) ≡ true
  made_other test absent q is =
      ap test (get-new_node-other t n node q (λ same. not_true (sym absent ∙ sym (ap test none) ∙ sym (ap (λ k. test (get t.nodes k)) same) ∙ is))) ∙ is

  made_stays : (q : ℕ) → get (made t d name n node).nodes q ≡ None → get t.nodes q ≡ None
  made_stays q gone = here_or_other (λ k. get (made t d name n node).nodes k ≡ None → get t.nodes k ≡ None) n q
      (λ _. none) (λ other h. sym (get-new_node-other t n node q other) ∙ h) gone

  made_fresh : (q : ℕ) (other : Node) → get t.nodes q ≡ None → get (made t d name n node).nodes q ≡ Some other → q ≡ n
  made_fresh q other =
      here_or_other (λ k. get t.nodes k ≡ None → get (made t d name n node).nodes k ≡ Some other → k ≡ n) n q (λ _ _. refl)
      (λ apart absent there. absurd (none_is_no other (sym absent ∙ sym (get-new_node-other t n node q apart) ∙ there)))

  pub made_change : (new_nodes : ℕ) (ns ds : List ℕ) → IsTree t → first_fault (make_faults t d name) ≡ None → new_nodes ≢ 0
      → member n ns ≡ true → member d ds ≡ true → ((q : ℕ) → member q ds ≡ false → get (new_node t n node).names q ≡ get t.names q)
      → IsChangeOf t n new_nodes (record { tree = made t d name n node; nodes = ns; directories = ds })
  made_change new_nodes ns ds tree free some has_node has_directory table = record {
    tree = made-tree t d name n node tree free (ap is_none none);
    nodes = λ q lacks. get-new_node-other t n node q (not_member_apart n q ns has_node lacks);
    names = λ q lacks. get-insert-other (new_node t n node).names d _ q (not_member_apart d q ds has_directory lacks) ∙ table q lacks;
    files = λ q file. made_other is_file_node refl q file;
    directories = λ q is. made_other is_directory_node refl q is;
    stays = made_stays;
    fresh = λ q other absent there. (made_fresh q other absent there, some);
  }

-- ---- a name is taken away

module _ (t : Tree) (d : ℕ) (name : List ℕ) (n : ℕ) (named : entry_of t d name ≡ Some n) where
  unlinked_nodes : (q : ℕ) → q ≢ n → get (unlinked t d name).nodes q ≡ get t.nodes q
  unlinked_nodes q other = ap (λ o. get (without_old t o).nodes q) named ∙ (one_less-changes t n).others q other

  unlinked_names : (q : ℕ) → q ≢ d → get (unlinked t d name).names q ≡ get t.names q
  unlinked_names q other =
      get-insert-other (without_old t (entry_of t d name)).names d _ q other ∙ ap (λ m. get m q) (names-without_old t (entry_of t d name))

  unlinked_keeps : is_directory t d ≡ true → IsTree t → KeepsNodes t (unlinked t d name)
  unlinked_keeps is tree =
      let first = KeepsNodes-without_old t (entry_of t d name) in
      KeepsNodes-twice t (without_old t (entry_of t d name)) (unlinked t d name) first
      (KeepsNodes-drop_name (without_old t (entry_of t d name)) d name (first.tables d ∙ table_of_directory t tree d is))

  pub unlinked_change : (new new_nodes : ℕ) (ns ds : List ℕ) → IsTree t → first_fault (unlink_faults t d name) ≡ None
      → member n ns ≡ true → member d ds ≡ true → IsChangeOf t new new_nodes (record { tree = unlinked t d name; nodes = ns; directories = ds })
  unlinked_change new new_nodes ns ds tree free has_node has_directory =
      kept_change t new new_nodes (record { tree = unlinked t d name; nodes = ns; directories = ds }) (unlinked-tree t d name tree free)
      (unlinked_keeps (can_unlink t d name free).directory tree)
      (files-without_old t (entry_of t d name))
      (λ q lacks. unlinked_nodes q (not_member_apart n q ns has_node lacks))
      (λ q lacks. unlinked_names q (not_member_apart d q ds has_directory lacks))

-- ---- other times of a node

retimed_there : (t : Tree) (n : ℕ) (times : Times → Times) (o : Option Node) (q : ℕ)
    → is_some (get (retimed_in t n times o).nodes q) ≡ is_some (get t.nodes q)
retimed_there t n times None q = refl
retimed_there t n times (Some node) q = node_there-changed t _ n _ (with_times-changes t n (times node.times)) q

pub retimed_change : (t : Tree) (new new_nodes : ℕ) (c : Change) (n : ℕ) (times : Times → Times) → member n c.nodes ≡ true → IsChangeOf t new new_nodes c
    → IsChangeOf t new new_nodes (record c { tree = retimed c.tree n times })
retimed_change t new new_nodes c n times has is =
    let works = retimed_reworks c.tree n times in
    let there = λ (q : ℕ). retimed_there c.tree n times (get c.tree.nodes n) q in
    record {
      tree = works.tree is.tree;
      nodes = λ q lacks. works.others q (not_member_apart n q c.nodes has lacks) ∙ is.nodes q lacks;
      names = λ q lacks. ap (λ m. get m q) works.names ∙ is.names q lacks;
      files = λ q file.
          here_or_other (λ k. is_file (retimed c.tree n times) k ≡ is_file c.tree k) n q works.file (λ other. ap is_file_node (works.others q other))
          ∙ is.files q file;
      directories = λ q dir.
          here_or_other (λ k. is_directory (retimed c.tree n times) k ≡ is_directory c.tree k) n q works.directory
          (λ other. ap is_directory_node (works.others q other))
          ∙ is.directories q dir;
      stays = λ q none. is.stays q (kept_absent c.tree (retimed c.tree n times) q (there q) none);
      fresh = λ q node none now.
          let old = kept_there c.tree (retimed c.tree n times) q node (there q) now in
          is.fresh q old.0 none old.1;
    }

pub retimed_alike_at : (t u : Tree) (n : ℕ) (times : Times → Times) (q : ℕ) → get t.nodes n ≡ get u.nodes n → get t.nodes q ≡ get u.nodes q
    → get (retimed t n times).nodes q ≡ get (retimed u n times).nodes q
retimed_alike_at t u n times q same at =
    here_or_other (λ k. get (retimed t n times).nodes k ≡ get (retimed u n times).nodes k) n q (retimed_alike t u n times same)
    (λ other. (retimed_reworks t n times).others q other ∙ at ∙ sym ((retimed_reworks u n times).others q other))

-- ---- what a change sets

module _ (t u : Tree) where
  nodes_alike : (ns : List ℕ) → AllByRecursion (λ n. get t.nodes n ≡ get u.nodes n) ns → nodes_updates u ns ≡ nodes_updates t ns
  nodes_alike [] all = refl
  nodes_alike (n ∷ ns) all = λ i. node_update n (sym all.0 i) ++ nodes_alike ns all.1 i

  names_alike : (ds : List ℕ) → AllByRecursion (λ d. get t.names d ≡ get u.names d) ds → names_updates u ds ≡ names_updates t ds
  names_alike [] all = refl
  names_alike (d ∷ ds) all = λ i. names_update d (sym all.0 i) ++ names_alike ds all.1 i

  pub updates_alike : (ns ds : List ℕ) → AllByRecursion (λ n. get t.nodes n ≡ get u.nodes n) ns → AllByRecursion (λ d. get t.names d ≡ get u.names d) ds
      → change_updates (record { tree = u; nodes = ns; directories = ds }) ≡ change_updates (record { tree = t; nodes = ns; directories = ds })
  updates_alike ns ds nodes names = λ i. nodes_alike ns nodes i ++ names_alike ds names i

-- updates one behind the other
sets_neither : (first second : List Update) (q : Part) → has_part (map part_of first) q ≡ false → has_part (map part_of second) q ≡ false
    → has_part (map part_of (first ++ second)) q ≡ false
sets_neither [] second q h more = more
sets_neither (one ∷ first) second q h more =
    let apart = outside_cons (part_of one) (map part_of first) q h in
    ap (λ b. b || has_part (map part_of (first ++ second)) q) apart.0 ∙ sets_neither first second q apart.1 more

module _ (t : Tree) (q : Part) where
  node_unset : (n : ℕ) (o : Option Node) → same_part (at_node n) q ≡ false → has_part (map part_of (node_update n o)) q ≡ false
  node_unset n None h = refl
  node_unset n (Some node) h = ap (λ b. b || false) h

  names_unset : (d : ℕ) (o : Option Names) → same_part (at_names d) q ≡ false → has_part (map part_of (names_update d o)) q ≡ false
  names_unset d None h = refl
  names_unset d (Some names) h = ap (λ b. b || false) h

  all_nodes_unset : (ns : List ℕ) → AllByRecursion (λ n. same_part (at_node n) q ≡ false) ns → has_part (map part_of (nodes_updates t ns)) q ≡ false
  all_nodes_unset [] all = refl
  all_nodes_unset (n ∷ ns) all =
      sets_neither (node_update n (get t.nodes n)) (nodes_updates t ns) q (node_unset n (get t.nodes n) all.0) (all_nodes_unset ns all.1)

  all_names_unset : (ds : List ℕ) → AllByRecursion (λ d. same_part (at_names d) q ≡ false) ds → has_part (map part_of (names_updates t ds)) q ≡ false
  all_names_unset [] all = refl
  all_names_unset (d ∷ ds) all =
      sets_neither (names_update d (get t.names d)) (names_updates t ds) q (names_unset d (get t.names d) all.0) (all_names_unset ds all.1)

  pub updates_unset : (ns ds : List ℕ) → AllByRecursion (λ n. same_part (at_node n) q ≡ false) ns
      → AllByRecursion (λ d. same_part (at_names d) q ≡ false) ds
      → has_part (map part_of (change_updates (record { tree = t; nodes = ns; directories = ds }))) q ≡ false
  updates_unset ns ds nodes names =
      sets_neither (nodes_updates t ns) (names_updates t ds) q (all_nodes_unset ns nodes) (all_names_unset ds names)
