-- One more name of a node, and a name that moves, are changes of the file tree.
--     linked_change, with_link_change      one more name of a node;  and with the times of the node and of the directory
--     renamed_change, with_move_change      a name that moves;  and with the times of both directories and of what loses its name
--     move_change      two names of one node stay as they are
use Rattle.std.proofs.Common.{◌≡◌, ◌≢◌, ℕ, ◌-◌, true, false, List, [], ◌∷◌, Option, Some, None, refl, sym, ap, ◌∙◌}
use Rattle.std.specs.Prelude.{if◌then◌else◌}
use Rattle.std.specs.FinMap.{get}
use Rattle.abi_types.specs.declared.node.Node.{Node}
use Rattle.maps.specs.Closure.{member}
use Rattle.maps.specs.Maps.{get-insert-other}
use Rattle.tree_model.specs.Changes.{drop_name, first_fault, is_file_node, is_same, link_faults, linked, moved_to, one_more, rename_faults, renamed, replaced, with_count, without_old}
use Rattle.tree_model.specs.Entries.{ChangesNode, KeepsNodes-itself, KeepsNodes-one_more, KeepsNodes-put_name, KeepsNodes-twice, names-without_old, one_more-changes}
use Rattle.tree_model.specs.Facts.{table_of_directory}
use Rattle.tree_model.specs.Faults.{can_link}
use Rattle.tree_model.specs.Keeps.{linked-tree}
use Rattle.tree_model.specs.Outcomes.{linked-other_nodes}
use Rattle.tree_model.specs.Renames.{KeepsNodes-renamed, can_rename, renamed-other_nodes, renamed-replaced, renamed-tree}
use Rattle.tree_model.specs.Tree.{HasName, IsTree, entry_of}
use Rattle.kernel_model.specs.Families.FileChanges.{modified}
use Rattle.kernel_model.specs.Families.NameMaking.{with_new_names}
use Rattle.kernel_model.specs.Families.NameMoving.{move_or_stay, node_of_name, with_link, with_move, with_new_count_of}
use Rattle.kernel_model.specs.Families.NameRemoving.{recounted}
use Rattle.kernel_model.specs.State.{Tree}
use Rattle.kernel_model.specs.Families.TreeUpdates.{Change, no_change}
use Rattle.kernel_model.proofs.NameMeanings.{IsChangeOf}
use Rattle.kernel_model.proofs.Tests.{none_is_no, not_true, same_some}
use Rattle.kernel_model.proofs.TreeChanges.{FilesStay, files-changed, files-one_more, first_is_member, kept_change, later_is_member, not_member_apart, retimed_change}

-- ---- one more name of a node

module _ (t : Tree) (d : ℕ) (name : List ℕ) (n : ℕ) (tree : IsTree t) (free : first_fault (link_faults t d name n) ≡ None) where
  pub linked_change : (new new_nodes : ℕ) (ns ds : List ℕ) → member n ns ≡ true → member d ds ≡ true
      → IsChangeOf t new new_nodes (record { tree = linked t d name n; nodes = ns; directories = ds })
  linked_change new new_nodes ns ds has_node has_directory =
      let first = KeepsNodes-one_more t n in
      kept_change t new new_nodes (record { tree = linked t d name n; nodes = ns; directories = ds }) (linked-tree t d name n tree free)
      (KeepsNodes-twice t (one_more t n) (linked t d name n) first
      (KeepsNodes-put_name (one_more t n) d name n (first.tables d ∙ table_of_directory t tree d (can_link t d name n free).directory)))
      (files-one_more t n)
      (λ q lacks. linked-other_nodes t d name n q (not_member_apart n q ns has_node lacks))
      (λ q lacks.
      get-insert-other (one_more t n).names d _ q (not_member_apart d q ds has_directory lacks) ∙ ap (λ m. get m q) (one_more-changes t n).names)

  pub with_link_change : (now new new_nodes : ℕ) → IsChangeOf t new new_nodes (with_link now t n d name)
  with_link_change now new new_nodes =
      let ns : List ℕ = d ∷ n ∷ [] in
      let has : member n ns ≡ true = later_is_member n d (n ∷ []) (first_is_member n []) in
      let dir : member d ns ≡ true = first_is_member d (n ∷ []) in
      let start : Change = record { tree = linked t d name n; nodes = ns; directories = d ∷ [] } in
      retimed_change t new new_nodes (record start { tree = with_new_names now (linked t d name n) d }) n (recounted now) has
      (retimed_change t new new_nodes start d (modified now) dir (linked_change new new_nodes ns (d ∷ []) has (first_is_member d [])))

-- ---- a name that moves

module _ (t : Tree) (from : ℕ) (name : List ℕ) (to : ℕ) (new : List ℕ) where
  -- the nodes that a move changes: both directories, and what loses its name
  abbrev moved_nodes : List ℕ
  moved_nodes = from ∷ to ∷ node_of_name (replaced t from name to new)

  -- the nodes behind the first directory
  abbrev later_nodes : List ℕ
  later_nodes = to ∷ node_of_name (replaced t from name to new)

  source_named : member from moved_nodes ≡ true
  source_named = first_is_member from later_nodes

  target_named : member to moved_nodes ≡ true
  target_named = later_is_member to from later_nodes (first_is_member to (node_of_name (replaced t from name to new)))

  replaced_named : (m : ℕ) → replaced t from name to new ≡ Some m → member m moved_nodes ≡ true
  replaced_named m is =
      later_is_member m from later_nodes
      (later_is_member m to (node_of_name (replaced t from name to new)) (ap (λ o. member m (node_of_name o)) is ∙ first_is_member m []))

  moved_names : (n q : ℕ) → q ≢ from → q ≢ to → get (moved_to t from name to new (Some n)).names q ≡ get t.names q
  moved_names n q off away =
      let less : Tree = without_old t (entry_of t to new) in
      get-insert-other (drop_name less from name).names to _ q away
      ∙ get-insert-other less.names from _ q off
      ∙ ap (λ m. get m q) (names-without_old t (entry_of t to new))

  -- the names in each other directory are as they were
  renamed_names : (q : ℕ) → q ≢ from → q ≢ to → get (renamed t from name to new).names q ≡ get t.names q
  renamed_names q off away =
      elim (is_same (entry_of t from name) (entry_of t to new)) as
      (λ b. get (if b then t else moved_to t from name to new (entry_of t from name)).names q ≡ get t.names q) [
        | true ↦ refl
        | false ↦ elim (entry_of t from name) as (λ o. get (moved_to t from name to new o).names q ≡ get t.names q) [
          | None ↦ refl
          | Some n ↦ moved_names n q off away
        ]
      ]

  -- the tree with the nodes that it has after a move
  abbrev with_moved_nodes : Tree
  with_moved_nodes = record { nodes = (renamed t from name to new).nodes; names = t.names }

  replaced_changes : (n : ℕ) → HasName t from name n → (m : ℕ) → replaced t from name to new ≡ Some m
      → ChangesNode t with_moved_nodes m (λ (node : Node). with_count node (node.links - 1))
  replaced_changes n named m is = record {
    names = refl;
    node = renamed-replaced t from name to new n named m is;
    others = λ q other. renamed-other_nodes t from name to new q (λ same. other (same_some q m (sym same ∙ is)));
  }

  -- what is a file stays one
  renamed_files : (n : ℕ) → HasName t from name n → FilesStay t (renamed t from name to new)
  renamed_files n named =
      elim (replaced t from name to new) as (λ o. replaced t from name to new ≡ o → FilesStay t with_moved_nodes) [
        | None ↦ λ none q file.
            ap is_file_node (renamed-other_nodes t from name to new q (λ is. none_is_no q (sym none ∙ is))) ∙ file
        | Some m ↦ λ is q file. files-changed t with_moved_nodes m _ (replaced_changes n named m is) (λ node. refl) q ∙ file
      ] refl

  module _ (tree : IsTree t) (free : first_fault (rename_faults t from name to new) ≡ None) where
    pub renamed_change : (number new_nodes : ℕ)
        → IsChangeOf t number new_nodes (record { tree = renamed t from name to new; nodes = moved_nodes; directories = from ∷ to ∷ [] })
    renamed_change number new_nodes =
        let can = can_rename t from name to new free in
        kept_change t number new_nodes (record { tree = renamed t from name to new; nodes = moved_nodes; directories = from ∷ to ∷ [] })
        (renamed-tree t from name to new tree free)
        (KeepsNodes-renamed t from name to new tree can)
        (renamed_files can.node can.named)
        (λ q lacks. renamed-other_nodes t from name to new q (λ is. not_true (sym lacks ∙ replaced_named q is)))
        (λ q lacks.
        renamed_names q (not_member_apart from q (from ∷ to ∷ []) (first_is_member from (to ∷ [])) lacks)
        (not_member_apart to q (from ∷ to ∷ []) (later_is_member to from (to ∷ []) (first_is_member to [])) lacks))

    counted_change : (now number new_nodes : ℕ) (c : Change) (o : Option ℕ) → ((m : ℕ) → o ≡ Some m → member m c.nodes ≡ true)
        → IsChangeOf t number new_nodes c → IsChangeOf t number new_nodes (record c { tree = with_new_count_of now c.tree o })
    counted_change now number new_nodes c None has is = is
    counted_change now number new_nodes c (Some m) has is = retimed_change t number new_nodes c m (recounted now) (has m refl) is

    pub with_move_change : (now number new_nodes : ℕ) → IsChangeOf t number new_nodes (with_move now t from name to new)
    with_move_change now number new_nodes =
        let after : Tree = renamed t from name to new in
        let start : Change = record { tree = after; nodes = moved_nodes; directories = from ∷ to ∷ [] } in
        let source : Change = record start { tree = with_new_names now after from } in
        let target : Change = record start { tree = with_new_names now (with_new_names now after from) to } in
        counted_change now number new_nodes target (replaced t from name to new) replaced_named
        (retimed_change t number new_nodes source to (modified now) target_named
        (retimed_change t number new_nodes start from (modified now) source_named (renamed_change number new_nodes)))

    pub move_change : (now number new_nodes : ℕ) → IsChangeOf t number new_nodes (move_or_stay now t from name to new)
    move_change now number new_nodes =
        elim (is_same (entry_of t from name) (entry_of t to new)) as
        (λ b. IsChangeOf t number new_nodes (if b then no_change t else with_move now t from name to new)) [
          | true ↦ kept_change t number new_nodes (no_change t) tree (KeepsNodes-itself t) (λ q file. file) (λ q _. refl) (λ q _. refl)
          | false ↦ with_move_change now number new_nodes
        ]
