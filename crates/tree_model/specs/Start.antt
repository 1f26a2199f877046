-- The tree that a launch begins with: the root alone.
--     root_node times, root_tree times      the root, a directory without names in it;  the tree of it alone
--     root_tree-tree      it is a tree
use Rattle.std.proofs.Common.{◌≡◌, ◌≢◌, ℕ, ◌+◌, ◌≤◌, List, None, Some, is_some, refl, sym, ap, ◌∙◌, arith}
use Rattle.std.specs.FinMap.{empty, get, insert, get-empty}
use Rattle.std.specs.Ordering.{nat_cmp}
use Rattle.abi_types.specs.declared.node.Node.{Node}
use Rattle.abi_types.specs.declared.node.NodeKind.TheVariants as kind
use Rattle.abi_types.specs.declared.node.Times.{Times}
use Rattle.maps.specs.Maps.{get-insert-same, get-insert-other}
use Rattle.tree_model.specs.declared.limits.TheConstants.{ROOT}
use Rattle.tree_model.specs.Tree.{Tree, HasName, IsTree, is_directory, is_directory_node, links_in, links_of, names_count, names_in, names_of, one_for}
use Rattle.tree_model.specs.Entries.{here_or_other}
use Rattle.tree_model.specs.Counts.{names_count_none, one_for-other, one_for-same}
use Rattle.tree_model.specs.Facts.{names_of_name}
use Rattle.tree_model.specs.Keeps.{counted_from, directories_from}

-- the root of a new tree. It counts one name, which no directory has
abbrev pub root_node : Times → Node
root_node times = record { kind = kind.Directory; times = times; links = 1 }

-- the root alone, with no names in it
abbrev pub root_tree : Times → Tree
root_tree times = record { nodes = insert empty ROOT (root_node times); names = insert empty ROOT empty }

module _ (times : Times) where
  root_here : get (root_tree times).nodes ROOT ≡ Some (root_node times)
  root_here = get-insert-same empty ROOT (root_node times)

  no_other : (q : ℕ) → q ≢ ROOT → get (root_tree times).nodes q ≡ None
  no_other q other = get-insert-other empty ROOT (root_node times) q other ∙ get-empty nat_cmp q

  no_other_table : (q : ℕ) → q ≢ ROOT → get (root_tree times).names q ≡ None
  no_other_table q other = get-insert-other empty ROOT empty q other ∙ get-empty nat_cmp q

  -- there are no names in any directory
  pub root_tree-no_names : (d : ℕ) → names_of (root_tree times) d ≡ empty
  root_tree-no_names d =
      here_or_other (λ x. names_of (root_tree times) x ≡ empty) ROOT d
      (ap names_in (get-insert-same empty ROOT empty))
      (λ other. ap names_in (no_other_table d other))

  pub root_tree-no_name : (d : ℕ) (name : List ℕ) (n : ℕ) → HasName (root_tree times) d name n → ⊥
  root_tree-no_name d name n h = names_of_name (root_tree times) d name n h (root_tree-no_names d)

  root_counts : (q : ℕ) → links_of (root_tree times) q ≡ names_count (root_tree times) q + one_for ROOT q
  root_counts q =
      let none = names_count_none (root_tree times) q (λ d name h. root_tree-no_name d name q h) in
      here_or_other (λ x. x ≡ q → links_of (root_tree times) x ≡ names_count (root_tree times) q + one_for ROOT q) ROOT q
      (λ is.
      let links : links_of (root_tree times) ROOT ≡ 1 = ap links_in root_here in
      let one = ap (one_for ROOT) (sym is) ∙ one_for-same ROOT in
      omega arith)
      (λ other _.
      let links : links_of (root_tree times) q ≡ 0 = ap links_in (no_other q other) in
      let zero = one_for-other ROOT q other in
      omega arith) refl

  root_links : (q : ℕ) → links_of (root_tree times) q ≤ 1
  root_links q =
      here_or_other (λ x. links_of (root_tree times) x ≤ 1) ROOT q
      (let links : links_of (root_tree times) ROOT ≡ 1 = ap links_in root_here in omega arith)
      (λ other. let links : links_of (root_tree times) q ≡ 0 = ap links_in (no_other q other) in omega arith)

  pub root_tree-tree : IsTree (root_tree times)
  root_tree-tree = record {
    root = ap is_directory_node root_here;
    directories = directories_from (root_tree times) (λ q.
        here_or_other (λ x. is_some (get (root_tree times).names x) ≡ is_directory (root_tree times) x) ROOT q
        (ap is_some (get-insert-same empty ROOT empty) ∙ sym (ap is_directory_node root_here))
        (λ other. ap is_some (no_other_table q other) ∙ sym (ap is_directory_node (no_other q other))));
    led = λ d name n h. absurd (root_tree-no_name d name n h);
    counted = counted_from (root_tree times) root_counts;
    single = λ d _. root_links d;
    bare = λ d _ _. root_tree-no_names d;
    acyclic = record { height = λ _. 0; rises = λ d name n h. absurd (root_tree-no_name d name n h) };
  }
