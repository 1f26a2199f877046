-- The slots of a new tree: the root's alone.
use Rattle.std.proofs.Common.{◌≡◌, ◌≢◌, ℕ, false, Some, None, is_some, sym, ap, ◌∙◌}
use Rattle.std.specs.Ordering.{nat_cmp}
use Rattle.std.specs.FinMap.{FinMap, empty, get, insert, get-empty}
use Rattle.abi_types.specs.declared.node.Times.{Times}
use Rattle.maps.specs.Closure.{changed-empty, changed-insert}
use Rattle.maps.specs.Maps.{get-insert-same, get-insert-other, same_numbers}
use Rattle.tree_model.specs.declared.limits.TheConstants.{ROOT}
use Rattle.tree_model.specs.Tree.{Names, entry_of}
use Rattle.tree_model.specs.Start.{root_node, root_tree, root_tree-no_name, root_tree-tree}
use Rattle.tree_model.specs.Entries.{here_or_other}
use Rattle.file_tree.specs.declared.slot.Slot.{Slot}
use Rattle.file_tree.specs.Kept.{Slots, Numbers, names_of_slots, tree_of, parent_in, IsKept}
use Rattle.file_tree.proofs.Views.{names_found, names_at}
use Rattle.file_tree.proofs.Stays.{parent_none, listed_all, is_nameless_slot}

abbrev pub root_slot : Times → Slot
root_slot times = record { node = root_node times; names = empty; parent = None }

abbrev pub root_slots : Times → Slots
root_slots times = insert empty ROOT (root_slot times)

-- no names in the root, and no other directory
abbrev pub root_names : FinMap nat_cmp Names
root_names = insert empty ROOT empty

module _ (times : Times) where
  root_at : get (root_slots times) ROOT ≡ Some (root_slot times)
  root_at = get-insert-same empty ROOT (root_slot times)

  none_at : (q : ℕ) → q ≢ ROOT → get (root_slots times) q ≡ None
  none_at q other = get-insert-other empty ROOT (root_slot times) q other ∙ get-empty nat_cmp q

  root_tables : names_of_slots (root_slots times) ≡ root_names
  root_tables = same_numbers _ _ (λ q. names_at (root_slots times) q
      ∙ here_or_other (λ x. names_found (get (root_slots times) x) ≡ get root_names x) ROOT q
      (ap names_found root_at ∙ sym (get-insert-same empty ROOT empty))
      (λ other. ap names_found (none_at q other) ∙ sym (get-insert-other empty ROOT empty q other ∙ get-empty nat_cmp q)))

  pub root_view : tree_of (root_slots times) ≡ root_tree times
  root_view = λ i. record {
    nodes = (changed-insert (λ (_ : ℕ) (s : Slot). s.node) empty ROOT (root_slot times)
        ∙ ap (λ m. insert m ROOT (root_node times)) (changed-empty (λ (_ : ℕ) (s : Slot). s.node))) i;
    names = root_tables i;
  }

  parent_at_root : (q : ℕ) → parent_in (get (root_slots times) q) ≡ None
  parent_at_root q = here_or_other (λ x. parent_in (get (root_slots times) x) ≡ None) ROOT q (ap parent_in root_at) (λ other. ap parent_in (none_at q other))

  pub root_kept : IsKept (root_slots times) empty
  root_kept = record {
    tree = rw root_view (root_tree-tree times);
    parents = λ q is. parent_none (tree_of (root_slots times)) _ q (parent_at_root q)
        (λ d name has. root_tree-no_name times d name q (sym (λ i. entry_of (root_view i) d name) ∙ has));
    listed = listed_all (root_slots times) empty (λ q. ap is_some (get-empty nat_cmp q)
        ∙ here_or_other (λ x. false ≡ is_nameless_slot x (get (root_slots times) x)) ROOT q
        (sym (ap (is_nameless_slot ROOT) root_at)) (λ other. sym (ap (is_nameless_slot q) (none_at q other))));
  }

  -- where contracts see the slots as m
  module _ (m : Slots) (nameless : Numbers) (is : m ≡ root_slots times) (none : nameless ≡ empty) where
    pub seen_root : tree_of m ≡ root_tree times
    seen_root = ap tree_of is ∙ root_view

    pub kept_root : IsKept m nameless
    kept_root = rw is (rw none root_kept)
