-- The times of directories, and of a node that loses its name, where a name moves.
use Rattle.std.proofs.Common.{◌≡◌, ◌≢◌, inl, inr, ℕ, ◌-◌, false, cond, List, Option, Some, None, refl, sym, ap, subst, ◌∙◌}
use Rattle.std.proofs.lemmas.Bool.Decides.{eqb_tells}
use Rattle.std.specs.FinMap.{get}
use Rattle.std.specs.Option.{option_map}
use Rattle.abi_types.specs.declared.node.Node.{Node}
use Rattle.tree_model.specs.Changes.{first_fault, is_same, rename_faults, renamed, replaced}
use Rattle.tree_model.specs.Facts.{names_of_name}
use Rattle.tree_model.specs.Renames.{can_rename, renamed-other_nodes, renamed-replaced}
use Rattle.tree_model.specs.Tree.{HasName, entry_of, names_of}
use Rattle.kernel_model.specs.Families.FileChanges.{modified}
use Rattle.kernel_model.specs.Families.NameMaking.{with_new_names}
use Rattle.kernel_model.specs.Families.NameMoving.{move_or_stay, with_move, with_new_count_of}
use Rattle.kernel_model.specs.Families.NameRemoving.{recounted}
use Rattle.kernel_model.specs.Families.TreeUpdates.{Change, no_change}
use Rattle.kernel_model.specs.State.{Tree}
use Rattle.kernel_model.proofs.Reworks.{retimed_reworks}
use Rattle.call_laws.proofs.Sizes.{times_set}

module _ (t : Tree) (now from : ℕ) (name : List ℕ) (to : ℕ) (new : List ℕ) (n : ℕ) (c : Change) (named : HasName t from name n)
    (other : is_same (entry_of t from name) (entry_of t to new) ≡ false) (free : first_fault (rename_faults t from name to new) ≡ None)
    (is : move_or_stay now t from name to new ≡ c) where
  moved_is : with_move now t from name to new ≡ c
  moved_is = sym (ap (λ b. cond b (no_change t) (with_move now t from name to new)) other) ∙ is

  replaced_is : replaced t from name to new ≡ entry_of t to new
  replaced_is = ap (λ b. cond b None (entry_of t to new)) other

  -- what loses the new name is neither directory: it has no names in it
  from_apart : (m : ℕ) → entry_of t to new ≡ Some m → from ≢ m
  from_apart m old same = names_of_name t from name n named (ap (names_of t) same ∙ ((can_rename t from name to new free).apart other).bare m old)

  to_apart : (m : ℕ) → entry_of t to new ≡ Some m → to ≢ m
  to_apart m old same = names_of_name t to new m old (ap (names_of t) same ∙ ((can_rename t from name to new free).apart other).bare m old)

  abbrev moved : Tree
  moved = renamed t from name to new

  abbrev once : Tree
  once = with_new_names now moved from

  abbrev twice : Tree
  twice = with_new_names now once to

  abbrev stamped : Node → Node
  stamped was = record was { times = modified now was.times }

  kept : (q : ℕ) → ((m : ℕ) → entry_of t to new ≡ Some m → q ≢ m) → get moved.nodes q ≡ get t.nodes q
  kept q apart = renamed-other_nodes t from name to new q (λ e. apart q (sym replaced_is ∙ e) refl)

  counted_apart : (o : Option ℕ) (q : ℕ) → ((m : ℕ) → o ≡ Some m → q ≢ m) → get (with_new_count_of now twice o).nodes q ≡ get twice.nodes q
  counted_apart None q apart = refl
  counted_apart (Some m) q apart = (retimed_reworks twice m (recounted now)).others q (apart m refl)

  left_at : (q : ℕ) → ((m : ℕ) → entry_of t to new ≡ Some m → q ≢ m) → get c.tree.nodes q ≡ get twice.nodes q
  left_at q apart =
      ap (λ (x : Change). get x.tree.nodes q) (sym moved_is) ∙ counted_apart (replaced t from name to new) q (λ m e. apart m (sym replaced_is ∙ e))

  -- once it has that time it has it still
  again : (u : Tree) (d q : ℕ) (was : Node) → get u.nodes q ≡ Some (stamped was) → get (with_new_names now u d).nodes q ≡ Some (stamped was)
  again u d q was has =
      elim (eqb_tells q d) [
        | inl same ↦ subst (λ k. get (with_new_names now u k).nodes q ≡ Some (stamped was)) same.1 (times_set u q now (stamped was) has (modified now))
        | inr apart ↦ (retimed_reworks u d (modified now)).others q apart.1 ∙ has
      ]

  pub from_stamps : (was : Node) → get t.nodes from ≡ Some was → get c.tree.nodes from ≡ Some (stamped was)
  from_stamps was there =
      left_at from from_apart ∙ again once to from was (times_set moved from now was (kept from from_apart ∙ there) (modified now))

  pub to_stamps : (was : Node) → get t.nodes to ≡ Some was → get c.tree.nodes to ≡ Some (stamped was)
  to_stamps was there =
      left_at to to_apart
      ∙ elim (eqb_tells to from) [
        | inl same ↦ again once to to was
            (subst (λ k. get (with_new_names now moved k).nodes to ≡ Some (stamped was)) same.1 (times_set moved to now was (kept to to_apart ∙ there) (modified now)))
        | inr apart ↦ times_set once to now was ((retimed_reworks moved from (modified now)).others to apart.1 ∙ kept to to_apart ∙ there) (modified now)
      ]

  pub replaced_counts : (m : ℕ) → HasName t to new m → (was : Node) → get t.nodes m ≡ Some was
      → get c.tree.nodes m ≡ Some (record was { links = was.links - 1; times = recounted now was.times })
  replaced_counts m old was there =
      ap (λ (x : Change). get x.tree.nodes m) (sym moved_is) ∙ ap (λ o. get (with_new_count_of now twice o).nodes m) (replaced_is ∙ old)
      ∙ times_set twice m now (record was { links = was.links - 1 })
      ((retimed_reworks once to (modified now)).others m (λ e. to_apart m old (sym e))
      ∙ (retimed_reworks moved from (modified now)).others m (λ e. from_apart m old (sym e))
      ∙ renamed-replaced t from name to new n named m (replaced_is ∙ old)
      ∙ ap (option_map (λ (node : Node). record node { links = node.links - 1 })) there)
      (recounted now)
