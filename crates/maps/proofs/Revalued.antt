-- A node after a value at one of its places was replaced.
use Rattle.std.proofs.Common.{◌≡◌, ℕ, ◌+◌, ◌<◌, List, ◌∷◌, ◌++◌, length, refl, sym, ap, subst, ◌∙◌}
use Rattle.maps.specs.Names.{Name}
use Rattle.maps.specs.Placed.{revalued}
use Rattle.maps.specs.NameTrees.{entry_in, entries_in}
use Rattle.maps.specs.declared.name_tree.NameNode.{NameNode}
use Rattle.maps.proofs.Places.{revalued-before, revalued-between, revalued-behind, length-revalued}

-- the node m counts its entries, which are those of n with the value v at the place
abbrev pub IsRevalued : {V : Type 0} → ℕ → V → NameNode V → NameNode V → Type 0
IsRevalued place v n m = (m.len ≡ length (entries_in m)) × (entries_in m ≡ revalued place v (entries_in n))

abbrev IsCountedNode : {V : Type 0} → NameNode V → Type 0
IsCountedNode n = n.len ≡ length (entries_in n)

module _ {V : Type 0} (n : NameNode V) (place : ℕ) (v : V) (counted : IsCountedNode n) where
  from_entries : (m : NameNode V) → m.len ≡ n.len → entries_in m ≡ revalued place v (entries_in n) → IsRevalued place v n m
  from_entries m same e = (same ∙ counted ∙ sym (ap length e ∙ length-revalued place v (entries_in n)), e)

  pub revalued_before : (d : NameNode V) (b : List (Name × V)) → d ≡ n → place < length n.before → b ≡ revalued place v d.before
      → IsRevalued place v n record { before = b; name = d.name; value = d.value; after = d.after; len = d.len }
  revalued_before d b is h =
      subst (λ y. b ≡ revalued place v y.before → IsRevalued place v n record { before = b; name = y.name; value = y.value; after = y.after; len = y.len }) (sym is)
      (λ e. from_entries record { before = b; name = n.name; value = n.value; after = n.after; len = n.len } refl (ap (λ xs. xs ++ entry_in n ∷ n.after) e ∙ sym (revalued-before place v n.before (entry_in n) n.after h)))

  pub revalued_here : (d : NameNode V) (w : V) → d ≡ n → place ≡ length n.before → w ≡ v
      → IsRevalued place v n record { before = d.before; name = d.name; value = w; after = d.after; len = d.len }
  revalued_here d w is h e =
      subst (λ y. IsRevalued place v n record { before = y.before; name = y.name; value = w; after = y.after; len = y.len }) (sym is)
      (from_entries record { before = n.before; name = n.name; value = w; after = n.after; len = n.len } refl (ap (λ x. n.before ++ ((entry_in n).0, x) ∷ n.after) e ∙ sym (revalued-between place v n.before (entry_in n) n.after h)))

  pub revalued_after : (d : NameNode V) (a : List (Name × V)) (q : ℕ) → d ≡ n → place ≡ length n.before + 1 + q → a ≡ revalued q v d.after
      → IsRevalued place v n record { before = d.before; name = d.name; value = d.value; after = a; len = d.len }
  revalued_after d a q is h =
      subst (λ y. a ≡ revalued q v y.after → IsRevalued place v n record { before = y.before; name = y.name; value = y.value; after = a; len = y.len }) (sym is)
      (λ e. from_entries record { before = n.before; name = n.name; value = n.value; after = a; len = n.len } refl (ap (λ xs. n.before ++ entry_in n ∷ xs) e ∙ sym (revalued-behind place q v n.before (entry_in n) n.after h)))
