-- A node that has lost a name goes where it is no longer used.
--     AreUsedBut kinds t lost      each node but one is used
--     forgetting_none, forgetting_one      where each node is used, none goes;  where each other one is, it alone may
--     used_still      a node is used as before, but that which has lost its last name
use Rattle.std.proofs.Common.{◌≡◌, ◌≢◌, ◌⊎◌, ℕ, zero, suc, ◌≤◌, true, false, inl, inr, Option, Some, None, IsSome, is_some, refl, sym, ap, subst, ◌∙◌, arith}
use Rattle.std.specs.Ordering.{nat_cmp}
use Rattle.std.specs.FinMap.{FinMap, get, remove}
use Rattle.std.specs.Option.{option_map}
use Rattle.abi_types.specs.declared.node.Node.{Node}
use Rattle.abi_types.specs.declared.open_kind.OpenKind.{OpenKind}
use Rattle.maps.specs.Maps.{get-remove-same, get-remove-other}
use Rattle.tree_model.specs.Changes.{forgotten}
use Rattle.tree_model.specs.Opens.{is_used, opens_of_node}
use Rattle.tree_model.specs.Releasing.{retained-all, retained-forgotten, used_by_links, used_more}
use Rattle.tree_model.specs.Retained.{retained}
use Rattle.tree_model.specs.Tree.{Tree, IsTree, links_in, links_of}
use Rattle.kernel_model.proofs.Tests.{none_is_no, not_true, same_some}
use Rattle.entry_calls.specs.Done.{LosesOnly}

-- each node but this one, if one is named, is used
abbrev pub AreUsedBut : FinMap nat_cmp OpenKind → Tree → Option ℕ → Type 0
AreUsedBut kinds t lost = (n : ℕ) → IsSome (get t.nodes n) → (lost ≡ Some n) ⊎ (is_used kinds t n ≡ true)

-- ---- what goes

pub forgetting_none : (kinds : FinMap nat_cmp OpenKind) (t u : Tree) → IsTree t → AreUsedBut kinds t None → u ≡ t → u ≡ retained t (is_used kinds t)
forgetting_none kinds t u tree used same =
    same ∙ sym (retained-all t (is_used kinds t) tree (λ n there. elim (used n there) [ inl is ↦ absurd (none_is_no n is) | inr is ↦ is ]))

module _ (kinds : FinMap nat_cmp OpenKind) (t u : Tree) (node : ℕ) (tree : IsTree t) (used : AreUsedBut kinds t (Some node)) where
  -- it stays
  stays : (IsSome (get t.nodes node) → is_used kinds t node ≡ true) → u ≡ t → u ≡ retained t (is_used kinds t)
  stays own same =
      same ∙ sym (retained-all t (is_used kinds t) tree (λ n there. elim (used n there) [
        | inl is ↦ subst (λ k. is_used kinds t k ≡ true) (same_some node n is) (own (subst (λ k. IsSome (get t.nodes k)) (sym (same_some node n is)) there))
        | inr is ↦ is
      ]))

  -- it goes
  goes : is_used kinds t node ≡ false → IsTree u → u ≡ forgotten t node → u ≡ retained t (is_used kinds t)
  goes unused left is =
      is ∙ sym (retained-all (forgotten t node) (is_used kinds t) (subst IsTree is left) others) ∙ retained-forgotten t (is_used kinds t) node unused
    where
      others : (n : ℕ) → IsSome (get (remove t.nodes node) n) → is_used kinds t n ≡ true
      others n there =
          let other : n ≢ node = λ same.
          not_true (sym (ap (λ k. is_some (get (remove t.nodes node) k)) same ∙ ap is_some (get-remove-same t.nodes node)) ∙ there) in
          elim (used n (sym (ap is_some (get-remove-other t.nodes node n other)) ∙ there)) [
            | inl is ↦ absurd (other (sym (same_some node n is)))
            | inr is ↦ is
          ]

  pub forgetting_one : IsTree u → (is_used kinds t node ≡ true → u ≡ t) → (get t.nodes node ≡ None → u ≡ t)
      → (is_used kinds t node ≡ false → IsSome (get t.nodes node) → u ≡ forgotten t node) → u ≡ retained t (is_used kinds t)
  forgetting_one left kept absent gone =
      elim (is_used kinds t node) as (λ b. is_used kinds t node ≡ b → u ≡ retained t (is_used kinds t)) [
        | true ↦ λ is. stays (λ _. is) (kept is)
        | false ↦ λ is. elim (get t.nodes node) as (λ o. get t.nodes node ≡ o → u ≡ retained t (is_used kinds t)) [
          | None ↦ λ none. stays (λ there. absurd (not_true (sym (ap is_some none) ∙ there))) (absent none)
          | Some x ↦ λ there. goes is left (gone is (ap is_some there))
        ] refl
      ] refl

-- ---- which nodes are used

-- a node without a name is there, and counts none
nameless_there : (o : Option Node) → option_map (λ (node : Node). node.links) o ≡ Some 0 → IsSome o × (links_in o ≡ 0)
nameless_there None none = absurd (none_is_no 0 none)
nameless_there (Some node) none = (refl, same_some node.links 0 none)

nameless_so : (o : Option Node) → IsSome o → links_in o ≡ 0 → option_map (λ (node : Node). node.links) o ≡ Some 0
nameless_so None there none = absurd (not_true there)
nameless_so (Some node) there none = ap Some none

pub used_still : (few many : FinMap nat_cmp OpenKind) (t u : Tree) (lost : Option ℕ) → ((n : ℕ) → opens_of_node few n ≤ opens_of_node many n)
    → ((n : ℕ) → IsSome (get t.nodes n) → is_used few t n ≡ true) → LosesOnly t u lost
    → (n : ℕ) → IsSome (get u.nodes n) → (lost ≡ Some n) ⊎ (is_used many u n ≡ true)
used_still few many t u lost opens used loses n there = by_links (links_of u n) refl where
  by_links : (k : ℕ) → links_of u n ≡ k → (lost ≡ Some n) ⊎ (is_used many u n ≡ true)
  by_links zero none =
      elim (loses n (nameless_so (get u.nodes n) there none)) [
        | inl is ↦ inl is
        | inr was ↦ (
            let before = nameless_there (get t.nodes n) was in
            inr (used_more few many t u n (none ∙ sym before.1) (opens n) (used n before.0)))
      ]
  by_links (suc k) some = inr (used_by_links many u n (omega (arith, some)))
