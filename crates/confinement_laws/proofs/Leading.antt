-- In every legal history what no grant leads to that is meant stays as the launch had it, and what is held leads to nothing of it.
--     Unled scope launch n      the launch begins with the node, and no grant that is meant leads to it
--     unled_stays      such a node is as the launch had it
--     names_lead_inside      a name in a directory that is no such node is of no such node
--     held_leads_inside, held_below_inside      the open of a descriptor that is held, with rights that are meant, is of no such node, and none is
--         below it
use Rattle.std.proofs.Common.{◌≡◌, ◌⊎◌, inl, inr, ℕ, true, List, [], ◌∷◌, ◌++◌, Some, refl, sym, ap, subst, ◌∙◌, append_assoc, append-nil}
use Rattle.std.specs.FinMap.{get}
use Rattle.abi_types.specs.declared.descriptor.Descriptor.{Descriptor}
use Rattle.abi_types.specs.declared.open_kind.OpenKind.{OpenKind}
use Rattle.abi_types.specs.declared.open_kind.OpenKind.TheVariants.{Directory}
use Rattle.maps.specs.Closure.{member}
use Rattle.run_types.specs.declared.history.Entry.{Entry}
use Rattle.run_types.specs.declared.launch.Launch.{Launch}
use Rattle.tree_model.specs.Grants.{MayBegin}
use Rattle.tree_model.specs.Tree.{HasName, below}
use Rattle.kernel_model.specs.State.{State, tree_of}
use Rattle.run_model.specs.Legal.{Legal}
use Rattle.run_model.specs.World.{World, guest_of, turned, who_of, world}
use Rattle.run_model.proofs.Histories.{apply_is, first_state, legal_front, legal_next, world_more, world_none}
use Rattle.run_model.proofs.Worlds.{world_is_valid}
use Rattle.authority_laws.specs.Recorded.{ledger}
use Rattle.authority_laws.proofs.Histories.{up_to}
use Rattle.confinement_laws.specs.Leading.{IsMeant, Scope}
use Rattle.confinement_laws.specs.Untouched.{IsAsLaunched}
use Rattle.confinement_laws.proofs.HeldInside.{AllKept, held_inside, table_inside}
use Rattle.confinement_laws.proofs.Unled.{IsKept, below_inside, start_kept}
use Rattle.confinement_laws.proofs.UnledSteps.{acted_kept}
pub use Rattle.confinement_laws.proofs.Unled.{IsInside, Unled}

-- ---- what stands in front of one more entry

-- all of it, or some of what is in front of the entry
front_or_all : (front : List Entry) (e : Entry) (early rest : List Entry) → front ++ e ∷ [] ≡ early ++ rest
    → (early ≡ front ++ e ∷ []) ⊎ ((more : List Entry) × (front ≡ early ++ more))
front_or_all front e [] rest is = inr (front, refl)
front_or_all [] e (first ∷ []) rest is = inl (let same : first ≡ e = cc in ap (λ x. x ∷ []) same)
front_or_all [] e (first ∷ second ∷ early) rest is = absurd (let none : ([] ≡ second ∷ (early ++ rest)) = cc in cc)
front_or_all (x ∷ front) e (first ∷ early) rest is =
    let same : x ≡ first = cc in
    let more : front ++ e ∷ [] ≡ early ++ rest = cc in
    elim (front_or_all front e early rest more) [
      | inl all ↦ inl (λ i. sym same i ∷ all i)
      | inr part ↦ inr (part.0, λ i. same i ∷ part.1 i)
    ]

module _ (scope : Scope) (launch : Launch) (begins : MayBegin launch.tree launch.grants) where
  -- ---- entries

  start_is_kept : IsKept scope launch (tree_of (world launch []).state)
  start_is_kept =
      subst (λ (w : World). IsKept scope launch (tree_of w.state)) (sym (world_none launch))
      (subst (λ (S : State). IsKept scope launch (tree_of S)) (sym (first_state launch)) (start_kept scope launch begins))

  -- one more entry keeps what no grant leads to
  entry_kept : (front : List Entry) (e : Entry) → Legal launch (front ++ e ∷ []) → AllKept scope launch front
      → IsKept scope launch (tree_of (world launch (front ++ e ∷ [])).state)
  entry_kept front e legal all =
      let earlier : Legal launch front = legal_front launch front (e ∷ []) legal in
      let fits = legal_next launch front e [] legal in
      let w : World = world launch front in
      subst (λ (v : World). IsKept scope launch (tree_of v.state)) (sym (world_more launch front e ∙ apply_is w e))
      (acted_kept scope launch begins (turned w e.pid e.turns) (who_of w.state e) (guest_of w e.pid) e.turns e.act fits.act fits.live
      (world_is_valid launch front begins earlier) (table_inside scope launch begins front earlier all) (all front [] (sym (append-nil front))))

  none_kept : AllKept scope launch []
  none_kept [] rest is = start_is_kept
  none_kept (first ∷ early) rest is = absurd (cc)

  more_kept : (front : List Entry) (e : Entry) → Legal launch (front ++ e ∷ []) → AllKept scope launch front → AllKept scope launch (front ++ e ∷ [])
  more_kept front e legal all early rest is =
      elim (front_or_all front e early rest is) [
        | inl whole ↦ subst (λ h. IsKept scope launch (tree_of (world launch h).state)) (sym whole) (entry_kept front e legal all)
        | inr part ↦ all early part.0 part.1
      ]

  rest_kept : (front rest : List Entry) → Legal launch (front ++ rest) → AllKept scope launch front → AllKept scope launch (front ++ rest)
  rest_kept front [] legal all = subst (AllKept scope launch) (sym (append-nil front)) all
  rest_kept front (e ∷ rest) legal all =
      let same : (front ++ e ∷ []) ++ rest ≡ front ++ e ∷ rest = append_assoc front (e ∷ []) rest in
      subst (AllKept scope launch) same
      (rest_kept (front ++ e ∷ []) rest (subst (Legal launch) (sym same) legal) (more_kept front e (up_to launch front e rest legal) all))

  -- ---- histories

  pub all_kept : (history : List Entry) → Legal launch history → AllKept scope launch history
  all_kept history legal = rest_kept [] history legal none_kept

  pub kept_at : (history : List Entry) → Legal launch history → IsKept scope launch (tree_of (world launch history).state)
  kept_at history legal = all_kept history legal history [] (sym (append-nil history))

-- what no grant leads to stays as the launch had it
pub unled_stays : (scope : Scope) (launch : Launch) (history : List Entry) → MayBegin launch.tree launch.grants → Legal launch history → (n : ℕ)
    → Unled scope launch n → IsAsLaunched launch history n
unled_stays scope launch history begins legal n unled =
    let kept = kept_at scope launch begins history legal in record { node = kept.nodes n unled; names = kept.names n unled }

-- a name in a directory to which a grant leads, or that is new, is of no node to which none leads
pub names_lead_inside : (scope : Scope) (launch : Launch) (history : List Entry) → MayBegin launch.tree launch.grants → Legal launch history
    → (d : ℕ) (name : List ℕ) (n : ℕ) → HasName (tree_of (world launch history).state) d name n → ¬ Unled scope launch d → ¬ Unled scope launch n
names_lead_inside scope launch history begins legal = (kept_at scope launch begins history legal).leads

-- the open of a descriptor that is held, with rights that are meant, is of no node to which no grant leads
pub held_leads_inside : (scope : Scope) (launch : Launch) (history : List Entry) → MayBegin launch.tree launch.grants → Legal launch history
    → (p n : ℕ) (d : Descriptor) (kind : OpenKind) → (ledger launch history).held p n ≡ Some d → IsMeant scope d.base d.inheriting
    → get (world launch history).state.opens d.id ≡ Some kind → IsInside scope launch kind
held_leads_inside scope launch history begins legal = held_inside scope launch begins history legal (all_kept scope launch begins history legal)

-- nor is one below the directory that it is of
pub held_below_inside : (scope : Scope) (launch : Launch) (history : List Entry) → MayBegin launch.tree launch.grants → Legal launch history
    → (p n : ℕ) (d : Descriptor) (m flags : ℕ) → (ledger launch history).held p n ≡ Some d → IsMeant scope d.base d.inheriting
    → get (world launch history).state.opens d.id ≡ Some (Directory m flags)
    → (q : ℕ) → member q (below (tree_of (world launch history).state) m) ≡ true → ¬ Unled scope launch q
held_below_inside scope launch history begins legal p n d m flags held meant opened =
    below_inside scope launch (tree_of (world launch history).state) (kept_at scope launch begins history legal) m
    (held_leads_inside scope launch history begins legal p n d (Directory m flags) held meant opened)
