-- One step of the kernel keeps what no grant leads to.
--     released_kept      the release keeps it
--     step_kept      so does a call of a process whose descriptors, with rights that are meant, are of no such node
--     acted_kept      and each act of a history
use Rattle.std.proofs.Common.{◌≡◌, inl, inr, ℕ, ◌+◌, ◌≤◌, not, true, false, List, ◌∷◌, map, Some, refl, sym, ap, subst, ◌∙◌}
use Rattle.std.specs.FinMap.{get, get-empty}
use Rattle.abi_base.specs.declared.signal.Signal.TheVariants.{Xcpu}
use Rattle.abi_types.specs.declared.call.Call.{Call}
use Rattle.abi_types.specs.declared.constants.Constants.{Constants}
use Rattle.abi_types.specs.declared.descriptor.Descriptor.{Descriptor}
use Rattle.abi_types.specs.declared.reply.Answer.{Answer}
use Rattle.abi_types.specs.declared.reply.Answer.TheVariants as answer
use Rattle.abi_types.specs.declared.status.Status.{Status}
use Rattle.abi_types.specs.declared.status.Status.TheVariants.{Killed, Live}
use Rattle.abi_types.specs.declared.thread.Thread.{Thread}
use Rattle.abi_types.specs.declared.wake.WakeIn.TheVariants as wake
use Rattle.abi_types.specs.declared.who.Who.{Who}
use Rattle.maps.specs.Names as name_map
use Rattle.run_types.specs.declared.history.Act.{Act}
use Rattle.run_types.specs.declared.history.Act.TheVariants as act
use Rattle.run_types.specs.declared.launch.Launch.{Launch}
use Rattle.tree_model.specs.Grants.{MayBegin}
use Rattle.tree_model.specs.Tree.{Tree, HasName, links_in, links_of, names_in}
use Rattle.kernel_model.specs.Families.Locks.{with_word}
use Rattle.kernel_model.specs.Release.{is_released, release, without_ended}
use Rattle.kernel_model.specs.Sight.{behind}
use Rattle.kernel_model.specs.State.{State, Table, Part, at_names, at_node, at_open, has_part, part_of, put_all, tree_of}
use Rattle.kernel_model.specs.Step.{IsStep, end_state, end_unreleased, made_by, outcome, step_answer, tick, touch, unreleased}
use Rattle.kernel_model.specs.Valid.{IsValid}
use Rattle.kernel_model.specs.Waits.{resumed, waiting, waits_if}
use Rattle.kernel_model.proofs.Parts.{put_keeps}
use Rattle.kernel_model.proofs.Tests.{none_is_no}
use Rattle.kernel_model.proofs.Touches.{end_is, release_ends, release_keeps, sets_touched}
use Rattle.kernel_model.proofs.Valids.{named_is_kept}
use Rattle.kernel_model.proofs.Waking.{resumed_valid}
use Rattle.run_model.specs.Legal.{FitsAct}
use Rattle.run_model.specs.Own.{IsLiveIn, is_idle}
use Rattle.run_model.specs.World.{Guest, World, acted, called_state, woken_state}
use Rattle.confinement_laws.specs.Leading.{IsMeant, MayWrite, Scope, any, writing}
use Rattle.confinement_laws.specs.Untouched.{IsWrittenBy}
use Rattle.confinement_laws.proofs.HeldInside.{HoldsInside}
use Rattle.confinement_laws.proofs.MadeNumbers.{made_sets_none}
use Rattle.confinement_laws.proofs.NeededRights.{meant_of_written}
use Rattle.confinement_laws.proofs.Unled.{IsKept, IsPartOf, Unled, behind_inside}
use Rattle.confinement_laws.proofs.NamingCalls.{names_are_touched}
use Rattle.confinement_laws.proofs.WritingCalls.{tree_is_written}

-- a descriptor with a right by which trees are changed, or that passes one on, is meant in either case
writing_is_meant : (scope : Scope) (d : Descriptor) → MayWrite d.base d.inheriting → IsMeant scope d.base d.inheriting
writing_is_meant any d writes = tt
writing_is_meant writing d writes = writes

-- how a thread waits is no part of the tree
waited_tree : (a : Answer) (who : Who) (thread : Thread) (S : State) → tree_of (waits_if a who thread S) ≡ tree_of S
waited_tree (answer.Parked writes) who thread S = refl
waited_tree (answer.Reply reply) who thread S = refl

-- ---- the release

-- what is named in a directory after the release was so before it
names_before : (U : State) (d : ℕ) (name : List ℕ) (n : ℕ) → HasName (tree_of (release U)) d name n → HasName (tree_of U) d name n
names_before U d name n named =
    elim (is_released U (at_names d)) as (λ b. is_released U (at_names d) ≡ b → HasName (tree_of U) d name n) [
      | true ↦ λ gone.
          absurd (none_is_no n (sym (get-empty name_map.name_cmp name) ∙ sym (ap (λ o. get (names_in o) name) (release_ends U (at_names d) gone)) ∙ named))
      | false ↦ λ stays. sym (ap (λ o. get (names_in o) name) (release_keeps U (at_names d) stays)) ∙ named
    ] refl

module _ (scope : Scope) (launch : Launch) (begins : MayBegin launch.tree launch.grants) where
  -- a node to which no grant leads, and that is as the launch had it, has a name, so the release leaves it
  node_stays : (U : State) (n : ℕ) → Unled scope launch n → get U.nodes n ≡ get launch.tree.nodes n → is_released U (at_node n) ≡ false
  node_stays U n unled same =
      let named : 1 ≤ links_of (tree_of (without_ended U)) n = subst (λ o. 1 ≤ links_in o) (sym same) (begins.tree.named n unled.0) in
      ap not (named_is_kept (without_ended U) n named)

  -- the release keeps what no grant leads to
  released_kept : (U : State) → IsKept scope launch (tree_of U) → IsKept scope launch (tree_of (release U))
  released_kept U kept = record {
    nodes = λ n unled. release_keeps U (at_node n) (node_stays U n unled (kept.nodes n unled)) ∙ kept.nodes n unled;
    names = λ n unled. release_keeps U (at_names n) (node_stays U n unled (kept.nodes n unled)) ∙ kept.names n unled;
    leads = λ d name n named. kept.leads d name n (names_before U d name n named);
  }

  -- ---- a call

  module _ (S : State) (valid : IsValid S) (kept : IsKept scope launch (tree_of S)) (held : HoldsInside scope launch S) (who : Who)
      (live : get S.statuses who.pid ≡ Some Live) where
    -- no part of such a node is behind a descriptor with rights that are meant
    unreached : (table : Table) (fd : ℕ) (d : Descriptor) → get S.tables who.pid ≡ Some table → get table fd ≡ Some d → IsMeant scope d.base d.inheriting
        → (n : ℕ) (part : Part) → IsPartOf n part → has_part (at_open d.id ∷ behind S (get S.opens d.id)) part ≡ true → ¬ Unled scope launch n
    unreached table fd d own there meant n part (inl is) h =
        behind_inside scope launch S kept (get S.opens d.id) (λ kind opened. held who.pid table fd d kind own there meant opened) n (at_node n) (inl refl)
        (subst (λ q. has_part (at_open d.id ∷ behind S (get S.opens d.id)) q ≡ true) is h)
    unreached table fd d own there meant n part (inr is) h =
        behind_inside scope launch S kept (get S.opens d.id) (λ kind opened. held who.pid table fd d kind own there meant opened) n (at_names n) (inr refl)
        (subst (λ q. has_part (at_open d.id ∷ behind S (get S.opens d.id)) q ≡ true) is h)

    -- a call doesn't write it
    unwritten : (c : Call) (n : ℕ) (part : Part) → IsPartOf n part → IsWrittenBy S who c part → ¬ Unled scope launch n
    unwritten c n part of w =
        unreached w.table w.row.fd w.d w.own w.there (writing_is_meant scope w.d (meant_of_written S who c part valid w)) n part of w.reached

    -- what it sets is all there is to the tree that it leaves
    left_tree : (constants : Constants) (c : Call)
        → tree_of (unreleased constants S who c) ≡ tree_of (put_all (outcome constants S who c).updates (tick S))
    left_tree constants c =
        waited_tree (step_answer constants S who c) who (waiting constants c who (S.clock + 1000)) (put_all (outcome constants S who c).updates (tick S))

    -- where it touches one, it leaves the tree
    touched_leaves : (constants : Constants) (c : Call) (n : ℕ) (part : Part) → IsPartOf n part → Unled scope launch n
        → has_part (touch S who c) part ≡ true → tree_of (unreleased constants S who c) ≡ tree_of S
    touched_leaves constants c n part of unled touched =
        elim (has_part (made_by S who c) part) as (λ b. has_part (made_by S who c) part ≡ b → tree_of (unreleased constants S who c) ≡ tree_of S) [
          | true ↦ λ made.
              left_tree constants c
              ∙ ap (λ us. tree_of (put_all us (tick S))) (made_sets_none constants S who c n part valid live (begins.tree.numbered n unled.0).0 of made)
          | false ↦ λ unmade. elim (tree_is_written S who c part (n, of) touched unmade) [
            | inl written ↦ absurd (unwritten c n part of written unled)
            | inr leaves ↦ leaves constants
          ]
        ] refl

    -- so it leaves each such node, and the names in it
    unreleased_same : {X : Type 0} (constants : Constants) (c : Call) (n : ℕ) (part : Part) (f : Tree → X) → IsPartOf n part → Unled scope launch n
        → (has_part (map part_of (outcome constants S who c).updates) part ≡ false
        → f (tree_of (put_all (outcome constants S who c).updates (tick S))) ≡ f (tree_of S))
        → f (tree_of (unreleased constants S who c)) ≡ f (tree_of S)
    unreleased_same {X} constants c n part f of unled stays =
        elim (has_part (touch S who c) part) as (λ b. has_part (touch S who c) part ≡ b → f (tree_of (unreleased constants S who c)) ≡ f (tree_of S)) [
          | true ↦ λ touched. ap f (touched_leaves constants c n part of unled touched)
          | false ↦ λ outside. ap f (left_tree constants c) ∙ stays (sets_touched constants S who c part outside)
        ] refl

    unreleased_node : (constants : Constants) (c : Call) (n : ℕ) → Unled scope launch n → get (unreleased constants S who c).nodes n ≡ get launch.tree.nodes n
    unreleased_node constants c n unled =
        unreleased_same constants c n (at_node n) (λ (t : Tree). get t.nodes n) (inl refl) unled
        (put_keeps (outcome constants S who c).updates (tick S) (at_node n)) ∙ kept.nodes n unled

    unreleased_names : (constants : Constants) (c : Call) (n : ℕ) → Unled scope launch n → get (unreleased constants S who c).names n ≡ get launch.tree.names n
    unreleased_names constants c n unled =
        unreleased_same constants c n (at_names n) (λ (t : Tree). get t.names n) (inr refl) unled
        (put_keeps (outcome constants S who c).updates (tick S) (at_names n)) ∙ kept.names n unled

    -- where it leaves the tree, no name comes
    names_stay : (constants : Constants) (c : Call) (d : ℕ) (name : List ℕ) (n : ℕ) → tree_of (unreleased constants S who c) ≡ tree_of S
        → HasName (tree_of (release (unreleased constants S who c))) d name n → HasName (tree_of S) d name n
    names_stay constants c d name n same named =
        subst (λ (t : Tree). HasName t d name n) same (names_before (unreleased constants S who c) d name n named)

    -- a name that comes is of no such node
    step_leads : (constants : Constants) (c : Call) (given : Answer) (T : State) → given ≡ step_answer constants S who c
        → T ≡ release (unreleased constants S who c) → (d : ℕ) (name : List ℕ) (n : ℕ) → HasName (tree_of T) d name n → ¬ Unled scope launch d
        → ¬ Unled scope launch n
    step_leads constants c given T answered left d name n named outside unled =
        let released : HasName (tree_of (release (unreleased constants S who c))) d name n = subst (λ X. HasName (tree_of X) d name n) left named in
        let before : tree_of (unreleased constants S who c) ≡ tree_of S → ⊥ =
        λ same. kept.leads d name n (names_stay constants c d name n same released) outside unled in
        elim (names_are_touched constants S who c given T d name n valid (inl (answered, left)) named) [
          | inl was ↦ kept.leads d name n was outside unled
          | inr touched ↦ elim touched [
            | inl node ↦ before (touched_leaves constants c n (at_node n) (inl refl) unled node)
            | inr moved ↦ kept.leads moved.0 moved.1 n moved.2
                (λ directory. before (touched_leaves constants c moved.0 (at_names moved.0) (inr refl) directory moved.3)) unled
          ]
        ]

    -- a call keeps what no grant leads to
    pub step_kept : (constants : Constants) (c : Call) (given : Answer) (T : State) → IsStep constants S who c given T → IsKept scope launch (tree_of T)
    step_kept constants c given T (inl done) =
        let U : State = unreleased constants S who c in
        record {
          nodes = λ n unled.
              (let same = unreleased_node constants c n unled in
              ap (λ (X : State). get X.nodes n) done.1 ∙ release_keeps U (at_node n) (node_stays U n unled same) ∙ same);
          names = λ n unled.
              ap (λ (X : State). get X.names n) done.1
              ∙ release_keeps U (at_names n) (node_stays U n unled (unreleased_node constants c n unled)) ∙ unreleased_names constants c n unled;
          leads = step_leads constants c given T done.0 done.1;
        }
    step_kept constants c given T (inr lacking) = subst (λ X. IsKept scope launch (tree_of X)) (sym lacking.2) kept

  -- ---- an act

  ended_kept : (S : State) (p : ℕ) (status : Status) → IsKept scope launch (tree_of S) → IsKept scope launch (tree_of (end_state S p status))
  ended_kept S p status kept =
      subst (λ X. IsKept scope launch (tree_of X)) (sym (end_is S p status)) (released_kept (end_unreleased S p status) kept)

  -- so does each act of a history
  pub acted_kept : (w : World) (who : Who) (guest : Guest) (ts : List ℕ) (a : Act) → FitsAct w.constants w.state who guest ts a
      → (is_idle a ≡ false → IsLiveIn w who.pid) → IsValid w.state → HoldsInside scope launch w.state → IsKept scope launch (tree_of w.state)
      → IsKept scope launch (tree_of (acted w who a).state)
  acted_kept w who guest ts (act.Call call given) fits live valid held kept =
      step_kept w.state valid kept held who (live refl) w.constants call given (called_state w.constants w.state who call given) fits.1
  acted_kept w who guest ts (act.Wake call (wake.Plain word) answered) fits live valid held kept =
      step_kept (resumed w.state who) (resumed_valid w.state who valid) kept held who (live refl) w.constants (with_word word call) answered
      (woken_state w.constants w.state who call (wake.Plain word) answered) fits.1.1.0
  acted_kept w who guest ts (act.Wake call wake.Fault answered) fits live valid held kept = kept
  acted_kept w who guest ts (act.Trap signal) fits live valid held kept = ended_kept w.state who.pid (Killed signal) kept
  acted_kept w who guest ts act.Expire fits live valid held kept = ended_kept w.state who.pid (Killed Xcpu) kept
  acted_kept w who guest ts act.Idle fits live valid held kept = kept
