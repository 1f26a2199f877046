-- Two launches that differ only beyond their grants run alike.
--     IsAlike      the history is one of the other launch too, with a world that is the same but for what is beyond the grants
--     begins_alike, goes_on_alike, runs_alike      at the start;  after one entry more;  after each legal history
use Rattle.std.proofs.Common.{◌≡◌, List, [], ◌∷◌, ◌++◌, sym, ap, subst, ◌∙◌, append-nil, append_assoc}
use Rattle.std.specs.Ordering.{nat_cmp}
use Rattle.std.specs.FinMap.{empty, insert}
use Rattle.run_types.specs.declared.history.Entry.{Entry}
use Rattle.run_types.specs.declared.launch.Launch.{Launch}
use Rattle.tree_model.specs.Grants.{MayBegin}
use Rattle.call_codec.specs.Start.{canary, first_registers, start_pages}
use Rattle.kernel_model.specs.State.{State, at_node, at_names, at_status}
use Rattle.kernel_model.specs.Valid.{IsValid}
use Rattle.kernel_model.specs.Wakes.{NoneReady}
use Rattle.run_model.specs.Ends.{Ended, Stalled}
use Rattle.run_model.specs.Legal.{Fits, Legal}
use Rattle.run_model.specs.World.{World, apply, first_guest, start_world, world}
use Rattle.run_model.proofs.Histories.{apply_constants, legal_front, legal_more, legal_next, legal_none, world_more, world_none}
use Rattle.run_model.proofs.Worlds.{world_is_valid}
use Rattle.confinement_laws.specs.Alike.{DifferBeyondGrants, IsSameButBeyond, LaunchesRunAlike, RunsAlike}
use Rattle.confinement_laws.proofs.AlikeActs.{SeesSame, apply_guests, apply_kept, at_state, fits_there, least_alike, none_ready_alike, parked_alike}
use Rattle.confinement_laws.proofs.AlikeInside.{held_leads_inside}
use Rattle.confinement_laws.proofs.AlikeLaunches.{Inside, Within, starts_kept}
use Rattle.confinement_laws.proofs.AlikeSights.{LeadsInside, leads_both, seen_kept}
use Rattle.confinement_laws.proofs.AlikeStates.{AgreeKept, bare, bare_alike}
use Rattle.confinement_laws.proofs.Sights.{same_sight}

-- both worlds have the same constants and guests, and their kernels the same but for what is beyond the grants
record AreAlike (one other : Launch) (v w : World) : Type 0 where
  pub constants : v.constants ≡ w.constants
  pub guests : v.guests ≡ w.guests
  pub state : AgreeKept (Within one other) v.state w.state

-- the history is one of the other launch, with such a world
record IsAlike (one other : Launch) (history : List Entry) : Type 0 where
  pub legal : Legal other history
  pub worlds : AreAlike one other (world one history) (world other history)

-- where each held descriptor leads to what isn't beyond the grants in both states, each call sees the same in both
sees_alike : (one other : Launch) (S U : State) → IsValid S → IsValid U → AgreeKept (Within one other) S U → LeadsInside (Inside one) S
    → LeadsInside (Inside other) U → SeesSame S U
sees_alike one other S U valid sound same here there who call =
    let leads : LeadsInside (Within one other) S = leads_both (Inside one) (Inside other) S U sound.nearly.tree same here there in
    same_sight S U who call valid (λ q seen. same q (seen_kept (Within one other) S leads who call q seen))

module _ (one other : Launch) (begins : MayBegin one.tree one.grants) (other_begins : MayBegin other.tree other.grants) (differ : DifferBeyondGrants one other) where
  -- ---- the start

  start_guests : insert (empty {R = nat_cmp}) 0 (first_guest one) ≡ insert empty 0 (first_guest other)
  start_guests =
      λ i. insert empty 0 (record {
        memory = start_pages (differ.elf i) (differ.argdata i) (canary (differ.constants i).key 0 0) 0 1;
        regs = insert empty 1 (first_registers (differ.elf i).entry);
        left = differ.turns i;
      })

  start_alike : AreAlike one other (start_world one) (start_world other)
  unfolding start_world
  start_alike = record {
    constants = differ.constants;
    guests = start_guests;
    state = starts_kept one other differ begins.tree.tree other_begins.tree.tree;
  }

  begins_alike : IsAlike one other []
  begins_alike = record {
    legal = legal_none other;
    worlds = subst (λ v. AreAlike one other v (world other [])) (sym (world_none one))
        (subst (λ w. AreAlike one other (start_world one) w) (sym (world_none other)) start_alike);
  }

  -- ---- after the same history

  module _ (history : List Entry) (legal : Legal one history) (alike : IsAlike one other history) where
    abbrev v : World
    v = world one history

    abbrev w : World
    w = world other history

    calls_see_same : SeesSame v.state w.state
    calls_see_same =
        sees_alike one other v.state w.state (world_is_valid one history begins legal) (world_is_valid other history other_begins alike.legal)
        alike.worlds.state (held_leads_inside one history begins legal) (held_leads_inside other history other_begins alike.legal)

    -- the world of the other launch is the first one with the other kernel's state
    is_at_state : at_state v w.state ≡ w
    is_at_state = λ i. record { constants = alike.worlds.constants i; state = w.state; guests = alike.worlds.guests i }

    fits_other : (e : Entry) → Fits v e → Fits w e
    fits_other e fits =
        subst (λ x. Fits x e) is_at_state
        (fits_there (Within one other) v w.state e (world_is_valid one history begins legal) alike.worlds.state calls_see_same fits)

    applied_alike : (e : Entry) → AreAlike one other (apply v e) (apply w e)
    applied_alike e =
        subst (λ x. AreAlike one other (apply v e) (apply x e)) is_at_state
        (record {
          constants = apply_constants v e ∙ sym (apply_constants (at_state v w.state) e);
          guests = apply_guests v w.state e (bare_alike (Within one other) v.state w.state alike.worlds.state);
          state = apply_kept (Within one other) v w.state e alike.worlds.state calls_see_same;
        })

    goes_on_alike : (e : Entry) → Fits v e → IsAlike one other (history ++ e ∷ [])
    goes_on_alike e fits = record {
      legal = legal_more other history e alike.legal (fits_other e fits);
      worlds = subst (λ x. AreAlike one other x (world other (history ++ e ∷ []))) (sym (world_more one history e))
          (subst (λ x. AreAlike one other (apply v e) x) (sym (world_more other history e)) (applied_alike e));
    }

    -- ---- what is said of it

    is_same : IsSameButBeyond one other v w
    is_same =
        let all : bare v.state ≡ bare w.state = bare_alike (Within one other) v.state w.state alike.worlds.state in
        record {
          constants = alike.worlds.constants;
          guests = alike.worlds.guests;
          clock = ap (λ (S : State). S.clock) all;
          tables = ap (λ (S : State). S.tables) all;
          processes = ap (λ (S : State). S.processes) all;
          statuses = ap (λ (S : State). S.statuses) all;
          opens = ap (λ (S : State). S.opens) all;
          terms = ap (λ (S : State). S.terms) all;
          chans = ap (λ (S : State). S.chans) all;
          nodes = λ n here there. alike.worlds.state (at_node n) (here, there);
          names = λ n here there. alike.worlds.state (at_names n) (here, there);
        }

    ends_alike : Ended one history → Ended other history
    ends_alike none p live = none p (alike.worlds.state (at_status p) tt ∙ live)

    stalls_alike : Stalled one history → Stalled other history
    stalls_alike stalled =
        let all : bare v.state ≡ bare w.state = bare_alike (Within one other) v.state w.state alike.worlds.state in
        record {
          all = parked_alike v.state w.state all stalled.all;
          none = subst (λ constants. NoneReady constants w.state) alike.worlds.constants
              (none_ready_alike v.constants v.state w.state all calls_see_same stalled.none);
          least = sym (least_alike v.state w.state all) ∙ stalled.least;
        }

    run_alike : RunsAlike one other history
    run_alike = record { legal = alike.legal; same = is_same; ended = ends_alike; stalled = stalls_alike }

  -- ---- each history

  rest_alike : (front rest : List Entry) → Legal one (front ++ rest) → IsAlike one other front → IsAlike one other (front ++ rest)
  rest_alike front [] legal alike = subst (IsAlike one other) (sym (append-nil front)) alike
  rest_alike front (e ∷ rest) legal alike =
      let next : IsAlike one other (front ++ e ∷ []) = goes_on_alike front (legal_front one front (e ∷ rest) legal) alike e (legal_next one front e rest legal) in
      subst (IsAlike one other) (append_assoc front (e ∷ []) rest)
      (rest_alike (front ++ e ∷ []) rest (subst (Legal one) (sym (append_assoc front (e ∷ []) rest)) legal) next)

  all_alike : (history : List Entry) → Legal one history → RunsAlike one other history
  all_alike history legal = run_alike history legal (rest_alike [] history legal begins_alike)

pub launches_run_alike : LaunchesRunAlike
launches_run_alike one other history begins other_begins differ legal = all_alike one other begins other_begins differ history legal
