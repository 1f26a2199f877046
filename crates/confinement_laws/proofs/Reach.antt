-- Each entry of a legal history keeps within reach: to the clock, to its process's own, and to what its call reaches by descriptors that the
-- ledger says the process holds.
use Rattle.std.proofs.Common.{◌≡◌, inl, inr, ℕ, true, false, List, ◌∷◌, ◌++◌, refl, sym, ap, subst, ◌∙◌}
use Rattle.tree_model.specs.Grants.{MayBegin}
use Rattle.abi_types.specs.declared.call.Call.{Call}
use Rattle.abi_types.specs.declared.constants.Constants.{Constants}
use Rattle.abi_types.specs.declared.reply.Answer.{Answer}
use Rattle.abi_types.specs.declared.thread.Thread.TheVariants.{Runnable}
use Rattle.abi_types.specs.declared.wake.WakeIn.{WakeIn}
use Rattle.abi_types.specs.declared.who.Who.{Who}
use Rattle.run_types.specs.declared.history.Act.{Act}
use Rattle.run_types.specs.declared.history.Act.TheVariants as act
use Rattle.run_types.specs.declared.history.Entry.{Entry}
use Rattle.run_types.specs.declared.launch.Launch.{Launch}
use Rattle.kernel_model.specs.Families.Locks.{with_word}
use Rattle.kernel_model.specs.Laws.{HasSameSight}
use Rattle.kernel_model.specs.State.{State, Part, has_part}
use Rattle.kernel_model.specs.Step.{made_by, sight, touch}
use Rattle.kernel_model.specs.Valid.{IsValid}
use Rattle.kernel_model.specs.Waits.{resumed, WaitsIn}
use Rattle.kernel_model.specs.Wakes.{is_ready}
use Rattle.kernel_model.proofs.Reaches.{touch_is_seen}
use Rattle.kernel_model.proofs.Tests.{not_true}
use Rattle.kernel_model.proofs.WakeSights.{ready_decided, sight_with}
use Rattle.kernel_model.proofs.Waking.{resumed_valid}
use Rattle.run_model.specs.Confined.{ActIsConfined, CallIsConfined, WakeIsConfined}
use Rattle.run_model.specs.Legal.{FitsAct, Legal}
use Rattle.run_model.specs.World.{World, Guest, guest_of, who_of, world}
use Rattle.run_model.proofs.Confinements.{legal_is_confined}
use Rattle.run_model.proofs.Histories.{legal_front, legal_next, world_more}
use Rattle.run_model.proofs.Worlds.{world_is_valid}
use Rattle.authority_laws.proofs.Records.{sight_is_recorded}
use Rattle.authority_laws.specs.Laws.{SeesByHeld}
use Rattle.confinement_laws.specs.Reach.{ActKeepsWithin, AgreesInReach, CallKeepsWithin, IsInReach, KeepsWithinReach, WakeKeepsWithin}
use Rattle.confinement_laws.proofs.Sights.{same_sight}

module _ (launch : Launch) (front : List Entry) where
  -- all that the call sees in this state is in reach
  abbrev SeesInReach : State → Who → Call → Type 0
  SeesInReach S who call = (q : Part) → has_part (sight S who call) q ≡ true → IsInReach launch front who.pid call q

  -- what is neither in reach nor made isn't touched
  beyond_touch : (S : State) (who : Who) (call : Call) (q : Part) → SeesInReach S who call → ¬ IsInReach launch front who.pid call q
      → has_part (made_by S who call) q ≡ false → has_part (touch S who call) q ≡ false
  beyond_touch S who call q sees beyond unmade =
      elim (has_part (touch S who call) q) as (λ b. has_part (touch S who call) q ≡ b → b ≡ false) [
        | true ↦ λ touched. elim (touch_is_seen S who call q touched) [
          | inl seen ↦ absurd (beyond (sees q seen))
          | inr made ↦ absurd (not_true (sym unmade ∙ made))
        ]
        | false ↦ λ _. refl
      ] refl

  -- where all that a call sees is in reach, it sees the same in each state that has the same of what is in reach
  sees_same : (S U : State) (who : Who) (call : Call) → IsValid S → SeesInReach S who call → AgreesInReach launch front who.pid call S U
      → HasSameSight S U who call
  sees_same S U who call valid sees same = same_sight S U who call valid (λ q seen. same q (sees q seen))

  keeps_call : (constants : Constants) (S : State) (who : Who) (call : Call) (given : Answer) (T : State) → IsValid S → SeesInReach S who call
      → CallIsConfined constants S who call given T → CallKeepsWithin launch front constants S who call given T
  keeps_call constants S who call given T valid sees confined = record {
    answers = λ U same. confined.answers U (sees_same S U who call valid sees same);
    sets = λ U same. confined.sets U (sees_same S U who call valid sees same);
    leaves = λ U V same ends again. confined.leaves U V (sees_same S U who call valid sees same) ends again;
    changes = λ q beyond unmade kept. confined.changes q (beyond_touch S who call q sees beyond unmade, kept);
    untouched = confined.changes;
  }

  module _ (valid : IsValid (world launch front).state) (recorded : SeesByHeld launch front) where
    -- a thread's call sees the same parts once the thread runs
    resumed_sees : (who : Who) (call : Call) → SeesInReach (resumed (world launch front).state who) who call
    resumed_sees who call q seen =
        recorded who call q (sym (ap (λ parts. has_part parts q) (sight_with (world launch front).state who.pid who.tid Runnable who call)) ∙ seen)

    keeps_wake : (constants : Constants) (who : Who) (call : Call) (given : WakeIn) (answered : Answer) (T : State)
        → WaitsIn (world launch front).state who call → is_ready constants (world launch front).state who.pid who.tid ≡ true
        → WakeIsConfined constants (world launch front).state who call given answered T
        → WakeKeepsWithin launch front constants (world launch front).state who call given answered T
    keeps_wake constants who call given answered T waits ready confined =
        let S = (world launch front).state in
        record {
          ready = λ U same. sym (ready_decided constants S U who call waits (sees_same S U who call valid (recorded who call) same)) ∙ ready;
          resumes = confined.resumes;
          done = λ word is.
              keeps_call constants (resumed S who) who (with_word word call) answered T (resumed_valid S who valid) (resumed_sees who (with_word word call))
              (confined.done word is);
          faults = λ is. (confined.faults is).1;
        }

    keeps_act : (constants : Constants) (who : Who) (guest : Guest) (ts : List ℕ) (a : Act) (T : State)
        → FitsAct constants (world launch front).state who guest ts a → ActIsConfined constants (world launch front).state who a T
        → ActKeepsWithin launch front constants (world launch front).state who a T
    keeps_act constants who guest ts (act.Call call given) T fits confined =
        keeps_call constants (world launch front).state who call given T valid (recorded who call) confined
    keeps_act constants who guest ts (act.Wake call given answered) T fits confined = keeps_wake constants who call given answered T fits.0.1 fits.1.0 confined
    keeps_act constants who guest ts (act.Trap signal) T fits confined = confined
    keeps_act constants who guest ts act.Expire T fits confined = confined
    keeps_act constants who guest ts act.Idle T fits confined = confined

-- each entry of a legal history keeps within reach
pub keeps_within : (launch : Launch) (front : List Entry) (e : Entry) (rest : List Entry) → MayBegin launch.tree launch.grants → Legal launch (front ++ e ∷ rest)
    → KeepsWithinReach launch front e
keeps_within launch front e rest begins legal =
    let w = world launch front in
    let before : Legal launch front = legal_front launch front (e ∷ rest) legal in
    subst (λ (v : World). ActKeepsWithin launch front w.constants w.state (who_of w.state e) e.act v.state) (sym (world_more launch front e))
    (keeps_act launch front (world_is_valid launch front begins before) (sight_is_recorded launch front begins before)
    w.constants (who_of w.state e) (guest_of w e.pid) e.turns e.act _ (legal_next launch front e rest legal).act
    (legal_is_confined launch (front ++ e ∷ rest) legal begins front e rest refl))
