-- Each entry of a legal history is confined.
use Rattle.std.proofs.Common.{◌≡◌, inl, inr, ℕ, true, false, List, ◌∷◌, ◌++◌, refl, sym, ap, subst, ◌∙◌}
use Rattle.abi_types.specs.declared.reply.Answer.{Answer}
use Rattle.abi_types.specs.declared.reply.Answer.TheVariants as answer
use Rattle.abi_types.specs.declared.call.Call.{Call}
use Rattle.abi_types.specs.declared.reply.Reply.{Reply}
use Rattle.abi_types.specs.declared.constants.Constants.{Constants}
use Rattle.abi_base.specs.declared.errno.Errno.TheVariants.{Badf, Nomem}
use Rattle.abi_base.specs.declared.signal.Signal.TheVariants.{Xcpu}
use Rattle.abi_types.specs.declared.status.Status.TheVariants.{Killed}
use Rattle.abi_types.specs.declared.wake.WakeIn.{WakeIn}
use Rattle.abi_types.specs.declared.wake.WakeIn.TheVariants as wake
use Rattle.abi_types.specs.declared.who.Who.{Who}
use Rattle.run_types.specs.declared.history.Act.{Act}
use Rattle.run_types.specs.declared.history.Act.TheVariants as act
use Rattle.run_types.specs.declared.history.Entry.{Entry}
use Rattle.run_types.specs.declared.launch.Launch.{Launch}
use Rattle.kernel_model.specs.CallBounds.{IsAbsentIn, IsBadfBefore}
use Rattle.kernel_model.specs.Calls.{takes_memory}
use Rattle.kernel_model.specs.Laws.{HasSameSight, EndsAlike, IsNotDeniedEarly}
use Rattle.kernel_model.specs.Outcome.{Outcome, IsSuccess, is_parked}
use Rattle.kernel_model.specs.Reply.{refused}
use Rattle.tree_model.specs.Grants.{MayBegin}
use Rattle.kernel_model.specs.State.{State, AgreeOn, at_clock, at_proc}
use Rattle.kernel_model.specs.Step.{tick, sight, unreleased, step_answer, step_state, failed, IsStep}
use Rattle.kernel_model.specs.Deadlines.{idle_state}
use Rattle.kernel_model.specs.Valid.{IsValid}
use Rattle.kernel_model.specs.Waits.{may_wait, resumed, MayWait}
use Rattle.kernel_model.specs.Wakes.{may_queue, IsWake}
use Rattle.kernel_model.specs.Families.Locks.{with_word}
use Rattle.kernel_model.specs.OwnChanges.{begins_to_sleep}
use Rattle.kernel_model.proofs.Readiness.{idle_jumps, parking_is_allowed, parking_keeps}
use Rattle.kernel_model.proofs.Tests.{not_true}
use Rattle.kernel_model.proofs.WaitedCalls.{waited_is_plain}
use Rattle.kernel_model.proofs.Waking.{resumed_runs, resumed_valid}
use Rattle.kernel_model.proofs.Calls.{proper}
use Rattle.kernel_model.proofs.Decisions.{sight_decides, step_decided, ticks_alike}
use Rattle.kernel_model.proofs.Found.{badf_is_absent}
use Rattle.kernel_model.proofs.Refusals.{lack_is_denied, leaving_is_denied, replies_are_listed, reply_no_lack, error_keeps, step_denial, step_reported}
use Rattle.kernel_model.proofs.Touches as touches
use Rattle.run_model.specs.Confined.{MayAnswer, CallIsConfined, WakeIsConfined, OnlyClockChanges, ActIsConfined, EntryIsConfined, IsConfined}
use Rattle.run_model.specs.Legal.{FitsAct, Fits, Legal}
use Rattle.run_model.specs.World.{World, Guest, guest_of, registers_of, called_state, woken_state, turned_guest_by, turned, acted, who_of, world}
use Rattle.run_model.proofs.Encoded.{args_not_denied}
use Rattle.run_model.proofs.EncodedBadf.{args_not_badf}
use Rattle.run_model.proofs.Histories.{apply_is, legal_front, legal_next}
use Rattle.run_model.proofs.Words.{word_may_wait}
use Rattle.run_model.proofs.Worlds.{world_is_valid}

call_answers : (constants : Constants) (S : State) (who : Who) (call : Call) (given : Answer) (T U : State) → IsStep constants S who call given T
    → HasSameSight S U who call → MayAnswer constants U who call given
call_answers constants S who call given T U (inl done) same =
    (step_state constants U who call, inl (done.0 ∙ ap (λ (o : Outcome). o.answer) (sight_decides constants S U who call same), refl))
call_answers constants S who call given T U (inr lacking) same = (
  failed U who,
  inr (
    (lacking.0.0, subst (λ (o : Outcome). IsSuccess o.answer) (sight_decides constants S U who call same) lacking.0.1),
    lacking.1,
    refl,
  ),
)

-- the answer of a call that takes memory is none of lack of memory
answer_is_other : (constants : Constants) (S : State) (who : Who) (call : Call) (given : Answer) → takes_memory call ≡ true
    → given ≡ step_answer constants S who call → given ≡ answer.Reply (refused Nomem) → ⊥
answer_is_other constants S who call given takes done lacking =
    reply_no_lack constants S who call (refused Nomem) ((proper call).lacks takes) (sym done ∙ lacking) refl

call_leaves : (constants : Constants) (S : State) (who : Who) (call : Call) (given : Answer) (T U V : State) → IsStep constants S who call given T
    → HasSameSight S U who call → EndsAlike (unreleased constants S who call) (unreleased constants U who call) (sight S who call)
    → IsStep constants U who call given V → AgreeOn T V (sight S who call)
call_leaves constants S who call given T U V (inl done) same ends (inl again) =
    subst (λ X. AgreeOn X V (sight S who call)) (sym done.1)
    (subst (λ X. AgreeOn (step_state constants S who call) X (sight S who call)) (sym again.1) ((step_decided constants S U who call same).1 ends))
call_leaves constants S who call given T U V (inl done) same ends (inr lacking) =
    absurd (answer_is_other constants S who call given lacking.0.0 done.0 lacking.1)
call_leaves constants S who call given T U V (inr lacking) same ends (inl again) =
    absurd (answer_is_other constants U who call given lacking.0.0 again.0 lacking.1)
call_leaves constants S who call given T U V (inr lacking) same ends (inr more) =
    subst (λ X. AgreeOn X V (sight S who call)) (sym lacking.2)
    (subst (λ X. AgreeOn (tick S) X (sight S who call)) (sym more.2) (ticks_alike S U (sight S who call) same.1))

-- BADF comes only of a descriptor that is absent, where the call hadn't it before
call_absent : (constants : Constants) (S : State) (who : Who) (call : Call) (reply : Reply) (T : State) → IsValid S → ¬ IsBadfBefore call
    → IsStep constants S who call (answer.Reply reply) T → reply.errno ≡ Badf → IsAbsentIn S who call
call_absent constants S who call reply T valid fine step badf =
    elim (badf_is_absent constants S who call reply T valid step badf) [
      | inl absent ↦ absent
      | inr before ↦ absurd (fine before)
    ]

-- a step is confined
pub call_confined : (constants : Constants) (S : State) (who : Who) (call : Call) (given : Answer) (T : State) → IsValid S → IsNotDeniedEarly call
    → ¬ IsBadfBefore call → IsStep constants S who call given T → CallIsConfined constants S who call given T
call_confined constants S who call given T valid plain fine step = record {
  answers = λ U same. call_answers constants S who call given T U step same;
  sets = λ U same. sight_decides constants S U who call same;
  leaves = λ U V same ends again. call_leaves constants S who call given T U V step same ends again;
  changes = λ part outside. touches.others_stay constants S who call given T part step outside;
  lacking = λ table row d own all first. lack_is_denied constants S who call given T table row d step own all first;
  only = λ reply denial is denies. step_denial constants S who call given T reply denial step is denies;
  leaving = λ component leads. leaving_is_denied constants S who call given T component step leads;
  reported = λ reply is lacks. step_reported constants S who call given T reply plain step is lacks;
  absent = λ reply is badf. call_absent constants S who call reply T valid fine (subst (λ a. IsStep constants S who call a T) is step) badf;
  listed = λ reply is. replies_are_listed constants S who call reply T (subst (λ a. IsStep constants S who call a T) is step);
  error = λ reply is other. error_keeps constants S who call reply T (subst (λ a. IsStep constants S who call a T) is step) valid other;
  waits = λ writes is. (parking_is_allowed constants S who call writes T (subst (λ a. IsStep constants S who call a T) is step)).0;
  parks = λ writes is awake.
      parking_keeps.alone constants S who call writes T (subst (λ a. IsStep constants S who call a T) is step) valid
      (subst (λ a. begins_to_sleep a ≡ false) is awake);
  sleeps = λ condvar lock is. parking_keeps.asleep constants S who call condvar lock T (subst (λ a. IsStep constants S who call a T) is step) valid;
}

-- a wake of a thread that waits in a call in which it may is confined
woken_ends : (constants : Constants) (S : State) (who : Who) (call : Call) (given : WakeIn) (answered : Answer) (T : State)
    → IsWake constants S who call given answered T → is_parked answered ≡ true → may_queue call who.stage ≡ true
woken_ends constants S who call (wake.Plain word) answered T is parked = is.1 parked
woken_ends constants S who call wake.Fault answered T is parked = absurd (not_true (sym (ap is_parked is.0) ∙ parked))

woken_step : (constants : Constants) (S : State) (who : Who) (call : Call) (given : WakeIn) (answered : Answer) (T : State) (word : ℕ)
    → IsWake constants S who call given answered T → given ≡ wake.Plain word → IsStep constants (resumed S who) who (with_word word call) answered T
woken_step constants S who call given answered T word is plain = (subst (λ g. IsWake constants S who call g answered T) plain is).0

pub wake_confined : (constants : Constants) (S : State) (who : Who) (call : Call) (given : WakeIn) (answered : Answer) (T : State) → IsValid S
    → may_wait call ≡ true → IsWake constants S who call given answered T → WakeIsConfined constants S who call given answered T
wake_confined constants S who call given answered T valid may is =
    record {
      resumes = resumed_runs S who;
      done = λ word given_is.
          let plain = waited_is_plain (with_word word call) (word_may_wait word call ∙ may) in
          call_confined constants (resumed S who) who (with_word word call) answered T (resumed_valid S who valid) plain.0 plain.1
          (woken_step constants S who call given answered T word is given_is);
      faults = λ given_is. subst (λ g. IsWake constants S who call g answered T) given_is is;
      ends = woken_ends constants S who call given answered T is;
    }

-- an idle jump changes the clock alone
idle_changes_clock : (S : State) → OnlyClockChanges S (idle_state S)
idle_changes_clock S at_clock h = absurd (not_true (sym h))
idle_changes_clock S (at_proc p) h = (refl, refl)
idle_changes_clock S part h = refl

act_confined : (w : World) (who : Who) (guest : Guest) (ts : List ℕ) (a : Act) → IsValid w.state → FitsAct w.constants w.state who guest ts a
    → ActIsConfined w.constants w.state who a (acted w who a).state
act_confined w who guest ts (act.Call call given) valid fits =
    let after : Guest = turned_guest_by ts guest in
    call_confined w.constants w.state who call given (called_state w.constants w.state who call given) valid
    (subst IsNotDeniedEarly (sym fits.0.1) (args_not_denied after.memory (registers_of after who.tid) after.left))
    (subst (λ (c : Call). ¬ IsBadfBefore c) (sym fits.0.1) (args_not_badf after.memory (registers_of after who.tid) after.left))
    fits.1
act_confined w who guest ts (act.Wake call given answered) valid fits =
    wake_confined w.constants w.state who call given answered (woken_state w.constants w.state who call given answered) valid
    (subst MayWait fits.0.1.3 (valid.nearly.waits who.pid who.tid)).0 fits.1.1
act_confined w who guest ts (act.Trap signal) valid fits = touches.end_keeps w.state who.pid (Killed signal)
act_confined w who guest ts act.Expire valid fits = touches.end_keeps w.state who.pid (Killed Xcpu)
act_confined w who guest ts act.Idle valid fits = (idle_changes_clock w.state, idle_jumps w.state)

-- an entry that fits a valid world is confined
pub entry_confined : (w : World) (e : Entry) → IsValid w.state → Fits w e → EntryIsConfined w e
entry_confined w e valid fits =
    subst (λ (v : World). ActIsConfined w.constants w.state (who_of w.state e) e.act v.state) (sym (apply_is w e))
    (act_confined (turned w e.pid e.turns) (who_of w.state e) (guest_of w e.pid) e.turns e.act valid fits.act)

legal_entry : (launch : Launch) (front : List Entry) (e : Entry) (rest : List Entry) → MayBegin launch.tree launch.grants → Legal launch (front ++ e ∷ rest)
    → EntryIsConfined (world launch front) e
legal_entry launch front e rest grants legal =
    entry_confined (world launch front) e (world_is_valid launch front grants (legal_front launch front (e ∷ rest) legal)) (legal_next launch front e rest legal)

pub legal_is_confined : (launch : Launch) (history : List Entry) → Legal launch history → MayBegin launch.tree launch.grants → IsConfined launch history
legal_is_confined launch history legal grants front e rest splits = legal_entry launch front e rest grants (subst (Legal launch) splits legal)
