-- An entry that fits a world fits each world that has the same but for some nodes, of which calls see the same, and leaves it the same again.
--     SeesSame      each call sees the same in both states
--     at_state      the world with another state of the kernel
--     fits_there      the entry fits there
--     apply_kept, apply_guests      and leaves the same
use Rattle.std.proofs.Common.{◌≡◌, inl, inr, ℕ, true, false, List, Option, Some, None, refl, sym, ap, subst, ◌∙◌}
use Rattle.std.specs.FinMap.{get}
use Rattle.abi_base.specs.declared.signal.Signal.TheVariants.{Xcpu}
use Rattle.abi_types.specs.declared.call.Call.{Call}
use Rattle.abi_types.specs.declared.constants.Constants.{Constants}
use Rattle.abi_types.specs.declared.reply.Answer.{Answer}
use Rattle.abi_types.specs.declared.status.Status.TheVariants.{Killed}
use Rattle.abi_types.specs.declared.thread.Thread.{Thread}
use Rattle.abi_types.specs.declared.thread.Thread.TheVariants.{Runnable, Waits}
use Rattle.abi_types.specs.declared.wake.WakeIn.{WakeIn}
use Rattle.abi_types.specs.declared.wake.WakeIn.TheVariants as wake
use Rattle.abi_types.specs.declared.who.Who.{Who}
use Rattle.abi_base.specs.Registers.{Registers}
use Rattle.call_codec.specs.Arguments.{args_of}
use Rattle.run_types.specs.declared.history.Act.{Act}
use Rattle.run_types.specs.declared.history.Act.TheVariants as act
use Rattle.run_types.specs.declared.history.Entry.{Entry}
use Rattle.kernel_model.specs.Calls.{meaning_of}
use Rattle.kernel_model.specs.Deadlines.{least_deadline}
use Rattle.kernel_model.specs.Families.Locks.{with_word}
use Rattle.kernel_model.specs.Laws.{HasSameSight}
use Rattle.kernel_model.specs.Outcome.{Outcome, IsSuccess}
use Rattle.kernel_model.specs.State.{State, at_clock, thread_of, threads_of}
use Rattle.kernel_model.specs.Step.{step_answer, step_state, failed, IsStep}
use Rattle.kernel_model.specs.Valid.{IsValid}
use Rattle.kernel_model.specs.Waits.{may_wait, resumed, MayWait, WaitsIn}
use Rattle.kernel_model.specs.Wakes.{is_ready, is_ready_as, AllParked, IsWake, NoneReady}
use Rattle.kernel_model.proofs.Decisions.{sight_decides}
use Rattle.kernel_model.proofs.Tests.{not_true}
use Rattle.kernel_model.proofs.WakeSights.{ready_decided, resumed_sees_same}
use Rattle.run_model.specs.Confined.{MayAnswer}
use Rattle.run_model.specs.Legal.{IsAnswered, FitsAct, Fits}
use Rattle.run_model.specs.World.{World, Guest, guest_of, registers_of, called_state, woken_state, turned_guest_by, turned, acted, who_of, apply}
use Rattle.run_model.proofs.Asks.{asks_stay}
use Rattle.run_model.proofs.Calls.{called_is, woken_is}
use Rattle.confinement_laws.proofs.AlikeStates.{AgreeKept, bare, bare_alike, called_kept, end_kept, idle_kept, resumed_kept, tick_kept}

-- each call sees the same in both states
abbrev pub SeesSame : State → State → Type 0
SeesSame S U = (who : Who) (call : Call) → HasSameSight S U who call

-- the world with another state of the kernel
abbrev pub at_state : World → State → World
at_state w S = record w { state = S }

-- ---- what both states have the same

who_alike : (S U : State) (e : Entry) → bare S ≡ bare U → who_of S e ≡ who_of U e
who_alike S U e same = λ i. who_of (same i) e

thread_alike : (S U : State) (p t : ℕ) → bare S ≡ bare U → thread_of S p t ≡ thread_of U p t
thread_alike S U p t same = λ i. thread_of (same i) p t

threads_alike : (S U : State) (p : ℕ) → bare S ≡ bare U → threads_of S p ≡ threads_of U p
threads_alike S U p same = λ i. threads_of (same i) p

pub parked_alike : (S U : State) → bare S ≡ bare U → AllParked S → AllParked U
parked_alike S U same all = subst AllParked same all

pub least_alike : (S U : State) → bare S ≡ bare U → least_deadline S ≡ least_deadline U
least_alike S U same = λ i. least_deadline (same i)

-- ---- threads that are ready

ready_by : (constants : Constants) (S U : State) (p t : ℕ) (thread : Option Thread) → SeesSame S U → thread_of S p t ≡ thread → thread_of U p t ≡ thread
    → is_ready constants S p t ≡ is_ready constants U p t
ready_by constants S U p t None sees here there = ap (is_ready_as constants S p t) here ∙ sym (ap (is_ready_as constants U p t) there)
ready_by constants S U p t (Some Runnable) sees here there = ap (is_ready_as constants S p t) here ∙ sym (ap (is_ready_as constants U p t) there)
ready_by constants S U p t (Some (Waits call since until stage)) sees here there =
    let who : Who = record { pid = p; tid = t; since = since; stage = Some stage } in
    ready_decided constants S U who call (until, stage, refl, here) (sees who call)

ready_alike : (constants : Constants) (S U : State) (p t : ℕ) → bare S ≡ bare U → SeesSame S U → is_ready constants S p t ≡ is_ready constants U p t
ready_alike constants S U p t same sees = ready_by constants S U p t (thread_of S p t) sees refl (sym (thread_alike S U p t same))

pub none_ready_alike : (constants : Constants) (S U : State) → bare S ≡ bare U → SeesSame S U → NoneReady constants S → NoneReady constants U
none_ready_alike constants S U same sees none p t = sym (ready_alike constants S U p t same sees) ∙ none p t

-- ---- answers

-- a call that sees the same may be answered the same
call_answers : (constants : Constants) (S U : State) (who : Who) (call : Call) (given : Answer) (T : State) → HasSameSight S U who call
    → IsStep constants S who call given T → MayAnswer constants U who call given
call_answers constants S U who call given T same (inl done) =
    (step_state constants U who call, inl (done.0 ∙ ap (λ (o : Outcome). o.answer) (sight_decides constants S U who call same), refl))
call_answers constants S U who call given T same (inr lacking) = (
  failed U who,
  inr ((lacking.0.0, subst (λ (o : Outcome). IsSuccess o.answer) (sight_decides constants S U who call same) lacking.0.1), lacking.1, refl),
)

-- a call that registers encode leaves what its answer says
leaves_called : (constants : Constants) (U : State) (who : Who) (call : Call) (given : Answer) (guest : Guest) (r : Registers) (left : ℕ)
    → call ≡ args_of guest.memory r left → MayAnswer constants U who call given → IsStep constants U who call given (called_state constants U who call given)
leaves_called constants U who call given guest r left is may =
    subst (λ c. IsStep constants U who c given (called_state constants U who c given)) (sym is)
    (let step : IsStep constants U who (args_of guest.memory r left) given may.0 = subst (λ c. IsStep constants U who c given may.0) is may.1 in
    subst (IsStep constants U who (args_of guest.memory r left) given) (called_is guest.memory r left constants U who given may.0 step) step)

module _ (constants : Constants) (S U : State) (sees : SeesSame S U) where
  wake_sees : (who : Who) (call : Call) → HasSameSight (resumed S who) (resumed U who) who call
  wake_sees who call = resumed_sees_same S U who call (sees who call)

  -- so does a wake
  wakes_there : (who : Who) (call : Call) (given : WakeIn) (answered : Answer) (T : State) → IsWake constants S who call given answered T
      → (V : State) × IsWake constants U who call given answered V
  wakes_there who call (wake.Plain word) answered T is =
      let plain : Call = with_word word call in
      elim (meaning_of call).by_stage as (λ b. (meaning_of call).by_stage ≡ b
      → (V : State) × IsWake constants U who call (wake.Plain word) answered V) [
        | true ↦ λ by. (
            let there : answered ≡ step_answer constants (resumed U who) who plain =
            (is.2 by).0 ∙ ap (λ (o : Outcome). o.answer) (sight_decides constants (resumed S who) (resumed U who) who plain (wake_sees who plain)) in
            (step_state constants (resumed U who) who plain, (inl (there, refl), is.1, λ _. (there, refl))))
        | false ↦ λ by. (
            let may = call_answers constants (resumed S who) (resumed U who) who plain answered T (wake_sees who plain) is.0 in
            (may.0, (may.1, is.1, λ other. absurd (not_true (sym by ∙ other)))))
      ] refl
  wakes_there who call wake.Fault answered T is = (failed (resumed U who) who, (is.0, refl))

may_wait_in : (S : State) (who : Who) (call : Call) → IsValid S → WaitsIn S who call → may_wait call ≡ true
may_wait_in S who call valid waits = (subst MayWait waits.3 (valid.nearly.waits who.pid who.tid)).0

-- ---- an act

module _ (v : World) (U : State) (valid : IsValid v.state) (same : bare v.state ≡ bare U) (sees : SeesSame v.state U) where
  answered_there : (who : Who) (guest : Guest) (ts : List ℕ) (a : Act) → FitsAct v.constants v.state who guest ts a → IsAnswered v.constants U who a
  answered_there who guest ts (act.Call call given) fits =
      let turned_guest = turned_guest_by ts guest in
      leaves_called v.constants U who call given turned_guest (registers_of turned_guest who.tid) turned_guest.left fits.0.1
      (call_answers v.constants v.state U who call given (called_state v.constants v.state who call given) (sees who call) fits.1)
  answered_there who guest ts (act.Wake call given answered) fits =
      let woken = wakes_there v.constants v.state U sees who call given answered (woken_state v.constants v.state who call given answered) fits.1.1 in (
        sym (ready_decided v.constants v.state U who call fits.0.1 (sees who call)) ∙ fits.1.0,
        subst (IsWake v.constants U who call given answered)
            (woken_is v.constants U who call given answered woken.0 (may_wait_in v.state who call valid fits.0.1) woken.1) woken.1,
      )
  answered_there who guest ts (act.Trap signal) fits = tt
  answered_there who guest ts act.Expire fits = tt
  answered_there who guest ts act.Idle fits = record {
    all = parked_alike v.state U same fits.1.all;
    none = none_ready_alike v.constants v.state U same sees fits.1.none;
    until = fits.1.until;
    least = sym (least_alike v.state U same) ∙ fits.1.least;
  }

  act_there : (who : Who) (ts : List ℕ) (a : Act) → FitsAct v.constants v.state who (guest_of v who.pid) ts a
      → FitsAct v.constants U who (guest_of v who.pid) ts a
  act_there who ts a fits = (
    asks_stay v (at_state v U) who ts a refl (sym (threads_alike v.state U who.pid same)) fits.0,
    answered_there who (guest_of v who.pid) ts a fits,
  )

-- ---- what an entry leaves

module _ (Within : ℕ → Type 0) where
  woken_kept : (constants : Constants) (S U : State) (who : Who) (call : Call) (given : WakeIn) (answered : Answer) → AgreeKept Within S U → SeesSame S U
      → AgreeKept Within (woken_state constants S who call given answered) (woken_state constants U who call given answered)
  woken_kept constants S U who call wake.Fault answered same sees = tick_kept Within (resumed S who) (resumed U who) (resumed_kept Within S U who same)
  woken_kept constants S U who call (wake.Plain word) answered same sees =
      called_kept Within constants (resumed S who) (resumed U who) who (with_word word call) answered (resumed_kept Within S U who same)
      (sight_decides constants (resumed S who) (resumed U who) who (with_word word call) (wake_sees constants S U sees who (with_word word call)))

  acted_kept : (w : World) (U : State) (who : Who) (a : Act) → AgreeKept Within w.state U → SeesSame w.state U
      → AgreeKept Within (acted w who a).state (acted (at_state w U) who a).state
  acted_kept w U who (act.Call call given) same sees =
      called_kept Within w.constants w.state U who call given same (sight_decides w.constants w.state U who call (sees who call))
  acted_kept w U who (act.Wake call given answered) same sees = woken_kept w.constants w.state U who call given answered same sees
  acted_kept w U who (act.Trap signal) same sees = end_kept Within w.state U who.pid (Killed signal) same
  acted_kept w U who act.Expire same sees = end_kept Within w.state U who.pid (Killed Xcpu) same
  acted_kept w U who act.Idle same sees = idle_kept Within w.state U same

  pub apply_kept : (v : World) (U : State) (e : Entry) → AgreeKept Within v.state U → SeesSame v.state U
      → AgreeKept Within (apply v e).state (apply (at_state v U) e).state
  unfolding apply
  apply_kept v U e same sees =
      let w = turned v e.pid e.turns in
      let who = who_of v.state e in
      subst (λ other. AgreeKept Within (acted w who e.act).state (acted (at_state w U) other e.act).state) (who_alike v.state U e (bare_alike Within v.state U same))
      (acted_kept w U who e.act same sees)

  -- the entry fits there
  pub fits_there : (v : World) (U : State) (e : Entry) → IsValid v.state → AgreeKept Within v.state U → SeesSame v.state U → Fits v e → Fits (at_state v U) e
  fits_there v U e valid same sees fits =
      let all : bare v.state ≡ bare U = bare_alike Within v.state U same in
      record {
        live = λ busy. ap (λ (S : State). get S.statuses e.pid) (sym all) ∙ fits.live busy;
        act = subst (λ who. FitsAct v.constants U who (guest_of v e.pid) e.turns e.act) (who_alike v.state U e all)
            (act_there v U valid all sees (who_of v.state e) e.turns e.act fits.act);
        moment = fits.moment ∙ apply_kept v U e same sees at_clock tt;
      }

-- guests don't hang on the kernel's state
acted_guests : (w : World) (U : State) (who : Who) (a : Act) → (acted w who a).guests ≡ (acted (at_state w U) who a).guests
acted_guests w U who (act.Call call given) = refl
acted_guests w U who (act.Wake call given answered) = refl
acted_guests w U who (act.Trap signal) = refl
acted_guests w U who act.Expire = refl
acted_guests w U who act.Idle = refl

pub apply_guests : (v : World) (U : State) (e : Entry) → bare v.state ≡ bare U → (apply v e).guests ≡ (apply (at_state v U) e).guests
unfolding apply
apply_guests v U e same =
    let w = turned v e.pid e.turns in
    acted_guests w U (who_of v.state e) e.act ∙ ap (λ who. (acted (at_state w U) who e.act).guests) (who_alike v.state U e same)
