-- Where turns and thread are given and memory doesn't run out, at most one entry may follow.
use Rattle.std.proofs.Common.{◌≡◌, ◌≢◌, inl, inr, ℕ, Option, Some, List, [], ◌∷◌, ◌++◌, refl, sym, ap, subst, ◌∙◌}
use Rattle.std.proofs.lemmas.List.{append_cancel_right}
use Rattle.abi_types.specs.declared.reply.Answer.{Answer}
use Rattle.abi_types.specs.declared.call.Call.{Call}
use Rattle.abi_types.specs.declared.constants.Constants.{Constants}
use Rattle.abi_base.specs.declared.signal.Signal.{Signal}
use Rattle.abi_types.specs.declared.reply.Answer.TheVariants as answer
use Rattle.abi_types.specs.declared.thread.Stage.{Stage}
use Rattle.abi_types.specs.declared.thread.Thread.TheVariants.{Runnable, Waits}
use Rattle.abi_types.specs.declared.wake.WakeIn.{WakeIn}
use Rattle.abi_types.specs.declared.wake.WakeIn.TheVariants as wake
use Rattle.abi_types.specs.declared.who.Who.{Who}
use Rattle.run_types.specs.declared.history.Act.{Act}
use Rattle.run_types.specs.declared.history.Act.TheVariants as act
use Rattle.run_types.specs.declared.history.Entry.{Entry}
use Rattle.kernel_model.specs.Families.Locks.{with_word}
use Rattle.kernel_model.specs.State.{State}
use Rattle.kernel_model.specs.Step.{step_answer, IsStep}
use Rattle.kernel_model.specs.Waits.{resumed, WaitsIn}
use Rattle.kernel_model.specs.Wakes.{woken, IsWake}
use Rattle.kernel_model.proofs.Tests.{not_true}
use Rattle.call_codec.specs.Given.{given_of}
use Rattle.rv_interp.specs.declared.turns.TurnEnd.{TurnEnd}
use Rattle.rv_interp.specs.declared.turns.TurnEnd.TheVariants as turn_end_is
use Rattle.run_model.specs.Laws.{LacksNothing}
use Rattle.run_model.specs.Legal.{AreWhole, IsRunnable, LastEnds, FitsAct, Fits}
use Rattle.run_model.specs.World.{World, Guest, guest_of, registers_of, called_state, woken_state, thread_at, turn_end, turned_guest, turned_guest_by, turned, acted, who_of, apply}
use Rattle.run_model.proofs.Histories.{apply_is}

-- ---- how turns end

-- the last of whole turns is whole
last_whole : (S : State) (p : ℕ) (guest : Guest) (front : List ℕ) (t : ℕ) → AreWhole S p guest (front ++ t ∷ [])
    → turn_end (turned_guest_by front guest) t ≡ turn_end_is.Quantum
last_whole S p guest [] t whole = whole.1
last_whole S p guest (first ∷ front) t whole = last_whole S p (turned_guest guest first) front t whole.2

-- the last of turns ends in one way
one_end : (S : State) (p : ℕ) (guest : Guest) (ts : List ℕ) (t : ℕ) (end other : TurnEnd) → LastEnds S p guest ts t end → LastEnds S p guest ts t other
    → end ≡ other
one_end S p guest ts t end other last again =
    let fronts : last.0 ≡ again.0 = append_cancel_right last.0 again.0 (t ∷ []) (sym last.1 ∙ again.1) in
    sym last.4 ∙ ap (λ us. turn_end (turned_guest_by us guest) t) fronts ∙ again.4

-- whole turns end in no other way
whole_end : (S : State) (p : ℕ) (guest : Guest) (ts : List ℕ) (t : ℕ) (end : TurnEnd) → LastEnds S p guest ts t end → AreWhole S p guest ts
    → end ≡ turn_end_is.Quantum
whole_end S p guest ts t end last whole = sym last.4 ∙ last_whole S p guest last.0 t (subst (AreWhole S p guest) last.1 whole)

ecall_is_no_trap : (signal : Signal) → turn_end_is.Ecall ≢ turn_end_is.Trap signal
ecall_is_no_trap signal e = cc

ecall_is_not_whole : turn_end_is.Ecall ≢ turn_end_is.Quantum
ecall_is_not_whole e = cc

trap_is_not_whole : (signal : Signal) → turn_end_is.Trap signal ≢ turn_end_is.Quantum
trap_is_not_whole signal e = cc

same_signal : (signal other : Signal) → turn_end_is.Trap signal ≡ turn_end_is.Trap other → signal ≡ other
same_signal signal other e = cc

-- ---- acts

-- where memory doesn't run out, the answer is the call's
answer_is : (constants : Constants) (S : State) (who : Who) (call : Call) (given : Answer) (T : State) → IsStep constants S who call given T
    → LacksNothing (act.Call call given) → given ≡ step_answer constants S who call
answer_is constants S who call given T (inl done) plenty = done.0
answer_is constants S who call given T (inr lacking) plenty = absurd (subst (λ a. LacksNothing (act.Call call a)) lacking.1 plenty refl)

-- and so it is with wakes
lacks_alike : (call : Call) (given : WakeIn) (answered : Answer) → LacksNothing (act.Wake call given answered)
    → LacksNothing (act.Call (woken call given) answered)
lacks_alike call given (answer.Parked writes) plenty = plenty
lacks_alike call given (answer.Reply reply) plenty = plenty

wake_is_one : (constants : Constants) (S : State) (who : Who) (call : Call) (given : WakeIn) (one other : Answer) (T U : State)
    → IsWake constants S who call given one T → IsWake constants S who call given other U → LacksNothing (act.Wake call given one)
    → LacksNothing (act.Wake call given other) → one ≡ other
wake_is_one constants S who call (wake.Plain word) one other T U is again plenty more =
    answer_is constants (resumed S who) who (with_word word call) one T is.0 (lacks_alike call (wake.Plain word) one plenty)
    ∙ sym (answer_is constants (resumed S who) who (with_word word call) other U again.0 (lacks_alike call (wake.Plain word) other more))
wake_is_one constants S who call wake.Fault one other T U is again plenty more = is.0 ∙ sym again.0

same_call : (call other : Call) (since : ℕ) (until again : Option ℕ) (stage more : Stage)
    → Some (Waits call since until stage) ≡ Some (Waits other since again more) → call ≡ other
same_call call other since until again stage more e = cc

-- a thread that waits doesn't run
waits_or_runs : (S : State) (who : Who) (call : Call) → WaitsIn S who call → IsRunnable S who.pid who.tid → ⊥
waits_or_runs S who call kept runs = no_waiter call who.since kept.0 kept.1 (sym runs ∙ kept.3) where
  no_waiter : (c : Call) (since : ℕ) (until : Option ℕ) (stage : Stage) → Some Runnable ≡ Some (Waits c since until stage) → ⊥
  no_waiter c since until stage e = cc

-- the same process, thread and turns ask for one act
module _ (constants : Constants) (S : State) (who : Who) (guest : Guest) (ts : List ℕ) where
  -- an act that is neither a wake nor an idle jump is of a thread that runs
  abbrev OfRunning : Act → Type 0
  OfRunning (act.Wake call given answered) = ⊥
  OfRunning act.Idle = ⊥
  OfRunning a = Unit {0}

  running_act : (a : Act) → OfRunning a → FitsAct constants S who guest ts a → IsRunnable S who.pid who.tid
  running_act (act.Call call given) of fits = fits.0.0.3.0
  running_act (act.Wake call given answered) of fits = absurd of
  running_act (act.Trap signal) of fits = fits.0.3.0
  running_act act.Expire of fits = fits.0.1
  running_act act.Idle of fits = absurd of

  not_wake : (a : Act) (call : Call) (given : WakeIn) (answered : Answer) → OfRunning a → FitsAct constants S who guest ts a
      → FitsAct constants S who guest ts (act.Wake call given answered) → ⊥
  not_wake a call given answered of fits woken = waits_or_runs S who call woken.0.1 (running_act a of fits)

  not_idle : (a : Act) → OfRunning a → FitsAct constants S who guest ts a → FitsAct constants S who guest ts act.Idle → ⊥
  not_idle a of fits idle = idle.1.all.1 who.pid who.tid Runnable (running_act a of fits)

  wake_not_idle : (call : Call) (given : WakeIn) (answered : Answer) → FitsAct constants S who guest ts (act.Wake call given answered)
      → FitsAct constants S who guest ts act.Idle → ⊥
  wake_not_idle call given answered fits idle = not_true (sym (idle.1.none who.pid who.tid) ∙ fits.1.0)

  act_is_one : (a b : Act) → FitsAct constants S who guest ts a → FitsAct constants S who guest ts b → LacksNothing a → LacksNothing b → a ≡ b
  act_is_one (act.Call call given) (act.Call other answered) fits again plenty more =
      let calls : call ≡ other = fits.0.1 ∙ sym again.0.1 in
      let here = answer_is constants S who call given (called_state constants S who call given) fits.1 plenty in
      let there = answer_is constants S who other answered (called_state constants S who other answered) again.1 more in
      let answers : given ≡ answered = here ∙ ap (step_answer constants S who) calls ∙ sym there in
      λ i. act.Call (calls i) (answers i)
  act_is_one (act.Call call given) (act.Trap signal) fits again plenty more =
      absurd (ecall_is_no_trap signal (one_end S who.pid guest ts who.tid turn_end_is.Ecall (turn_end_is.Trap signal) fits.0.0 again.0))
  act_is_one (act.Call call given) act.Expire fits again plenty more =
      absurd (ecall_is_not_whole (whole_end S who.pid guest ts who.tid turn_end_is.Ecall fits.0.0 again.0.0))
  act_is_one (act.Call call given) (act.Wake other word answered) fits again plenty more =
      absurd (not_wake (act.Call call given) other word answered tt fits again)
  act_is_one (act.Call call given) act.Idle fits again plenty more = absurd (not_idle (act.Call call given) tt fits again)
  act_is_one (act.Wake call given one) (act.Wake other word another) fits again plenty more =
      let calls : call ≡ other = same_call call other who.since fits.0.1.0 again.0.1.0 fits.0.1.1 again.0.1.1 (sym fits.0.1.3 ∙ again.0.1.3) in
      let m = (turned_guest_by ts guest).memory in
      let r = registers_of (turned_guest_by ts guest) who.tid in
      let givens : given ≡ word = fits.0.2 ∙ ap (given_of m r) calls ∙ sym again.0.2 in
      let there = subst (λ (x : Call × WakeIn). IsWake constants S who x.0 x.1 another (woken_state constants S who other word another))
      (λ i. (sym calls i, sym givens i)) again.1.1 in
      let more_there = subst (λ (x : Call × WakeIn). LacksNothing (act.Wake x.0 x.1 another)) (λ i. (sym calls i, sym givens i)) more in
      let answers = wake_is_one constants S who call given one another _ _ fits.1.1 there plenty more_there in
      λ i. act.Wake (calls i) (givens i) (answers i)
  act_is_one (act.Wake call given one) (act.Call other answered) fits again plenty more =
      absurd (not_wake (act.Call other answered) call given one tt again fits)
  act_is_one (act.Wake call given one) (act.Trap signal) fits again plenty more = absurd (not_wake (act.Trap signal) call given one tt again fits)
  act_is_one (act.Wake call given one) act.Expire fits again plenty more = absurd (not_wake act.Expire call given one tt again fits)
  act_is_one (act.Wake call given one) act.Idle fits again plenty more = absurd (wake_not_idle call given one fits again)
  act_is_one (act.Trap signal) (act.Call call given) fits again plenty more =
      absurd (ecall_is_no_trap signal (one_end S who.pid guest ts who.tid turn_end_is.Ecall (turn_end_is.Trap signal) again.0.0 fits.0))
  act_is_one (act.Trap signal) (act.Wake call given one) fits again plenty more = absurd (not_wake (act.Trap signal) call given one tt fits again)
  act_is_one (act.Trap signal) (act.Trap other) fits again plenty more =
      ap act.Trap (same_signal signal other (one_end S who.pid guest ts who.tid (turn_end_is.Trap signal) (turn_end_is.Trap other) fits.0 again.0))
  act_is_one (act.Trap signal) act.Expire fits again plenty more =
      absurd (trap_is_not_whole signal (whole_end S who.pid guest ts who.tid (turn_end_is.Trap signal) fits.0 again.0.0))
  act_is_one (act.Trap signal) act.Idle fits again plenty more = absurd (not_idle (act.Trap signal) tt fits again)
  act_is_one act.Expire (act.Call call given) fits again plenty more =
      absurd (ecall_is_not_whole (whole_end S who.pid guest ts who.tid turn_end_is.Ecall again.0.0 fits.0.0))
  act_is_one act.Expire (act.Wake call given one) fits again plenty more = absurd (not_wake act.Expire call given one tt fits again)
  act_is_one act.Expire (act.Trap signal) fits again plenty more =
      absurd (trap_is_not_whole signal (whole_end S who.pid guest ts who.tid (turn_end_is.Trap signal) again.0 fits.0.0))
  act_is_one act.Expire act.Expire fits again plenty more = refl
  act_is_one act.Expire act.Idle fits again plenty more = absurd (not_idle act.Expire tt fits again)
  act_is_one act.Idle (act.Wake call given one) fits again plenty more = absurd (wake_not_idle call given one again fits)
  act_is_one act.Idle act.Idle fits again plenty more = refl
  act_is_one act.Idle (act.Call call given) fits again plenty more = absurd (not_idle (act.Call call given) tt again fits)
  act_is_one act.Idle (act.Trap signal) fits again plenty more = absurd (not_idle (act.Trap signal) tt again fits)
  act_is_one act.Idle act.Expire fits again plenty more = absurd (not_idle act.Expire tt again fits)

-- ---- entries

-- the act fits also where the same process, thread and turns are named by another entry
moved : (w : World) (e f : Entry) → e.pid ≡ f.pid → e.tid ≡ f.tid → e.turns ≡ f.turns
    → FitsAct w.constants w.state (who_of w.state f) (guest_of w f.pid) f.turns f.act → FitsAct w.constants w.state (who_of w.state e) (guest_of w e.pid) e.turns f.act
moved w e f pid tid turns fits =
    subst (λ p. FitsAct w.constants w.state (thread_at w.state p e.tid) (guest_of w p) e.turns f.act) (sym pid)
    (subst (λ t. FitsAct w.constants w.state (thread_at w.state f.pid t) (guest_of w f.pid) e.turns f.act) (sym tid)
    (subst (λ ts. FitsAct w.constants w.state (who_of w.state f) (guest_of w f.pid) ts f.act) (sym turns) fits))

pub entry_is_one : (w : World) (e f : Entry) → Fits w e → Fits w f → e.pid ≡ f.pid → e.tid ≡ f.tid → e.turns ≡ f.turns
    → LacksNothing e.act → LacksNothing f.act → e ≡ f
entry_is_one w e f fits again pid tid turns plenty more =
    let acts : e.act ≡ f.act =
    act_is_one w.constants w.state (who_of w.state e) (guest_of w e.pid) e.turns e.act f.act fits.act (moved w e f pid tid turns again.act) plenty more in
    let same : acted (turned w e.pid e.turns) (who_of w.state e) e.act ≡ acted (turned w f.pid f.turns) (who_of w.state f) f.act =
    λ i. acted (turned w (pid i) (turns i)) (thread_at w.state (pid i) (tid i)) (acts i) in
    let after : apply w e ≡ apply w f = apply_is w e ∙ same ∙ sym (apply_is w f) in
    let moment : e.moment ≡ f.moment = fits.moment ∙ ap (λ (v : World). v.state.clock) after ∙ sym again.moment in
    λ i. record { moment = moment i; pid = pid i; tid = tid i; turns = turns i; act = acts i }
