use Rattle.std.proofs.Common.{◌≡◌, ℕ, true, Some, is_some, sym, ap, refl, subst, ◌∙◌, ◌+◌, arith}
use Rattle.abi_base.specs.declared.errno.Errno.TheVariants.{Fault}
use Rattle.abi_types.specs.declared.call.Call.{Call}
use Rattle.abi_types.specs.declared.constants.Constants.{Constants}
use Rattle.abi_types.specs.declared.reply.Answer.{Answer}
use Rattle.abi_types.specs.declared.reply.Answer.TheVariants as answer
use Rattle.abi_types.specs.declared.thread.Stage.{Stage}
use Rattle.abi_types.specs.declared.thread.Thread.TheVariants.{Runnable}
use Rattle.abi_types.specs.declared.wake.WakeIn.{WakeIn}
use Rattle.abi_types.specs.declared.who.Who.{Who}
use Rattle.kernel_model.specs.Calls.{meaning_of}
use Rattle.kernel_model.specs.Families.Locks.{with_word}
use Rattle.kernel_model.specs.Outcome.{is_parked}
use Rattle.kernel_model.specs.Reply.{refused}
use Rattle.kernel_model.specs.State.{State, thread_of}
use Rattle.kernel_model.specs.Step.{step_answer, tick, IsStep}
use Rattle.kernel_model.specs.Waits.{with_thread, WaitsIn}
use Rattle.kernel_model.specs.Wakes.{IsWake, LacksNoMemory}
use Rattle.kernel_model.proofs.Steps.{step_keeps_valid}
use Rattle.kernel_model.proofs.Waking.{resumed_runs, wake_ends_wait, wake_others_stay}
use Rattle.kernel_invariant.specs.Waiting.{waiter}
use Rattle.kernel_core.specs.contracts.kernel.Kernel.{the_view}
use Rattle.kernel_core.proofs.Asking.{queues_ahead, same_stage}
use Rattle.kernel_invariant.proofs.Parks.{same_kept, waits_in_kept}
use Rattle.kernel_core.proofs.Steps.{step_refused}
use Rattle.kernel_invariant.proofs.HeldTimes.{all_held_at}
use Rattle.kernel_core.proofs.kernel.Kernel.wake.Goals as goal
use Rattle.kernel_core.proofs.kernel.Kernel.wake.Goals.{After-go_on-answer}

-- ---- the call can't be done any more

pub returns-in-Some-clause-others : goal.returns-in-Some-clause-others
returns-in-Some-clause-others c = λ since stage call q waits untouched.
    let constants = c.args.constants.now in
    let S = c.args.self.now in
    let one = waiter c.args.pid c.args.tid since stage in
    let T : State = tick (the_view c.self.inside) in
    wake_others_stay constants S one call c.args.given (answer.Reply (refused Fault)) T q
    (subst (λ (given : WakeIn). IsWake constants S one call given (answer.Reply (refused Fault)) T) (sym c.in-Fault.is)
    (refl, ap tick (c.self.view_is ∙ c.resume.ensures.runs))) untouched

-- ---- the call is done

-- it is a step, and of a wait for a lock it lacks no memory
abbrev IsGoing : Constants → State → Who → Call → Answer → State → Type 0
IsGoing constants S who call answered T =
    IsStep constants S who call answered T × ((meaning_of call).by_stage ≡ true → LacksNoMemory constants S who call answered T)

pub go_on-answer-requires-clause-runnable : goal.go_on-answer-requires-clause-runnable
go_on-answer-requires-clause-runnable c =
    let who = waiter c.args.pid c.args.tid c.in-Some-resume.since c.in-Some-resume.stage in
    let waits = waits_in_kept c.args.self.now who c.in-Some-resume.call c.in-Some-resume.stage (sym c.in-Some-resume.ensures.kept) refl in
    ap (λ (S : State). thread_of S c.args.pid c.args.tid) c.resume-in-Plain.ensures.runs ∙ (resumed_runs c.args.self.now who).runs (ap is_some waits.3)

-- where the thread waits on it does in the copy that was made ahead
pub go_on-answer-requires-clause-ahead : goal.go_on-answer-requires-clause-ahead
go_on-answer-requires-clause-ahead c = λ parked.
    let constants = c.args.constants.now in
    let S = c.args.self.now in
    let word = c.in-Plain.word in
    let call = c.in-Some-resume.call in
    let who = waiter c.args.pid c.args.tid c.in-Some-resume.since c.in-Some-resume.stage in
    let waits = waits_in_kept S who call c.in-Some-resume.stage (sym c.in-Some-resume.ensures.kept) refl in
    let is : c.set_word-old.new.call ≡ with_word word call = c.set_word-old.ensures.word in
    let woken : is_parked (step_answer constants (with_thread S c.args.pid c.args.tid Runnable) who (with_word word call)) ≡ true =
    subst (λ (it : Call). is_parked (step_answer constants (with_thread S c.args.pid c.args.tid Runnable) who it) ≡ true) is
    (subst (λ (T : State). is_parked (step_answer constants T who c.set_word-old.new.call) ≡ true) c.resume-in-Plain.ensures.runs parked) in
    c.in-Ok.ensures.ok
    ∙ queues_ahead constants S who call word waits (sym c.goes_on_now.ensures ∙ c.if-not-goes_on_now.false) woken ∙ ap Some (sym is)

-- it is a step of the call with the word that its lock has now
woken : (c : After-go_on-answer) (since : ℕ) (stage : Stage) (call : Call) → WaitsIn c.args.self.now (waiter c.args.pid c.args.tid since stage) call
    → IsWake c.args.constants.now c.args.self.now (waiter c.args.pid c.args.tid since stage) call c.args.given c.go_on-answer.result c.go_on-answer.new.self
woken c since stage call waits =
    let constants = c.args.constants.now in
    let S = c.args.self.now in
    let R = with_thread S c.args.pid c.args.tid Runnable in
    let one = waiter c.args.pid c.args.tid since stage in
    let kept = waiter c.args.pid c.args.tid c.in-Some-resume.since c.in-Some-resume.stage in
    let answered = c.go_on-answer.result in
    let after = c.go_on-answer.new.self in
    let word = c.in-Plain.word in
    let done = c.set_word-old.new.call in
    let same = same_kept S c.args.pid c.args.tid c.in-Some-resume.since since c.in-Some-resume.stage stage call c.in-Some-resume.call c.in-Some-resume.ensures.kept waits in
    let is : done ≡ with_word word call = c.set_word-old.ensures.word ∙ ap (with_word word) same.1 in
    let stepped : IsGoing constants R one (with_word word call) answered after =
    subst (λ (it : Call). IsGoing constants R one it answered after) is (subst (λ (w : Who). IsGoing constants R w done answered after) same.0
    (subst (λ (T : State). IsGoing constants T kept done answered after) c.resume-in-Plain.ensures.runs (c.go_on-answer.ensures.step, c.go_on-answer.ensures.exact))) in
    subst (λ (given : WakeIn). IsWake constants S one call given answered after) (sym c.in-Plain.is) (
      stepped.0,
      wake_ends_wait constants S one call word answered after waits (sym c.goes_on_now.ensures ∙ c.if-not-goes_on_now.false) stepped.0,
      λ stage_counts. stepped.1 (same_stage word call ∙ stage_counts),
    )

pub returns-in-Some-resume-clause-woken : goal.returns-in-Some-resume-clause-woken
returns-in-Some-resume-clause-woken c = λ since stage waits. woken (goal.at.returns-in-Some-resume-clause-woken c).After-go_on-answer since stage c.set_word.new.call waits

pub returns-in-Some-resume-clause-valid : goal.returns-in-Some-resume-clause-valid
returns-in-Some-resume-clause-valid c = step_keeps_valid _ _ _ _ _ _ c.go_on-answer.ensures.step c.go_on-answer.ensures.valid

pub returns-in-Some-resume-clause-others : goal.returns-in-Some-resume-clause-others
returns-in-Some-resume-clause-others c = λ since stage call q waits untouched.
    wake_others_stay c.args.constants.now c.args.self.now (waiter c.args.pid c.args.tid since stage) call c.args.given c.go_on-answer.result c.go_on-answer.new.self q
    (woken (goal.at.returns-in-Some-resume-clause-others c).After-go_on-answer since stage call waits) untouched

pub returns-in-Some-resume-clause-refused : goal.returns-in-Some-resume-clause-refused
returns-in-Some-resume-clause-refused c = λ reply is fails.
    step_refused _ _ _ _ _ _ reply c.go_on-answer.ensures.valid c.go_on-answer.ensures.step is fails ∙ ap tick c.resume-in-Plain.ensures.runs

-- ---- the time

pub invariant_of-self : goal.invariant_of-self
invariant_of-self c =
    all_held_at (the_view c.self.inside) c.self.inside.objects.counts (c.self.inside.clock + 1000) c.self.inside.waits c.touch_time.new.waits c.self.invariant (omega arith)
    c.touch_time.ensures
