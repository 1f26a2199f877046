use Rattle.std.proofs.Common.{◌≡◌, true, false, [], List, Option, Some, sym, ap, ◌∙◌}
use Rattle.abi_structures.specs.declared.events.What.{What}
use Rattle.abi_structures.specs.declared.events.What.TheVariants.{Condvar, LockRdlock, LockWrlock}
use Rattle.abi_types.specs.declared.reply.Answer.{Answer}
use Rattle.abi_types.specs.declared.thread.Stage.{Stage}
use Rattle.kernel_model.specs.Families.LockCalls.{condition_outcome, lock_outcome, waited_outcome}
use Rattle.kernel_model.specs.Outcome.{Outcome}
use Rattle.kernel_model.specs.State.{ProcessState, Update}
use Rattle.kernel_parts.specs.OwnCalls.{own_after, IsOwnStep}
use Rattle.kernel_parts.proofs.LockAnswers.{lock_sets, wake_sets}
use Rattle.kernel_parts.proofs.process.ProcessState.lock_poll.Goals as goal

-- a call that sets nothing
only_answers : (own : ProcessState) (given : Answer) (o : Outcome) → given ≡ o.answer → o.updates ≡ [] → IsOwnStep own own given o
only_answers own given o is none = (is, sym (ap (λ (us : List Update). own_after us own) none))

pub returns-in-LockRdlock-clause-step : goal.returns-in-LockRdlock-clause-step
returns-in-LockRdlock-clause-step c = λ p.
    let who = c.args.who.now in
    let first = c.args.first.now in
    let own = Some c.args.self.now in
    let asked : What → Outcome = λ w. lock_outcome first.userdata w true who.tid c.in-LockRdlock.lock c.in-LockRdlock.word who.stage own in
    let outcome : What → Outcome = λ w. waited_outcome first.userdata w p who.tid who.stage own in
    only_answers c.args.self.now _ (outcome first.what)
    (c.lock_answer.ensures ∙ ap (λ w. (asked w).answer) c.in-LockRdlock.is ∙ sym (ap (λ w. (outcome w).answer) c.in-LockRdlock.is))
    (ap (λ w. (outcome w).updates) c.in-LockRdlock.is ∙ lock_sets first.userdata (LockRdlock c.in-LockRdlock.lock c.in-LockRdlock.word c.in-LockRdlock.scope) true who.tid c.in-LockRdlock.lock c.in-LockRdlock.word who.stage own)

pub returns-in-LockWrlock-clause-step : goal.returns-in-LockWrlock-clause-step
returns-in-LockWrlock-clause-step c = λ p.
    let who = c.args.who.now in
    let first = c.args.first.now in
    let own = Some c.args.self.now in
    let asked : What → Outcome = λ w. lock_outcome first.userdata w false who.tid c.in-LockWrlock.lock c.in-LockWrlock.word who.stage own in
    let outcome : What → Outcome = λ w. waited_outcome first.userdata w p who.tid who.stage own in
    only_answers c.args.self.now _ (outcome first.what)
    (c.lock_answer-in-LockWrlock.ensures ∙ ap (λ w. (asked w).answer) c.in-LockWrlock.is ∙ sym (ap (λ w. (outcome w).answer) c.in-LockWrlock.is))
    (ap (λ w. (outcome w).updates) c.in-LockWrlock.is ∙ lock_sets first.userdata (LockWrlock c.in-LockWrlock.lock c.in-LockWrlock.word c.in-LockWrlock.scope) false who.tid c.in-LockWrlock.lock c.in-LockWrlock.word who.stage own)

pub returns-in-Some-clause-step : goal.returns-in-Some-clause-step
returns-in-Some-clause-step c = λ p.
    let who = c.args.who.now in
    let first = c.args.first.now in
    let own = Some c.args.self.now in
    let condvar = c.in-Condvar.condvar in
    let woken : What → Outcome = λ w. condition_outcome first.userdata w p who.tid condvar c.in-Condvar.lock c.in-Condvar.lock_word (Some c.in-Some.stage) own in
    let outcome : What → Option Stage → Outcome = λ w stage. waited_outcome first.userdata w p who.tid stage own in
    only_answers c.args.self.now _ (outcome first.what who.stage)
    (c.wake_answer.ensures p condvar ∙ ap (λ w. (woken w).answer) c.in-Condvar.is ∙ sym (λ i. (outcome (c.in-Condvar.is i) (c.in-Some.is i)).answer))
    ((λ i. (outcome (c.in-Condvar.is i) (c.in-Some.is i)).updates)
    ∙ wake_sets first.userdata (Condvar condvar c.in-Condvar.condvar_word c.in-Condvar.lock c.in-Condvar.lock_word c.in-Condvar.condvar_scope c.in-Condvar.lock_scope) p who.tid condvar c.in-Condvar.lock c.in-Condvar.lock_word c.in-Some.stage own)
