use Rattle.std.proofs.Common.{◌≡◌, ℕ, Some, refl, sym, ap, subst, ◌∙◌}
use Rattle.std.specs.FinMap.{get, insert, remove}
use Rattle.abi_types.specs.declared.reply.Answer.TheVariants as answer
use Rattle.abi_types.specs.declared.thread.Thread.TheVariants.{Runnable}
use Rattle.maps.specs.Maps.{remove-inserted}
use Rattle.kernel_model.specs.Families.ProcessCalls.{made_in}
use Rattle.kernel_model.specs.Outcome.{Outcome, IsSuccess}
use Rattle.kernel_model.specs.OwnChanges.{next_thread, with_next_thread}
use Rattle.kernel_model.specs.Reply.{success}
use Rattle.kernel_model.specs.State.{ProcessState, Threads}
use Rattle.guest_locks.specs.Queues.{AreFew}
use Rattle.kernel_parts.specs.OwnCalls.{new_thread, own_after}
use Rattle.kernel_parts.specs.contracts.process.ProcessState.{the_view}
use Rattle.kernel_parts.proofs.FewThreads.{few_new}
use Rattle.kernel_parts.proofs.Done.{own_lacked}
use Rattle.kernel_parts.proofs.OwnCalls.{can_be_given, made_with, not_made}
use Rattle.kernel_parts.specs.Touching as touching
use Rattle.kernel_parts.proofs.process.ProcessState.make_thread.Goals as goal

pub returns-in_default-clause-done : goal.returns-in_default-clause-done
returns-in_default-clause-done c = λ p.
    let own = c.args.self.now in
    let none = not_made p c.args.tid own c.in_default.ensures in (
      ap answer.Reply c.refused.ensures ∙ sym (ap (λ (o : Outcome). o.answer) none),
      sym (ap (λ (o : Outcome). own_after o.updates own) none),
    )

pub returns-clause-done : goal.returns-clause-done
returns-clause-done c = λ p.
    let own = c.args.self.now in
    let V : ProcessState = the_view c.self.inside in
    let made = made_with p c.args.tid c.in-Some.number own c.in-Some.ensures in
    let number : c.in-Some.number ≡ next_thread V = made.1 ∙ ap next_thread (sym c.self.view_is) in
    let threads : c.insert.new.self ≡ insert V.threads (next_thread V) Runnable =
    c.in_ok-insert.ensures.ok ∙ ap (λ (k : ℕ). insert V.threads k Runnable) (c.from-key.ensures ∙ number) in (
      ap answer.Reply (c.success.ensures ∙ ap (λ (k : ℕ). success k 0) (c.from-key.ensures ∙ made.1)) ∙ sym (ap (λ (o : Outcome). o.answer) made.0),
      (λ i. record V { threads = threads i; counts = record V.counts { threads = number i } }) ∙ ap with_next_thread c.self.view_is
          ∙ sym (ap (λ (o : Outcome). own_after o.updates own) made.0),
    )

pub returns-in_err-insert-clause-done : goal.returns-in_err-insert-clause-done
returns-in_err-insert-clause-done c = λ p.
    own_lacked (made_in p c.args.tid (Some c.args.self.now)) c.args.self.now _ c.from_residual.result c.from_residual.ensures.0
    (subst (λ (o : Outcome). IsSuccess o.answer) (sym (made_with p c.args.tid c.in-Some.number c.args.self.now c.in-Some.ensures).0) refl)
    ((λ i. record (the_view c.self.inside) { threads = c.in_err-insert.ensures.err i }) ∙ c.self.view_is)

pub invariant_of-self-2 : goal.invariant_of-self-2
invariant_of-self-2 c =
    let V : ProcessState = the_view c.self.inside in
    let can = can_be_given c.args.tid c.in-Some.number V (c.in-Some.ensures ∙ ap (new_thread c.args.tid) (sym c.self.view_is)) in
    subst AreFew (sym (c.in_ok-insert.ensures.ok ∙ ap (λ (k : ℕ). insert V.threads k Runnable) c.from-key.ensures))
    (few_new V.threads c.in-Some.number Runnable can.0 can.1 can.2 c.self.invariant)

-- ---- the thread goes again where its entry lacks memory

back : (c : goal.Joined-remove) → c.remove.new.self ≡ c.self.inside.threads
back c =
    let V : ProcessState = the_view c.self.inside in
    let can = can_be_given c.args.tid c.in-Some.number V (c.in-Some.ensures ∙ ap (new_thread c.args.tid) (sym c.self.view_is)) in
    c.remove.ensures.new ∙ ap (λ (m : Threads). remove m c.from-key.result) c.in_ok-insert.ensures.ok
    ∙ remove-inserted V.threads c.from-key.result Runnable (ap (get V.threads) c.from-key.ensures ∙ can.0)

pub invariant_of-self-in-Err : goal.invariant_of-self-in-Err
invariant_of-self-in-Err c = subst AreFew (sym (back c)) c.self.invariant

pub returns-in-Err-clause-done : goal.returns-in-Err-clause-done
returns-in-Err-clause-done c = λ p. (
  subst (λ (o : Outcome). IsSuccess o.answer) (sym (made_with p c.args.tid c.in-Some.number c.args.self.now c.in-Some.ensures).0) refl,
  (λ i. record (the_view c.self.inside) { threads = back c i }) ∙ c.self.view_is,
)

-- ---- its entry

pub returns-in-Err-clause-entry : goal.returns-in-Err-clause-entry
returns-in-Err-clause-entry c = touching.not_made (back c ∙ ap (λ (own : ProcessState). own.threads) c.self.view_is) c.in-Err.ensures.err

pub returns-in_err-insert-clause-entry : goal.returns-in_err-insert-clause-entry
returns-in_err-insert-clause-entry c = touching.not_made (c.in_err-insert.ensures.err ∙ ap (λ (own : ProcessState). own.threads) c.self.view_is) refl

pub returns-clause-entry : goal.returns-clause-entry
returns-clause-entry c =
    let can = can_be_given c.args.tid c.in-Some.number c.args.self.now c.in-Some.ensures in
    touching.made c.in-Some.number can.1 can.0
    (c.in_ok-insert.ensures.ok ∙ ap (λ (k : ℕ). insert c.self.inside.threads k Runnable) c.from-key.ensures
    ∙ ap (λ (own : ProcessState). insert own.threads c.in-Some.number Runnable) c.self.view_is) c.in_default-ensure_entry.ensures.ok
