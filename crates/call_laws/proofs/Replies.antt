-- What a call answers whose process has a table.
--     answer_of      what it does where it isn't refused
--     reply_by      what holds of each success of what it does holds of each success of a step
--     comes_by      what holds of what it does and of the state after it holds of a step
use Rattle.std.proofs.Common.{◌≡◌, Option, Some, None, IsSome, inl, inr, refl, sym, ap, subst, ◌∙◌}
use Rattle.std.specs.FinMap.{get}
use Rattle.abi_base.specs.declared.errno.Errno.TheVariants.{Nomem, Success}
use Rattle.abi_types.specs.declared.call.Call.{Call}
use Rattle.abi_types.specs.declared.constants.Constants.{Constants}
use Rattle.abi_types.specs.declared.reply.Answer.TheVariants as answer
use Rattle.abi_types.specs.declared.reply.Reply.{Reply}
use Rattle.abi_types.specs.declared.who.Who.{Who}
use Rattle.kernel_model.specs.Calls.{meaning_of, refusal}
use Rattle.kernel_model.specs.Outcome.{Outcome}
use Rattle.kernel_model.specs.OwnChanges.{is_success}
use Rattle.kernel_model.specs.State.{State, Table}
use Rattle.kernel_model.specs.Step.{step_answer, tick, unless, IsStep}
use Rattle.kernel_model.specs.View.{whole}
use Rattle.kernel_model.proofs.Outcomes.{outcome_by_cases, outcome_of_table}
use Rattle.kernel_model.proofs.Refusals.{same_reply}
use Rattle.kernel_model.proofs.Tests.{not_true}
use Rattle.kernel_model.proofs.ThreadLaws.{Comes, fails}
use Rattle.kernel_model.proofs.Threads.{refusal_of_fails}

pub the_table : {X : Type 0} (o : Option X) → IsSome o → (x : X) × (o ≡ Some x)
the_table None there = absurd (not_true there)
the_table (Some x) there = (x, refl)

pub answer_of : (constants : Constants) (S : State) (who : Who) (call : Call) (table : Table) → get S.tables who.pid ≡ Some table → refusal table call ≡ None
    → step_answer constants S who call ≡ ((meaning_of call).effect constants (whole (tick S)) who table).answer
answer_of constants S who call table own allowed =
    ap (λ (o : Outcome). o.answer) (outcome_of_table constants S who call table own)
    ∙ ap (λ r. (unless r ((meaning_of call).effect constants (whole (tick S)) who table)).answer) allowed

-- this holds of the reply where the outcome is a success
abbrev pub WhereDone : (Reply → Type 0) → Outcome → Type 0
WhereDone P o = (reply : Reply) → answer.Reply reply ≡ o.answer → reply.errno ≡ Success → P reply

module _ (P : Reply → Type 0) (constants : Constants) (S : State) (who : Who) (call : Call) (table : Table) (own : get S.tables who.pid ≡ Some table)
    (comes : refusal table call ≡ None → WhereDone P ((meaning_of call).effect constants (whole (tick S)) who table)) where
  unless_done : (r : Option Reply) → refusal table call ≡ r → WhereDone P (unless r ((meaning_of call).effect constants (whole (tick S)) who table))
  unless_done None is reply e done = comes is reply e done
  unless_done (Some reason) is reply e done =
      absurd (not_true (sym (refusal_of_fails call (Some table) reason is) ∙ ap (λ (r : Reply). is_success r.errno) (sym (same_reply reply reason e)) ∙ ap is_success done))

  pub reply_by : (reply : Reply) (T : State) → IsStep constants S who call (answer.Reply reply) T → reply.errno ≡ Success → P reply
  reply_by reply T (inl step) done =
      unless_done (refusal table call) refl reply (step.0 ∙ ap (λ (o : Outcome). o.answer) (outcome_of_table constants S who call table own)) done
  reply_by reply T (inr lacking) done = fails Nomem reply refl lacking.1 done

-- what each outcome comes to that is a success, where the call isn't refused, each step with one does
pub comes_by : (P : Reply → State → Type 0) (constants : Constants) (S : State) (who : Who) (call : Call) (reply : Reply) (T : State)
    → ((table : Table) → get S.tables who.pid ≡ Some table → Comes P constants S who call ((meaning_of call).effect constants (whole (tick S)) who table))
    → IsStep constants S who call (answer.Reply reply) T → reply.errno ≡ Success → P reply T
comes_by P constants S who call reply T comes (inl step) done =
    subst (P reply) (sym step.1)
    (outcome_by_cases (Comes P constants S who call) constants S who call
    (λ reason refuses given is success. absurd (not_true (sym (refusal_of_fails call (get S.tables who.pid) reason refuses)
    ∙ ap (λ (r : Reply). is_success r.errno) (sym (same_reply given reason is)) ∙ ap is_success success)))
    (λ table own _. comes table own) reply step.0 done)
comes_by P constants S who call reply T comes (inr lacking) done = fails Nomem reply refl lacking.1 done
