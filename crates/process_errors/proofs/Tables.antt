-- What the proofs of all tables share.
--     answer_is      the answer of a call that isn't refused, by what it does
--     listed      a table with a line for what there is, and with no line for anything else
--     below, same_or      the lesser of two numbers, and whether they are one
use Rattle.std.proofs.Common.{◌≡◌, ◌≢◌, ◌⊎◌, inl, inr, ℕ, ◌<◌, ◌≤◌, sym, ap, subst, ◌∙◌}
use Rattle.std.proofs.lemmas.Bool.Decides.{eqb_tells, leb_tells}
use Rattle.std.specs.Prelude.{◌↔◌}
use Rattle.abi_types.specs.declared.call.Call.{Call}
use Rattle.abi_types.specs.declared.constants.Constants.{Constants}
use Rattle.abi_types.specs.declared.who.Who.{Who}
use Rattle.kernel_model.specs.Calls.{meaning_of}
use Rattle.kernel_model.specs.Outcome.{Outcome}
use Rattle.kernel_model.specs.State.{ProcessState, State, Table}
use Rattle.kernel_model.specs.Step.{step_answer, tick, unless}
use Rattle.kernel_model.specs.View.{whole}
use Rattle.kernel_model.proofs.Outcomes.{outcome_of_table}
use Rattle.process_errors.specs.Verdicts.{IsUnrefused}

pub answer_is : (constants : Constants) (S : State) (who : Who) (call : Call) (table : Table) (own : ProcessState) → IsUnrefused S who call table own
    → step_answer constants S who call ≡ ((meaning_of call).effect constants (whole (tick S)) who table).answer
answer_is constants S who call table own unrefused =
    ap (λ (o : Outcome). o.answer) (outcome_of_table constants S who call table unrefused.had)
    ∙ ap (λ r. (unless r ((meaning_of call).effect constants (whole (tick S)) who table)).answer) unrefused.allowed

pub listed : {X : Type 0} (Line : X → Type 0) (is : X) → ((x : X) → Line x → x ≡ is) → (x : X) × Line x → (x : X) → Line x ↔ (x ≡ is)
listed Line is sound some x = (sound x, λ same. subst Line (sound some.0 some.1 ∙ sym same) some.1)

pub below : (a b : ℕ) → (a < b) ⊎ (b ≤ a)
below a b = elim (leb_tells b a) [ inl more ↦ inr more.1 | inr less ↦ inl less.1 ]

pub same_or : (a b : ℕ) → (a ≡ b) ⊎ (a ≢ b)
same_or a b = elim (eqb_tells a b) [ inl is ↦ inl is.1 | inr other ↦ inr other.1 ]
