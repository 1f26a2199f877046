-- What a call that isn't refused comes to, and the state that it leaves before the release.
use Rattle.std.proofs.Common.{◌≡◌, ◌+◌, Some, None, ap, ◌∙◌}
use Rattle.std.specs.FinMap.{get}
use Rattle.abi_types.specs.declared.call.Call.{Call}
use Rattle.abi_types.specs.declared.constants.Constants.{Constants}
use Rattle.abi_types.specs.declared.who.Who.{Who}
use Rattle.kernel_model.specs.Calls.{meaning_of, refusal}
use Rattle.kernel_model.specs.Outcome.{Outcome}
use Rattle.kernel_model.specs.State.{State, Table, put_all}
use Rattle.kernel_model.specs.Step.{outcome, step_answer, tick, unless, unreleased}
use Rattle.kernel_model.specs.View.{whole}
use Rattle.kernel_model.specs.Waits.{waiting, waits_if}
use Rattle.kernel_model.proofs.Outcomes.{outcome_of_table}

pub outcome_allowed : (constants : Constants) (S : State) (who : Who) (call : Call) (table : Table) → get S.tables who.pid ≡ Some table
    → refusal table call ≡ None → outcome constants S who call ≡ (meaning_of call).effect constants (whole (tick S)) who table
outcome_allowed constants S who call table own allowed =
    outcome_of_table constants S who call table own
    ∙ ap (λ r. unless r ((meaning_of call).effect constants (whole (tick S)) who table)) allowed

module _ (constants : Constants) (S : State) (who : Who) (call : Call) (o : Outcome) (is : outcome constants S who call ≡ o) where
  pub answer_by : step_answer constants S who call ≡ o.answer
  answer_by = ap (λ (x : Outcome). x.answer) is

  pub state_by : unreleased constants S who call ≡ waits_if o.answer who (waiting constants call who (S.clock + 1000)) (put_all o.updates (tick S))
  state_by = ap (λ (x : Outcome). waits_if x.answer who (waiting constants call who (S.clock + 1000)) (put_all x.updates (tick S))) is
