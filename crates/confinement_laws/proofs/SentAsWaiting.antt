-- What waits in a channel is what was sent.
--     waits_as_sent      each descriptor, in its place
use Rattle.std.proofs.Common.{inl, inr, List, sym, ap, ◌∙◌}
use Rattle.std.specs.Prelude.{slice_get}
use Rattle.tree_model.specs.Grants.{MayBegin}
use Rattle.run_types.specs.declared.history.Entry.{Entry}
use Rattle.run_types.specs.declared.launch.Launch.{Launch}
use Rattle.kernel_model.proofs.Tests.{none_is_no}
use Rattle.run_model.specs.Legal.{Legal}
use Rattle.authority_laws.specs.Deliveries.{IsSend}
use Rattle.authority_laws.proofs.Sends.{all_listed, send_at}
use Rattle.confinement_laws.specs.Headline.{WaitsAsSent}

pub waits_as_sent : (launch : Launch) (front : List Entry) → MayBegin launch.tree launch.grants → Legal launch front → WaitsAsSent launch front
waits_as_sent launch front begins legal c k i channel send d there here place =
    elim (send_at (IsSend launch front c) channel.left k channel.waiting send (all_listed launch front begins legal c channel there) here) [
      | inl bare ↦ absurd (none_is_no d (ap (λ ds. slice_get ds i) (sym bare) ∙ place))
      | inr sent ↦ (send.carried, sent, place)
    ]
