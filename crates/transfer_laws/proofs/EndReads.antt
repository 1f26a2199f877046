-- What an fd_read of an end gives and leaves.
use Rattle.std.proofs.Common.{◌≡◌, ℕ, Option, Some, refl, ap, ◌∙◌}
use Rattle.std.specs.FinMap.{get}
use Rattle.abi_types.specs.declared.call.Call.TheVariants.{FdRead}
use Rattle.abi_types.specs.declared.constants.Constants.{Constants}
use Rattle.abi_types.specs.declared.who.Who.{Who}
use Rattle.kernel_model.specs.ChannelLaws.{HasEnd}
use Rattle.kernel_model.specs.Channels.{Channel, must_wait, pull}
use Rattle.kernel_model.specs.Families.ChannelCalls.{is_nonblocking, read_from, read_if}
use Rattle.kernel_model.specs.Families.OpenMeaning.{at_descriptor}
use Rattle.kernel_model.specs.Families.StreamCalls.{read_open}
use Rattle.kernel_model.specs.State.{State}
use Rattle.kernel_model.specs.Step.{outcome, tick}
use Rattle.kernel_model.specs.View.{whole}
use Rattle.transfer_laws.specs.TransferLaws.{ReadsKeepSides, ReadsTake}
use Rattle.transfer_laws.proofs.Outcomes.{answer_by, outcome_allowed, state_by}
use Rattle.transfer_laws.proofs.Waits.{read_goes}

read_outcome : (constants : Constants) (S : State) (who : Who) (fd n c flags : ℕ) (writes : Option ℕ) (channel : Channel)
    → HasEnd S who (FdRead fd n) fd (Some c) writes flags → get S.chans c ≡ Some channel
    → outcome constants S who (FdRead fd n) ≡ read_if (must_wait n channel) (is_nonblocking flags) c (pull n channel)
read_outcome constants S who fd n c flags writes channel has there =
    outcome_allowed constants S who (FdRead fd n) has.table has.own has.allowed
    ∙ ap (λ d. at_descriptor (read_open (whole (tick S)) n) (whole (tick S)) d) has.there
    ∙ ap (λ kind. read_open (whole (tick S)) n has.d.id kind) has.opened
    ∙ ap (λ x. read_from n (is_nonblocking flags) c x) there

pub reads_keep_sides : ReadsKeepSides
reads_keep_sides n channel = (refl, refl, refl)

pub reads_take : ReadsTake
reads_take constants S who fd n c flags writes channel has there goes =
    let is = read_outcome constants S who fd n c flags writes channel has there
    ∙ ap (λ b. read_if b (is_nonblocking flags) c (pull n channel)) (read_goes n channel goes) in
    (answer_by constants S who (FdRead fd n) _ is, state_by constants S who (FdRead fd n) _ is)
