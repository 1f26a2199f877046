-- Each side in turn comes to both at once.
use Rattle.std.proofs.Common.{◌==◌, Bool, not, bit_and, ap, ◌∙◌}
use Rattle.std.specs.FinMap.{get}
use Rattle.kernel_model.specs.Channels.{with_reader_shut, with_writer_shut}
use Rattle.kernel_model.specs.Families.ChannelCalls.{shut_if}
use Rattle.channel_calls.specs.Calls.{Channels, channels_after}
use Rattle.channel_calls.proofs.Shuts.{shut_in_turn}
use Rattle.channel_calls.proofs.shutting.shut_end.Goals as goal

pub returns-clause-channels : goal.returns-clause-channels
returns-clause-channels c =
    let old = c.args.channels.now in
    let r = c.args.reads in
    let w = c.args.writes in
    let second = not (bit_and c.args.how 2 == 0) in
    let then : Channels → Channels = λ one. channels_after (shut_if second with_writer_shut w (get one w)) one in
    let whether : Bool → Channels = λ first. channels_after (shut_if first with_reader_shut r (get old r)) old in
    c.shut_side-2.ensures.channels
    ∙ ap then (c.shut_side.ensures.channels ∙ ap whether c.shuts_reader-receives.ensures)
    ∙ shut_in_turn with_reader_shut with_writer_shut old r w (not (bit_and c.args.how 1 == 0)) second
