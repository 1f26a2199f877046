use Rattle.std.proofs.Common.{ap, ◌∙◌}
use Rattle.std.specs.FinMap.{remove}
use Rattle.maps.specs.Maps.{remove-inserted}
use Rattle.channel_calls.specs.Calls.{Channels}
use Rattle.kernel_model.specs.Channels.{new_channel}
use Rattle.channel_calls.proofs.pairs.add_channels.Goals as goal

pub returns-in-Err-clause-err : goal.returns-in-Err-clause-err
returns-in-Err-clause-err c =
    let first = c.args.pair.now.first in
    c.remove.ensures ∙ ap (λ (m : Channels). remove m first) (c.in-Err.ensures.err ∙ c.in_ok-add_channel.ensures.ok)
    ∙ remove-inserted c.args.channels.now first new_channel c.requires.free.0
