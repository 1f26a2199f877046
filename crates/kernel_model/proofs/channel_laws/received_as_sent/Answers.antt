use Rattle.kernel_model.proofs.ChannelLaws.{installs_as_sent}
use Rattle.kernel_model.proofs.channel_laws.received_as_sent.Goals as goal

pub returns : goal.returns
returns c = installs_as_sent
