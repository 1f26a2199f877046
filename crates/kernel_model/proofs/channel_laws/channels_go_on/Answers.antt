use Rattle.kernel_model.proofs.Sending.{channels_go_on, ends_go_on}
use Rattle.kernel_model.proofs.channel_laws.channels_go_on.Goals as goal

pub returns-clause-step : goal.returns-clause-step
returns-clause-step c = channels_go_on

pub returns-clause-end : goal.returns-clause-end
returns-clause-end c = ends_go_on
