use Rattle.kernel_model.proofs.SendCounts as counts
use Rattle.kernel_model.proofs.channel_laws.sends_are_counted.Goals as goal

pub returns-clause-step : goal.returns-clause-step
returns-clause-step c = counts.sends_are_counted

pub returns-clause-end : goal.returns-clause-end
returns-clause-end c = counts.ends_count_none

pub returns-clause-new : goal.returns-clause-new
returns-clause-new c = counts.new_channels_have_none

pub returns-clause-end_new : goal.returns-clause-end_new
returns-clause-end_new c = counts.ends_make_none
