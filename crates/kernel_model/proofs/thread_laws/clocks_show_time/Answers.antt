use Rattle.kernel_model.proofs.ThreadLaws.{clocks_show}
use Rattle.kernel_model.proofs.thread_laws.clocks_show_time.Goals as goal

pub returns : goal.returns
returns c = clocks_show
