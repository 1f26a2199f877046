use Rattle.run_model.proofs.ThreadLaws as laws
use Rattle.run_model.proofs.thread_laws.clocks_go_on.Goals as goal

pub returns : goal.returns
returns c = laws.clocks_go_on
