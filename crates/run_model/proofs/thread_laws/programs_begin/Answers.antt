use Rattle.run_model.proofs.ThreadLaws as laws
use Rattle.run_model.proofs.thread_laws.programs_begin.Goals as goal

pub returns : goal.returns
returns c = laws.program_begins
