use Rattle.run_model.proofs.ThreadLaws as laws
use Rattle.run_model.proofs.thread_laws.numbers_suffice.Goals as goal

pub returns : goal.returns
returns c = laws.numbers_suffice
