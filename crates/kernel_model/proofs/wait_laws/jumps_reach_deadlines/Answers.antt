use Rattle.kernel_model.proofs.Readiness.{idle_jumps, jump_readies, least_is_least, least_is_soon}
use Rattle.kernel_model.proofs.wait_laws.jumps_reach_deadlines.Goals as goal

pub returns-clause-least : goal.returns-clause-least
returns-clause-least c = least_is_least

pub returns-clause-soon : goal.returns-clause-soon
returns-clause-soon c = least_is_soon

pub returns-clause-jumps : goal.returns-clause-jumps
returns-clause-jumps c = idle_jumps

pub returns-clause-readies : goal.returns-clause-readies
returns-clause-readies c = jump_readies
