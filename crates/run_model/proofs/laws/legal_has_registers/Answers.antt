use Rattle.run_model.proofs.Registers as registers
use Rattle.run_model.proofs.laws.legal_has_registers.Goals as goal

pub returns : goal.returns
returns c = registers.legal_has_registers
