use Rattle.run_model.proofs.Waited.{waits_were_called}
use Rattle.run_model.proofs.WaitingRegisters.{waits_are_encoded}
use Rattle.run_model.proofs.laws.waits_were_called.Goals as goal

pub returns-clause-called : goal.returns-clause-called
returns-clause-called c = waits_were_called

pub returns-clause-encoded : goal.returns-clause-encoded
returns-clause-encoded c = waits_are_encoded
