use Rattle.abi_base.proofs.Bits.{has-meet}
use Rattle.abi_base.proofs.rights.Rights.meet.Goals as goal

pub returns-clause-each : goal.returns-clause-each
returns-clause-each c = λ k. has-meet _ _ k
