use Rattle.std.proofs.Common.{arith}
use Rattle.abi_base.proofs.Bits.{has-minus}
use Rattle.abi_base.proofs.rights.Rights.minus.Goals as goal

pub returns-clause-each : goal.returns-clause-each
returns-clause-each c = λ k below. has-minus _ _ k (omega arith) below
