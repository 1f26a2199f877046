use Rattle.transfer_laws.proofs.Touches as touches
use Rattle.transfer_laws.proofs.laws.touches_are_exact.Goals as goal

pub returns-clause-sockets : goal.returns-clause-sockets
returns-clause-sockets c = touches.sockets_touch

pub returns-clause-streams : goal.returns-clause-streams
returns-clause-streams c = touches.streams_touch
