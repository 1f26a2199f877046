use Rattle.authority_laws.proofs.Deliveries as deliveries
use Rattle.authority_laws.proofs.laws.receives_are_sent.Goals as goal

pub returns : goal.returns
returns c = deliveries.receives_are_sent
