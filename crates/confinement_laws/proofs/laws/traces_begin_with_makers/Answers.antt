use Rattle.confinement_laws.proofs.Making as making
use Rattle.confinement_laws.proofs.laws.traces_begin_with_makers.Goals as goal

pub returns : goal.returns
returns c = making.traces_begin_so
