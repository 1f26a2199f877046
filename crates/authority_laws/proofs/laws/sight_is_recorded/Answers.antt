use Rattle.authority_laws.proofs.Records as records
use Rattle.authority_laws.proofs.laws.sight_is_recorded.Goals as goal

pub returns : goal.returns
returns c = records.sight_is_recorded
