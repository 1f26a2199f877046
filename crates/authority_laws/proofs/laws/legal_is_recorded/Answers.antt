use Rattle.authority_laws.proofs.Records as records
use Rattle.authority_laws.proofs.laws.legal_is_recorded.Goals as goal

pub returns : goal.returns
returns c = records.legal_is_recorded
