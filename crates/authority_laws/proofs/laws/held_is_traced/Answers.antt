use Rattle.authority_laws.proofs.OpenTargets as targets
use Rattle.authority_laws.proofs.Records as records
use Rattle.authority_laws.proofs.Traces as traces
use Rattle.authority_laws.proofs.laws.held_is_traced.Goals as goal

pub returns-clause-ledger : goal.returns-clause-ledger
returns-clause-ledger c = traces.held_is_traced

pub returns-clause-held : goal.returns-clause-held
returns-clause-held c = traces.traced_is_held

pub returns-clause-handed : goal.returns-clause-handed
returns-clause-handed c = traces.traced_is_handed_on

pub returns-clause-rights : goal.returns-clause-rights
returns-clause-rights c = traces.traced_is_within_root

pub returns-clause-files : goal.returns-clause-files
returns-clause-files c = targets.files_come_from_grants

pub returns-clause-tables : goal.returns-clause-tables
returns-clause-tables c = records.tables_are_recorded
