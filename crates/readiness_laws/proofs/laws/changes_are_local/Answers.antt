use Rattle.readiness_laws.proofs.Changing as laws
use Rattle.readiness_laws.proofs.laws.changes_are_local.Goals as goal

pub returns-clause-follow : goal.returns-clause-follow
returns-clause-follow c = laws.changes_follow

pub returns-clause-told : goal.returns-clause-told
returns-clause-told c = laws.threads_are_told

pub returns-clause-time : goal.returns-clause-time
returns-clause-time c = laws.time_is_local

pub returns-clause-threads : goal.returns-clause-threads
returns-clause-threads c = laws.threads_are_local

pub returns-clause-updates : goal.returns-clause-updates
returns-clause-updates c = laws.updates_are_local

pub returns-clause-release : goal.returns-clause-release
returns-clause-release c = laws.release_is_local
