use Rattle.run_model.proofs.Ends as ends
use Rattle.run_model.proofs.Followers.{ended_or_stalled}
use Rattle.run_model.proofs.laws.ended_is_final.Goals as goal

pub returns-clause-ended : goal.returns-clause-ended
returns-clause-ended c = ends.ended_is_final

pub returns-clause-stalled : goal.returns-clause-stalled
returns-clause-stalled c = ends.stalled_is_final

pub returns-clause-apart : goal.returns-clause-apart
returns-clause-apart c = ended_or_stalled
