use Rattle.run_model.proofs.Followers.{ends_or_goes_on, ends}
use Rattle.run_model.proofs.laws.runs_to_its_end.Goals as goal

pub returns-clause-goes_on : goal.returns-clause-goes_on
returns-clause-goes_on c = ends_or_goes_on

pub returns-clause-ends : goal.returns-clause-ends
returns-clause-ends c = ends
