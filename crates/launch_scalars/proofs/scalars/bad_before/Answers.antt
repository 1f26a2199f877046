use Rattle.launch_scalars.proofs.ScalarSteps.{bad_before_inside}
use Rattle.launch_scalars.proofs.scalars.bad_before.Goals as goal

pub returns-clause-inside : goal.returns-clause-inside
returns-clause-inside c = bad_before_inside c.args.bytes.now c.args.count c.bad_at.result c.bad_at.ensures
