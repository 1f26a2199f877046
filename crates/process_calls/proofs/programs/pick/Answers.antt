use Rattle.process_calls.proofs.ExecCalls.{picked_listed}
use Rattle.process_calls.proofs.programs.pick.Goals as goal

pub returns-in-Ok-clause-picked : goal.returns-in-Ok-clause-picked
returns-in-Ok-clause-picked c = picked_listed c.args.table.now c.args.fds.now c.in-Ok.made c.in-Ok.ensures.picked
