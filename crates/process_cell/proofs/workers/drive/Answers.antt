use Rattle.process_cell.proofs.RunOutcomes.{book_has_deadlines, driven_is}
use Rattle.process_cell.proofs.workers.drive.Goals as goal

pub outcome-requires : goal.outcome-requires
outcome-requires g c = book_has_deadlines c.args.begun.launch c.args.begun.keeps_all c.run_named.result c.requires c.run_named.ensures

pub returns : goal.returns
returns g c = driven_is c.args.begun.launch c.args.begun.keeps_all c.run_named.result c.outcome.result c.run_named.ensures c.outcome.ensures
