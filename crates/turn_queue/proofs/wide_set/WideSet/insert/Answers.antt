use Rattle.maps.proofs.NumberEntries.{inserted_of}
use Rattle.turn_queue.proofs.wide_set.WideSet.insert.Goals as goal

pub returns-clause-ok : goal.returns-clause-ok
returns-clause-ok c = inserted_of _ _ _ c.args.number tt c.self.view_is c.in_ok-insert.ensures.updates.0
