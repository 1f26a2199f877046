use Rattle.maps.proofs.NumberEntries.{inserted_of}
use Rattle.wait_set.proofs.thread_set.ThreadSet.insert.Goals as goal

pub returns-clause-ok : goal.returns-clause-ok
returns-clause-ok c = inserted_of _ _ _ c.args.thread tt c.self.view_is c.in_ok-insert.ensures.updates.0
