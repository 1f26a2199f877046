use Rattle.maps.proofs.NumberEntries.{removed_of}
use Rattle.wait_set.proofs.thread_set.ThreadSet.remove.Goals as goal

pub returns : goal.returns
returns c = record { new = removed_of _ _ _ c.args.thread c.self.view_is c.remove.ensures.updates.0 }
