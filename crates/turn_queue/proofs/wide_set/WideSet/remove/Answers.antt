use Rattle.maps.proofs.NumberEntries.{removed_of}
use Rattle.turn_queue.proofs.wide_set.WideSet.remove.Goals as goal

pub returns : goal.returns
returns c = removed_of _ _ _ c.args.number c.self.view_is c.remove.ensures.updates.0
