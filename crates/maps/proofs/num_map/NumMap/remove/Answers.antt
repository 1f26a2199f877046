use Rattle.std.proofs.Common.{◌∙◌}
use Rattle.maps.proofs.NumberEntries.{get_of, removed_of}
use Rattle.maps.proofs.num_map.NumMap.remove.Goals as goal

pub returns-clause-value : goal.returns-clause-value
returns-clause-value g c = c.remove.ensures.value ∙ get_of _ _ c.self.view_is c.args.key

pub returns-clause-new : goal.returns-clause-new
returns-clause-new g c = removed_of _ _ _ c.args.key c.self.view_is c.remove.ensures.updates.0
