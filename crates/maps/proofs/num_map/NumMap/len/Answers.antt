use Rattle.std.proofs.Common.{◌∙◌}
use Rattle.maps.proofs.NumberEntries.{len_of}
use Rattle.maps.proofs.num_map.NumMap.len.Goals as goal

pub returns-clause-len : goal.returns-clause-len
returns-clause-len g c = c.len.ensures.len ∙ len_of _ _ c.self.view_is c.len.ensures.ordered
