use Rattle.std.proofs.Common.{◌∙◌}
use Rattle.maps.proofs.NumberEntries.{get_of}
use Rattle.maps.proofs.num_map.NumMap.get.Goals as goal

pub returns : goal.returns
returns g c = record { value = c.get.ensures.value ∙ get_of _ _ c.self.view_is c.args.key }
