use Rattle.maps.proofs.OrderedNames.{empty_of}
use Rattle.maps.proofs.name_map.NameMap.new.Goals as goal

pub returns : goal.returns
returns g c = empty_of _ c.new.ensures
