use Rattle.std.proofs.Common.{◌∙◌}
use Rattle.maps.proofs.OrderedNames.{len_of}
use Rattle.maps.proofs.name_map.NameMap.len.Goals as goal

pub returns-clause-len : goal.returns-clause-len
returns-clause-len g c = c.len.ensures ∙ len_of _ _ c.self.view_is c.self.invariant
