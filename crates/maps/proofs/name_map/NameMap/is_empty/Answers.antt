use Rattle.maps.proofs.OrderedNames.{zero_len_iff}
use Rattle.maps.proofs.name_map.NameMap.is_empty.Goals as goal

pub returns-clause-empty : goal.returns-clause-empty
returns-clause-empty g c = zero_len_iff c.args.self.now c.len.result c.len.ensures.len
