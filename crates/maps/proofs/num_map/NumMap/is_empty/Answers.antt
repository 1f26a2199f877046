use Rattle.maps.proofs.NumberEntries.{zero_len_iff}
use Rattle.maps.proofs.num_map.NumMap.is_empty.Goals as goal

pub returns-clause-empty : goal.returns-clause-empty
returns-clause-empty g c = zero_len_iff c.args.self.now c.len.result c.len.ensures.len
