use Rattle.std.proofs.Common.{is_some, ap, ◌∙◌}
use Rattle.maps.proofs.NumberEntries.{get_of}
use Rattle.maps.proofs.num_map.NumMap.contains.Goals as goal

pub returns : goal.returns
returns g c = c.contains_key.ensures ∙ ap is_some (get_of _ _ c.self.view_is c.args.key)
