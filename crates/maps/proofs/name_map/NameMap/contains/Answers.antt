use Rattle.std.proofs.Common.{is_some, sym, ap, ◌∙◌}
use Rattle.maps.proofs.OrderedNames.{get_of}
use Rattle.maps.proofs.name_map.NameMap.contains.Goals as goal

pub returns : goal.returns
returns g c = c.is_at.ensures ∙ ap is_some (sym (get_of _ _ c.self.view_is c.self.invariant c.args.name.now))
