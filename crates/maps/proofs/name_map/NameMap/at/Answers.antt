use Rattle.std.proofs.Common.{sym, ap, ◌∙◌}
use Rattle.std.specs.List.{slice_get}
use Rattle.maps.proofs.OrderedNames.{entries_of}
use Rattle.maps.proofs.name_map.NameMap.at.Goals as goal

pub returns : goal.returns
returns g c = c.at.ensures.entry ∙ ap (λ es. slice_get es c.args.place) (sym (entries_of _ _ c.self.view_is c.self.invariant))
