use Rattle.std.proofs.Common.{sym, ap, drop, length, ◌∙◌}
use Rattle.std.proofs.iter.runs.Sources.{from_front}
use Rattle.std.specs.Map.Iter.{TakesFirst, deref_pair}
use Rattle.maps.proofs.OrderedNames.{entries_of}
use Rattle.maps.proofs.name_map.NameMap.from_place.Goals as goal

pub returns-clause-rest : goal.returns-clause-rest
returns-clause-rest g c = c.after.ensures ∙ ap (drop c.args.place) (sym (entries_of _ _ c.self.view_is c.self.invariant))

pub returns-clause-runs : goal.returns-clause-runs
returns-clause-runs g c = from_front (TakesFirst deref_pair) deref_pair (λ s. s) (λ s t h. ap length h.0) (λ s x t h. h)
