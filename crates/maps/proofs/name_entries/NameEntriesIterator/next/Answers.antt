use Rattle.std.specs.Map.Iter.{deref_pair}
use Rattle.maps.proofs.NameMaps.{takes_first}
use Rattle.maps.proofs.name_entries.NameEntriesIterator.next.Goals as goal

pub returns-clause-steps : goal.returns-clause-steps
returns-clause-steps g c = takes_first deref_pair c.self.inside.tree.now _ c.self.inside.place c.at-entry.result c.self.view_is c.at-entry.ensures.entry
