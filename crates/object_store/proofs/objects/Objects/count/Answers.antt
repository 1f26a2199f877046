use Rattle.object_store.proofs.Views.{seen_count, seen_no_count, has_counts}
use Rattle.object_store.proofs.objects.Objects.count.Goals as goal

pub returns-in-Some-clause-count : goal.returns-in-Some-clause-count
returns-in-Some-clause-count c = seen_count _ _ _ _ c.self.view_is c.id.view_is _ c.in-Some.ensures.value

pub returns-in-Some-clause-all : goal.returns-in-Some-clause-all
returns-in-Some-clause-all c = rw (← c.self.view_is) (has_counts c.self.inside.entries)

pub returns-in-None-clause-count : goal.returns-in-None-clause-count
returns-in-None-clause-count c = seen_no_count _ _ _ _ c.self.view_is c.id.view_is c.in-None.ensures.value

pub returns-in-None-clause-all : goal.returns-in-None-clause-all
returns-in-None-clause-all c = rw (← c.self.view_is) (has_counts c.self.inside.entries)
