use Rattle.object_store.proofs.Views.{seen_kind, seen_no_kind}
use Rattle.object_store.proofs.objects.Objects.get.Goals as goal

pub returns-in-Some : goal.returns-in-Some
returns-in-Some c = seen_kind c.self.inside.entries c.id.inside.0 c.args.id c.args.self.now c.self.view_is c.id.view_is c.in-Some.entry.now c.in-Some.ensures.value

pub returns-in-None : goal.returns-in-None
returns-in-None c = seen_no_kind _ _ _ _ c.self.view_is c.id.view_is c.in-None.ensures.value
