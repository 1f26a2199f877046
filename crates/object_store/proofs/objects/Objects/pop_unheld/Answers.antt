use Rattle.std.proofs.Common.{is_some, ap, ◌∙◌}
use Rattle.object_store.proofs.objects.Objects.pop_unheld.Goals as goal

pub unwrap-kind-requires : goal.unwrap-kind-requires
unwrap-kind-requires c = ap is_some c.remove.ensures.value ∙ c.in_ok-id.ensures.all c.in_ok-id.id ∙ ap is_some c.in_ok-id.ensures.unheld
