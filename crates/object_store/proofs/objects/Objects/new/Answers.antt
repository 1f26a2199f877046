use Rattle.object_store.proofs.Kept.{kept_new}
use Rattle.object_store.proofs.Nodes.{counted_new}
use Rattle.object_store.proofs.Views.{view_new}
use Rattle.object_store.proofs.objects.Objects.new.Goals as goal

pub invariant_of-result : goal.invariant_of-result
invariant_of-result c = rw (c.new.ensures, c.new-2.ensures.items, c.new-3.ensures) (record { list = kept_new _; nodes = counted_new })

pub returns : goal.returns
returns c = rw c.new.ensures view_new
