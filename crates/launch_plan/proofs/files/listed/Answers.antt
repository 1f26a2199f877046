-- The steps of the loop, and its end.
use Rattle.std.proofs.Common.{sym, arith}
use Rattle.launch_values.specs.Views.{shape_of}
use Rattle.launch_plan.specs.Files.{as_rights, listed, right_of}
use Rattle.launch_plan.proofs.FileParts.{items_at, rights_ok, listed_goes_on, listed_ends}
use Rattle.launch_plan.proofs.files.listed.Goals as goal

pub loop-item-preserved : goal.loop-item-preserved
loop-item-preserved c =
    listed_goes_on c.loop-item.rights.0 c.in_ok-right_of.field-0.0 c.args.items.now c.loop-item.item-index c.item-item.result
    (as_rights (listed (items_at c.args.items.now 0))) c.loop-item-test.true c.item-item.is
    (rights_ok (right_of (shape_of c.item-item.result)) c.in_ok-right_of.field-0 (sym c.in_ok-right_of.ensures)) c.loop-item.invariant

pub returns : goal.returns
returns c =
    listed_ends c.loop-item.rights c.args.items.now c.loop-item.item-index (as_rights (listed (items_at c.args.items.now 0))) (omega (arith, c.loop-item-test.false)) c.loop-item.invariant
