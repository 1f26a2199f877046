use Rattle.std.proofs.Common.{ap, sym, ◌∙◌}
use Rattle.std.specs.FinMap.{remove}
use Rattle.maps.specs.Maps.{remove-inserted}
use Rattle.file_tree.specs.Kept.{Slots}
use Rattle.file_tree.proofs.Behind.{at_err}
use Rattle.file_tree.proofs.NewNames.{stays_there}
use Rattle.file_tree.proofs.entries.add_node.Goals as goal

pub put_entry-requires : goal.put_entry-requires
put_entry-requires c = rw c.in_ok-insert.ensures.ok (stays_there c.args.slots.now c.args.id c.new.result c.args.dir c.requires.dir)

pub returns-then-is_err-clause-err : goal.returns-then-is_err-clause-err
returns-then-is_err-clause-err c =
    let slots = c.args.slots.now in
    let same = at_err c.put_entry.result (sym c.is_err.ensures.value ∙ c.if-is_err.true) c.put_entry.ensures.err in
    c.drop_slot.ensures ∙ ap (λ (m : Slots). remove m c.args.id) (same ∙ c.in_ok-insert.ensures.ok)
    ∙ remove-inserted slots c.args.id c.new.result c.requires.new
