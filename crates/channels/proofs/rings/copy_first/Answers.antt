use Rattle.channels.proofs.Moves.{copied_first}
use Rattle.channels.proofs.rings.copy_first.Goals as goal

pub returns : goal.returns
returns g c =
    copied_first c.args.ring.now.items c.as_slices.result.0.now c.as_slices.result.1.now c.args.out.now c.copy_from_slice.new.self c.copy_from_slice-2.new.self
    c.min-from_front.result c.min-from_back.result c.args.count c.as_slices.ensures c.requires.there c.min-from_front.ensures c.min-from_back.ensures
    c.copy_from_slice.ensures.after c.copy_from_slice-2.ensures.after
