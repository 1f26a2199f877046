use Rattle.channels.proofs.Moves.{moved_out}
use Rattle.channels.proofs.rings.move_first.Goals as goal

pub returns-clause-out : goal.returns-clause-out
returns-clause-out g c =
    moved_out c.args.ring.now.items c.args.out.now c.read_into.new.dst c.args.count c.read_into.result c.requires.fits c.requires.there c.read_into.ensures.count c.read_into.ensures.read
