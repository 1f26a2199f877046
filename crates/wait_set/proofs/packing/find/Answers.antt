use Rattle.std.proofs.Common.{◌≡◌, ◌+◌, arith}
use Rattle.wait_set.proofs.Packed.{place_found}
use Rattle.wait_set.proofs.packing.find.Goals as goal

pub returns-clause-place : goal.returns-clause-place
returns-clause-place c =
    let order = c.loop-high.invariant.order in
    let bound = c.loop-high.invariant.bound in
    let next : c.loop-high.high ≡ c.loop-high.low + 1 = omega (arith, c.loop-high-test.false) in
    place_found c.args.blocks.now.used c.args.number c.loop-high.low c.loop-high.high c.requires.packed (omega arith) next c.loop-high.invariant.below c.loop-high.invariant.above
