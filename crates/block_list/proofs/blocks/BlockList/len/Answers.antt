use Rattle.std.proofs.Common.{length, ap, arith}
use Rattle.block_list.specs.Contents.{Contents}
use Rattle.block_list.proofs.Places.{length_contents}
use Rattle.block_list.proofs.blocks.BlockList.len.Goals as goal

pub returns : goal.returns
returns g c =
    let whole = length_contents c.self.inside.full c.self.inside.last c.self.invariant in
    let seen = ap (λ (v : Contents _). length v.items) c.self.view_is in
    omega arith
