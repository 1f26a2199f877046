use Rattle.std.proofs.Common.{◌≡◌, ◌*◌, ◌/◌, ◌%◌, length, get_or, sym, ap, ◌∙◌, arith}
use Rattle.std.specs.Global.{Vec}
use Rattle.std.proofs.lemmas.List.{get_or-append_right}
use Rattle.block_list.specs.Contents.{Contents}
use Rattle.block_list.proofs.Places.{length_full, length_contents, value_at}
use Rattle.block_list.proofs.blocks.BlockList.at.Goals as goal

pub index-requires-else-number-len : goal.index-requires-else-number-len
index-requires-else-number-len g c =
    let whole = length_contents c.self.inside.full c.self.inside.last c.self.invariant in
    let seen = ap (λ (v : Contents _). length v.items) c.self.view_is in
    omega arith

pub returns-then-number-len : goal.returns-then-number-len
returns-then-number-len g c =
    let blocks = c.self.inside.full.ok.0 in
    c.index.ensures
    ∙ ap (λ (block : Vec _). get_or block.items (c.args.index % 1024) c.index.result.now) c.index-block.ensures
    ∙ sym
    (value_at c.self.inside.full.items c.self.inside.last.items (c.args.index / 1024) (c.args.index % 1024) c.args.index c.index-block.result.now c.index.result.now
    c.self.invariant.full_ones (omega arith) (omega arith) (omega arith))
    ∙ ap (λ (v : Contents _). get_or v.items c.args.index c.index.result.now) c.self.view_is

pub returns-else-number-len : goal.returns-else-number-len
returns-else-number-len g c =
    let blocks = c.self.inside.full.ok.0 in
    let before = length_full c.self.inside.full.items c.self.invariant.full_ones in
    c.index-else-number-len.ensures
    ∙ sym
    (get_or-append_right _ c.self.inside.last.items (c.len-else-number-len.result * 1024) c.args.index c.index-else-number-len.result.now (omega arith) (omega arith))
    ∙ ap (λ (v : Contents _). get_or v.items c.args.index c.index-else-number-len.result.now) c.self.view_is
