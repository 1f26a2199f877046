use Rattle.std.proofs.Common.{List, length, refl, ap, ◌∙◌, arith}
use Rattle.channels.specs.declared.pieces.Piece.{Piece}
use Rattle.channels.proofs.Kept.{IsChannel-old, drawn_small, reach_most, fewer, kept_pulled, is_pulled}
use Rattle.channels.proofs.channel.Channel.pull.Goals as goal

pub move_first-requires-clause-there : goal.move_first-requires-clause-there
move_first-requires-clause-there c = omega (arith, c.reach-bytes.ensures.most, reach_most c.self.inside.kind _ _ _ _ _ _ c.self.inside.writer _ _ c.self.invariant _ c.self.view_is)

pub overflow_add-self-inside : goal.overflow_add-self-inside
overflow_add-self-inside c =
    omega (
      arith,
      drawn_small c.self.inside.kind _ _ _ _ _ _ c.self.inside.writer _ _ c.self.invariant,
      c.reach-bytes.ensures.most,
      reach_most c.self.inside.kind _ _ _ _ _ _ c.self.inside.writer _ _ c.self.invariant _ c.self.view_is,
      c.self.invariant.most.0,
    )

pub overflow_sub-self : goal.overflow_sub-self
overflow_sub-self c =
    omega (
      arith,
      c.len-before.ensures,
      c.len.ensures,
      c.self.inside.pieces.ok.0,
      c.draw_in-self-inside.new.pieces.ok.0,
      ap (λ (ps : List Piece). length ps) c.draw_in-self-inside.ensures.pieces,
      fewer c.self.inside.kind _ _ _ _ _ _ c.self.inside.writer _ _ c.self.invariant _ c.self.view_is (length c.args.out.now) c.reach-bytes.result c.carried_with-carried.result
          c.reach-bytes.ensures.most c.carried_with-carried.ensures,
    )

pub invariant_of-self : goal.invariant_of-self
invariant_of-self c =
    kept_pulled c.self.inside.kind _ _ _ _ _ _ c.self.inside.writer _ _ c.self.invariant _ c.self.view_is (length c.args.out.now) c.reach-bytes.result c.carried_with-carried.result
    c.reach-bytes.ensures.most c.carried_with-carried.ensures c.len-before.result c.len.result c.draw_in-self-inside.result c.draw_in-self-inside.new.pieces.items
    c.move_first.new.ring c.move_first-2.new.ring (c.len-before.ensures ∙ c.self.inside.pieces.ok.0) (c.len.ensures ∙ c.draw_in-self-inside.new.pieces.ok.0)
    c.draw_in-self-inside.ensures.drawn c.draw_in-self-inside.ensures.pieces c.move_first.ensures.ring c.move_first-2.ensures.ring

pub returns-clause-ok : goal.returns-clause-ok
returns-clause-ok c =
    is_pulled c.self.inside.kind _ _ _ _ _ _ c.self.inside.writer _ _ c.self.invariant _ c.self.view_is (length c.args.out.now) c.reach-bytes.result c.carried_with-carried.result
    c.reach-bytes.ensures.most c.carried_with-carried.ensures c.len-before.result c.len.result c.draw_in-self-inside.result c.draw_in-self-inside.new.pieces.items
    c.move_first.new.ring c.move_first-2.new.ring (c.len-before.ensures ∙ c.self.inside.pieces.ok.0) (c.len.ensures ∙ c.draw_in-self-inside.new.pieces.ok.0)
    c.draw_in-self-inside.ensures.drawn c.draw_in-self-inside.ensures.pieces c.move_first.ensures.ring c.move_first-2.ensures.ring c.args.out.now
    c.move_first.new.out c.args.fds.now c.move_first-2.new.out refl c.move_first.ensures.out
    c.move_first-2.ensures.out

pub returns-clause-may_be : goal.returns-clause-may_be
returns-clause-may_be c = IsChannel-old c.self.inside.kind _ _ _ _ _ _ c.self.inside.writer _ _ c.self.invariant _ c.self.view_is
