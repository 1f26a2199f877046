use Rattle.std.proofs.Common.{ℕ, not, eqb, length, sym, ap, ◌∙◌}
use Rattle.channels.specs.Channels.{carried_of}
use Rattle.channels.proofs.Afters.{bounded_by}
use Rattle.channels.proofs.Kept.{carried_count}
use Rattle.channels.proofs.channel.Channel.is_bounded.Goals as goal

pub returns : goal.returns
returns c =
    ap (λ (n : ℕ). not (eqb n c.coming.result)) (c.len.ensures.len ∙ carried_count c.self.inside.kind _ _ _ _ _ _ c.self.inside.writer _ _ c.self.invariant _ c.self.view_is)
    ∙ ap (λ (n : ℕ). not (eqb (length (carried_of c.args.self.now.waiting)) n)) c.coming.ensures
    ∙ sym (bounded_by c.args.self.now.waiting)
