use Rattle.std.proofs.Common.{◌<◌, ◌∷◌, Contains, sym, ap, subst, ◌∙◌, arith}
use Rattle.shared_history.specs.Rule.{tail_of}
use Rattle.shared_history.proofs.Steps.{gives_at}
use Rattle.shared_history.proofs.keeper.Keeper.hand_out.Goals as goal

pub split_seat-seat-requires : goal.split_seat-seat-requires
split_seat-seat-requires g c =
    let passes = c.args.passes.now in
    let word : 0 < passes.table.shared.table_id.words = omega (arith, passes.one_word) in
    let held = ap (λ k. k.held) c.self.view_is in (
      c.self.invariant.table_is ∙ sym passes.table_is,
      word,
      gives_at g.J.Naming.launch passes.table.shared.key c.self.inside.seat.id c.self.inside.seat.me c.args.pid (tail_of c.self.inside.seat.me.0.held)
          passes.launch_is c.self.invariant.rest
          (held ∙ c.requires.first ∙ ap (λ ps. c.args.pid ∷ tail_of ps) (sym held))
          (λ there. c.requires.apart (subst (λ ps. Contains (tail_of ps) c.args.pid) held there)),
    )
