use Rattle.std.proofs.Common.{◌<◌, ◌∷◌, [], sym, subst, ◌∙◌, arith}
use Rattle.shared_history.specs.Keeper.{Keeping}
use Rattle.shared_history.specs.Passes.{Later, Passing, seen_of}
use Rattle.shared_history.proofs.Steps.{takes_in_at, compares_at, joined_is, pass_is, compared_later}
use Rattle.shared_history.proofs.keeper.Keeper.take_in.Goals as goal

pub join_seat-requires : goal.join_seat-requires
join_seat-requires g c =
    let passes = c.args.passes.now in
    let pass = c.pass.inside in
    let word : 0 < passes.table.shared.table_id.words = omega (arith, passes.one_word) in (
      c.self.invariant.table_is ∙ sym passes.table_is,
      c.into_seat.ensures.0 ∙ (c.pass.invariant.table_is ∙ sym passes.table_is),
      c.into_seat.ensures.3,
      word,
      takes_in_at g.J.Naming.launch passes.table.shared.key c.self.inside.seat.id c.self.inside.seat.me c.into_seat.result.id c.into_seat.result.me.0 pass.pid
          (seen_of pass.badge.views) passes.launch_is c.self.invariant.rest
          (pass_is pass.badge.views pass.pid (seen_of pass.badge.views) c.into_seat.result.me.0 c.into_seat.ensures.2 c.pass.invariant.view),
    )

pub load-requires : goal.load-requires
load-requires g c =
    let passes = c.args.passes.now in
    let pass = c.pass.inside in
    let word : 0 < passes.table.shared.table_id.words = omega (arith, passes.one_word) in (
      c.join_seat.ensures.0 ∙ (c.self.invariant.table_is ∙ sym passes.table_is),
      word,
      compares_at g.J.Naming.launch passes.table.shared.key passes.table.shared.table_id.slots c.join_seat.new.seat.id c.join_seat.new.seat.me c.self.inside.seat.me.0.log
          (pass.pid ∷ []) (seen_of pass.badge.views) passes.launch_is
          (joined_is c.self.inside.seat.me c.join_seat.new.seat.me c.into_seat.result.me.0 pass.pid (seen_of pass.badge.views) c.self.invariant.rest
          (pass_is pass.badge.views pass.pid (seen_of pass.badge.views) c.into_seat.result.me.0 c.into_seat.ensures.2 c.pass.invariant.view) c.join_seat.ensures.2),
    )

pub returns-clause-later : goal.returns-clause-later
returns-clause-later g c =
    let pass = c.pass.inside in
    let log = c.self.inside.seat.me.0.log in
    subst (λ (x : Passing × Keeping). Later x.0.pid x.0.seen x.1.log) (λ i. (c.pass.view_is i, c.self.view_is i))
    (compared_later c.join_seat.new.seat.me c.load.new.seat.me log pass.pid (seen_of pass.badge.views)
    (joined_is c.self.inside.seat.me c.join_seat.new.seat.me c.into_seat.result.me.0 pass.pid (seen_of pass.badge.views) c.self.invariant.rest
    (pass_is pass.badge.views pass.pid (seen_of pass.badge.views) c.into_seat.result.me.0 c.into_seat.ensures.2 c.pass.invariant.view) c.join_seat.ensures.2)
    c.load.ensures.2)
