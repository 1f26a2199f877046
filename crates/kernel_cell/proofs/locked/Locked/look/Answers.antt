use Rattle.std.proofs.Common.{sym, ap, subst, ◌∙◌}
use Rattle.shared_history.specs.Passes.{IsSeen, Later, Passing, seen_of}
use Rattle.kernel_cell.specs.Recorded.{IsRecorded}
use Rattle.kernel_cell.proofs.PassOutcomes.{after_look, seen_since}
use Rattle.kernel_cell.proofs.locked.Locked.look.Goals as goal

pub hand_out-requires-clause-seen : goal.hand_out-requires-clause-seen
hand_out-requires-clause-seen g c =
    let log = c.args.self.now.keeper.log in
    let u : Passing = record { pid = c.pass.inside.pid; seen = seen_of c.pass.inside.badge.views } in
    let later = subst (λ (x : Passing). Later x.pid x.seen log) c.lent.ensures c.take_in.ensures.later in
    subst (IsSeen g.J.Naming.launch u.pid) (sym (ap (λ k. k.log) c.take_in.ensures.keeper))
    (seen_since g.J.Naming.launch u log c.requires.recorded.legal c.pass.invariant.seen later)

pub returns-clause-recorded : goal.returns-clause-recorded
returns-clause-recorded g c =
    let it = c.args.self.now in
    subst (λ h. IsRecorded g.J.Naming.launch g.J.Naming.keeps_all h it.kernel it.constants it.kept)
    (sym (ap (λ k. k.log) c.hand_out.ensures.keeper ∙ ap (λ k. k.log) c.take_in.ensures.keeper)) c.requires.recorded

pub returns-clause-pass : goal.returns-clause-pass
returns-clause-pass g c =
    let log = c.args.self.now.keeper.log in
    let u : Passing = record { pid = c.pass.inside.pid; seen = seen_of c.pass.inside.badge.views } in
    let later = subst (λ (x : Passing). Later x.pid x.seen log) c.lent.ensures c.take_in.ensures.later in
    after_look g.J.Naming.launch u c.args.pass.now (record { pid = c.drop.inside.pid; seen = seen_of c.drop.inside.badge.views }) log c.args.self.now.kernel
    c.live.result c.pass.view_is c.requires.recorded.legal c.pass.invariant.seen later
    (c.drop.view_is ∙ c.hand_out.ensures.pass ∙ ap (λ k. record { pid = u.pid; seen = k.log }) c.take_in.ensures.keeper) c.requires.recorded.state
    c.live.ensures

pub returns-clause-history : goal.returns-clause-history
returns-clause-history g c = ap (λ k. k.log) c.hand_out.ensures.keeper ∙ ap (λ k. k.log) c.take_in.ensures.keeper

pub returns-clause-seen : goal.returns-clause-seen
returns-clause-seen g c = ap (λ v. v.seen) (c.drop.view_is ∙ c.hand_out.ensures.pass) ∙ sym (ap (λ k. k.log) c.hand_out.ensures.keeper)
