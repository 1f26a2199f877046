use Rattle.std.proofs.Common.{List, sym, ap, subst, ◌∙◌}
use Rattle.run_types.specs.declared.history.Act.{Act}
use Rattle.run_types.specs.declared.history.Entry.{Entry}
use Rattle.shared_history.specs.Passes.{Later, Passing, seen_of}
use Rattle.kernel_cell.specs.Acting.{Became, IsActedOn, MayCome}
use Rattle.kernel_cell.specs.Recorded.{IsRecorded}
use Rattle.kernel_cell.specs.declared.results.After.{After}
use Rattle.kernel_cell.proofs.PassOutcomes.{acted_here, asks_here, is_seen, seen_here}
use Rattle.kernel_cell.proofs.locked.Locked.act.Goals as goal

pub enter-came-requires-clause-recorded : goal.enter-came-requires-clause-recorded
enter-came-requires-clause-recorded g c =
    let self = c.args.self.now in
    subst (λ h. IsRecorded g.J.Naming.launch g.J.Naming.keeps_all h self.kernel self.constants self.kept) (sym (ap (λ k. k.log) c.take_in.ensures.keeper))
    c.requires.recorded

pub enter-came-requires-clause-asks : goal.enter-came-requires-clause-asks
enter-came-requires-clause-asks g c =
    let log = c.args.self.now.keeper.log in
    let u : Passing = record { pid = c.pass.inside.pid; seen = seen_of c.pass.inside.badge.views } in
    let later = subst (λ (x : Passing). Later x.pid x.seen log) c.lent.ensures c.take_in.ensures.later in
    asks_here g.J.Naming.launch c.requires.recorded.bounded.begins u c.args.pass.now c.args.tid log c.take_in.new.self.log c.pass.view_is
    (ap (λ k. k.log) c.take_in.ensures.keeper) c.requires.recorded.legal c.pass.invariant.seen later
    c.args.body.now c.args.what c.requires.asks

pub hand_out-requires-clause-seen : goal.hand_out-requires-clause-seen
hand_out-requires-clause-seen g c =
    let log = c.args.self.now.keeper.log in
    let u : Passing = record { pid = c.pass.inside.pid; seen = seen_of c.pass.inside.badge.views } in
    let later = subst (λ (x : Passing). Later x.pid x.seen log) c.lent.ensures c.take_in.ensures.later in
    is_seen g.J.Naming.launch c.requires.recorded.bounded.begins u c.args.pass.now c.args.tid log c.take_in.new.self.log c.pass.view_is
    (ap (λ k. k.log) c.take_in.ensures.keeper) c.requires.recorded.legal c.pass.invariant.seen later
    c.enter-came.new.self.keeper.log c.args.body.now.turns c.args.what
    (λ (a : Act) (x : After). MayCome c.args.what x × Became g.J.Naming.launch c.take_in.new.self.log u.pid c.args.tid c.enter-came.new.self.keeper.log
    c.enter-came.new.body.guest a x) c.enter-came.result c.enter-came.ensures.recorded.legal c.enter-came.ensures.came.came

pub returns-clause-recorded : goal.returns-clause-recorded
returns-clause-recorded g c =
    let it = c.enter-came.new.self in
    subst (λ (h : List Entry). IsRecorded g.J.Naming.launch g.J.Naming.keeps_all h it.kernel it.constants it.kept)
    (sym (ap (λ k. k.log) c.hand_out.ensures.keeper)) c.enter-came.ensures.recorded

pub returns-clause-pass : goal.returns-clause-pass
returns-clause-pass g c =
    let log = c.args.self.now.keeper.log in
    let u : Passing = record { pid = c.pass.inside.pid; seen = seen_of c.pass.inside.badge.views } in
    let later = subst (λ (x : Passing). Later x.pid x.seen log) c.lent.ensures c.take_in.ensures.later in
    let seen = is_seen g.J.Naming.launch c.requires.recorded.bounded.begins u c.args.pass.now c.args.tid log c.take_in.new.self.log c.pass.view_is
    (ap (λ k. k.log) c.take_in.ensures.keeper) c.requires.recorded.legal c.pass.invariant.seen later
    c.enter-came.new.self.keeper.log c.args.body.now.turns c.args.what
    (λ (a : Act) (x : After). MayCome c.args.what x × Became g.J.Naming.launch c.take_in.new.self.log u.pid c.args.tid c.enter-came.new.self.keeper.log
    c.enter-came.new.body.guest a x) c.enter-came.result c.enter-came.ensures.recorded.legal c.enter-came.ensures.came.came in
    seen_here g.J.Naming.launch c.requires.recorded.bounded.begins u c.args.pass.now c.args.tid log c.take_in.new.self.log c.pass.view_is
    (ap (λ k. k.log) c.take_in.ensures.keeper) c.requires.recorded.legal c.pass.invariant.seen later
    (record { pid = c.drop.inside.pid; seen = seen_of c.drop.inside.badge.views }) c.enter-came.new.self.keeper.log
    (λ (x : Passing) (before after : List Entry). IsActedOn g.J.Naming.launch before x.pid c.args.tid c.args.body.now c.args.what c.enter-came.new.body after
    c.enter-came.result) (c.drop.view_is ∙ c.hand_out.ensures.pass) seen c.enter-came.ensures.came

pub returns-clause-history : goal.returns-clause-history
returns-clause-history g c =
    let log = c.args.self.now.keeper.log in
    let u : Passing = record { pid = c.pass.inside.pid; seen = seen_of c.pass.inside.badge.views } in
    let later = subst (λ (x : Passing). Later x.pid x.seen log) c.lent.ensures c.take_in.ensures.later in
    let on = acted_here g.J.Naming.launch c.requires.recorded.bounded.begins u c.args.pass.now c.args.tid log c.take_in.new.self.log c.pass.view_is
    (ap (λ k. k.log) c.take_in.ensures.keeper) c.requires.recorded.legal c.pass.invariant.seen later
    c.enter-came.new.self.keeper.log c.args.body.now c.args.what c.enter-came.new.body c.enter-came.result c.enter-came.ensures.came in
    subst (λ (h : List Entry). IsActedOn g.J.Naming.launch log c.args.pass.now.pid c.args.tid c.args.body.now c.args.what c.enter-came.new.body h c.enter-came.result)
    (sym (ap (λ k. k.log) c.hand_out.ensures.keeper)) on

pub returns-clause-seen : goal.returns-clause-seen
returns-clause-seen g c = ap (λ v. v.seen) (c.drop.view_is ∙ c.hand_out.ensures.pass) ∙ sym (ap (λ k. k.log) c.hand_out.ensures.keeper)
