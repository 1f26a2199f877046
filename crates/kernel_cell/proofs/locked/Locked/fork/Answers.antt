use Rattle.std.proofs.Common.{List, sym, ap, subst, ◌∙◌}
use Rattle.run_types.specs.declared.history.Entry.{Entry}
use Rattle.shared_history.specs.Passes.{IsSeen, Later, Passing, seen_of}
use Rattle.kernel_cell.specs.Acting.{HasForked, HasSeen, IsForkedOn, by_number}
use Rattle.kernel_cell.specs.Recorded.{IsRecorded}
use Rattle.kernel_cell.specs.declared.results.Asked.TheVariants as asked
use Rattle.kernel_cell.proofs.PassOutcomes.{asks_call_here, first_held, fork_hands, fork_seen, held_then, is_seen, none_behind, seen_here}
use Rattle.kernel_cell.proofs.locked.Locked.fork.Goals as goal

pub make_child-forked-requires-clause-recorded : goal.make_child-forked-requires-clause-recorded
make_child-forked-requires-clause-recorded g c =
    let self = c.args.self.now in
    subst (λ h. IsRecorded g.J.Naming.launch g.J.Naming.keeps_all h self.kernel self.constants self.kept) (sym (ap (λ k. k.log) c.take_in.ensures.keeper))
    c.requires.recorded

pub make_child-forked-requires-clause-asks : goal.make_child-forked-requires-clause-asks
make_child-forked-requires-clause-asks g c =
    let log = c.args.self.now.keeper.log in
    let u : Passing = record { pid = c.pass.inside.pid; seen = seen_of c.pass.inside.badge.views } in
    let later = subst (λ (x : Passing). Later x.pid x.seen log) c.lent.ensures c.take_in.ensures.later in
    asks_call_here g.J.Naming.launch c.requires.recorded.bounded.begins u c.args.pass.now c.args.tid log c.take_in.new.self.log c.pass.view_is
    (ap (λ k. k.log) c.take_in.ensures.keeper) c.requires.recorded.legal c.pass.invariant.seen later
    c.args.body.now.turns c.args.body.now.guest c.args.call c.requires.asks

pub with_pass-child-requires : goal.with_pass-child-requires
with_pass-child-requires g c =
    fork_hands g.J.Naming.launch c.take_in.new.self.log c.make_child-forked.new.self.keeper.log c.pass.inside.pid c.args.tid c.args.body.now c.args.call
    c.make_child-forked.new.body c.make_child-forked.new.self.keeper.held c.make_child-forked.result c.make_child-forked.ensures.forked
    c.make_child-forked.ensures.held

pub hand_out-requires-clause-first : goal.hand_out-requires-clause-first
hand_out-requires-clause-first g c =
    first_held c.with_pass-child.new.keeper.held c.pass.inside.pid
    (ap (λ k. k.held) c.with_pass-child.ensures.keeper
    ∙ held_then c.make_child-forked.new.self.keeper.held c.pass.inside.pid c.make_child-forked.result c.make_child-forked.ensures.held)

pub hand_out-requires-clause-apart : goal.hand_out-requires-clause-apart
hand_out-requires-clause-apart g c =
    none_behind c.with_pass-child.new.keeper.held c.pass.inside.pid
    (ap (λ k. k.held) c.with_pass-child.ensures.keeper
    ∙ held_then c.make_child-forked.new.self.keeper.held c.pass.inside.pid c.make_child-forked.result c.make_child-forked.ensures.held)

pub hand_out-requires-clause-seen : goal.hand_out-requires-clause-seen
hand_out-requires-clause-seen g c =
    let log = c.args.self.now.keeper.log in
    let u : Passing = record { pid = c.pass.inside.pid; seen = seen_of c.pass.inside.badge.views } in
    let later = subst (λ (x : Passing). Later x.pid x.seen log) c.lent.ensures c.take_in.ensures.later in
    subst (IsSeen g.J.Naming.launch c.pass.inside.pid) (sym (ap (λ k. k.log) c.with_pass-child.ensures.keeper))
    (is_seen g.J.Naming.launch c.requires.recorded.bounded.begins u c.args.pass.now c.args.tid log c.take_in.new.self.log c.pass.view_is
    (ap (λ k. k.log) c.take_in.ensures.keeper) c.requires.recorded.legal c.pass.invariant.seen later
    c.make_child-forked.new.self.keeper.log c.args.body.now.turns (asked.Calls c.args.call)
    (HasForked g.J.Naming.launch c.take_in.new.self.log u.pid c.args.tid c.make_child-forked.new.self.keeper.log c.make_child-forked.new.body.guest)
    c.make_child-forked.result c.make_child-forked.ensures.recorded.legal c.make_child-forked.ensures.forked.came)

pub returns-clause-recorded : goal.returns-clause-recorded
returns-clause-recorded g c =
    let it = c.make_child-forked.new.self in
    subst (λ (h : List Entry). IsRecorded g.J.Naming.launch g.J.Naming.keeps_all h it.kernel it.constants it.kept)
    (sym (ap (λ k. k.log) c.hand_out.ensures.keeper ∙ ap (λ k. k.log) c.with_pass-child.ensures.keeper)) c.make_child-forked.ensures.recorded

pub returns-clause-pass : goal.returns-clause-pass
returns-clause-pass g c =
    let log = c.args.self.now.keeper.log in
    let u : Passing = record { pid = c.pass.inside.pid; seen = seen_of c.pass.inside.badge.views } in
    let later = subst (λ (x : Passing). Later x.pid x.seen log) c.lent.ensures c.take_in.ensures.later in
    let after = c.make_child-forked.new.self.keeper.log in
    let seen = is_seen g.J.Naming.launch c.requires.recorded.bounded.begins u c.args.pass.now c.args.tid log c.take_in.new.self.log c.pass.view_is
    (ap (λ k. k.log) c.take_in.ensures.keeper) c.requires.recorded.legal c.pass.invariant.seen later
    after c.args.body.now.turns (asked.Calls c.args.call)
    (HasForked g.J.Naming.launch c.take_in.new.self.log u.pid c.args.tid after c.make_child-forked.new.body.guest)
    c.make_child-forked.result c.make_child-forked.ensures.recorded.legal c.make_child-forked.ensures.forked.came in
    seen_here g.J.Naming.launch c.requires.recorded.bounded.begins u c.args.pass.now c.args.tid log c.take_in.new.self.log c.pass.view_is
    (ap (λ k. k.log) c.take_in.ensures.keeper) c.requires.recorded.legal c.pass.invariant.seen later
    (record { pid = c.drop.inside.pid; seen = seen_of c.drop.inside.badge.views }) after
    (λ (x : Passing) (before then : List Entry). IsForkedOn g.J.Naming.launch before x.pid c.args.tid c.args.body.now c.args.call c.make_child-forked.new.body then
    (by_number c.with_pass-child.result) × HasSeen then c.with_pass-child.result)
    (c.drop.view_is ∙ c.hand_out.ensures.pass ∙ ap (λ k. record { pid = c.pass.inside.pid; seen = k.log }) c.with_pass-child.ensures.keeper) seen
    (fork_seen g.J.Naming.launch c.take_in.new.self.log after c.pass.inside.pid c.args.tid c.args.body.now c.args.call c.make_child-forked.new.body
    c.make_child-forked.result c.with_pass-child.result c.make_child-forked.ensures.forked c.with_pass-child.ensures.pass)

pub returns-clause-seen : goal.returns-clause-seen
returns-clause-seen g c = ap (λ v. v.seen) (c.drop.view_is ∙ c.hand_out.ensures.pass) ∙ sym (ap (λ k. k.log) c.hand_out.ensures.keeper)
