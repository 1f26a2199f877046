use Rattle.std.proofs.Common.{sym, ap, subst, ◌∙◌}
use Rattle.run_model.specs.World.{Guest}
use Rattle.kernel_cell.specs.declared.results.After.{After}
use Rattle.kernel_cell.specs.declared.results.Asked.TheVariants as asked
use Rattle.kernel_cell.specs.declared.results.Came.{Came}
use Rattle.kernel_cell.specs.declared.results.Doing.TheVariants as doing
use Rattle.process_cell.specs.Process.{standing_of}
use Rattle.process_cell.specs.Standing.{Standing}
use Rattle.process_cell.specs.Steps.{IsAsked}
use Rattle.process_cell.proofs.Outcomes.{asked_tells, plain_end}
use Rattle.process_cell.proofs.Ties.{asks_end, due_runs, due_stands, has_place, tied_came}
use Rattle.process_cell.proofs.process.Process.end.Goals as goal

pub act-came-requires : goal.act-came-requires
act-came-requires g c =
    let v = c.self.inside in
    asks_end g.J.Naming.launch v.pass c.args.tid v.body v.phase c.args.self.now c.self.invariant.1 c.self.view_is c.args.how c.requires

pub settle-self-inside-requires : goal.settle-self-inside-requires
settle-self-inside-requires g c =
    let v = c.self.inside in
    let stands = due_stands g.J.Naming.launch v.pass c.args.tid v.body v.phase c.args.self.now c.self.invariant.1 c.self.view_is c.args.how c.requires in
    let runs = due_runs g.J.Naming.launch v.pass c.args.tid v.body v.phase c.args.self.now c.self.invariant.1 c.self.view_is c.args.how c.requires in
    has_place g.J.Naming.launch c.self.invariant.0 v.pass c.act-came.new.pass c.args.tid v.body c.act-came.new.body stands (asked.Ends c.args.how) doing.Runs
    c.act-came.result c.act-came.ensures.acted runs

pub invariant_of-self : goal.invariant_of-self
invariant_of-self g c =
    let v = c.self.inside in
    let stands = due_stands g.J.Naming.launch v.pass c.args.tid v.body v.phase c.args.self.now c.self.invariant.1 c.self.view_is c.args.how c.requires in (
      c.self.invariant.0,
      tied_came g.J.Naming.launch c.self.invariant.0 v.pass c.act-came.new.pass c.args.tid v.body c.act-came.new.body stands (asked.Ends c.args.how)
          c.act-came.result c.settle-self-inside.new.threads c.settle-self-inside.result c.act-came.ensures.acted tt
          c.settle-self-inside.ensures.threads c.settle-self-inside.ensures.phase,
    )

pub returns-clause-left : goal.returns-clause-left
returns-clause-left g c =
    ap (λ (guest : Guest). guest.left) c.act-came.ensures.acted.happens.unanswered ∙ ap (λ (s : Standing). s.left) c.self.view_is

pub returns-clause-ended : goal.returns-clause-ended
returns-clause-ended g c =
    let v = c.self.inside in
    let stands = due_stands g.J.Naming.launch v.pass c.args.tid v.body v.phase c.args.self.now c.self.invariant.1 c.self.view_is c.args.how c.requires in
    let runs = due_runs g.J.Naming.launch v.pass c.args.tid v.body v.phase c.args.self.now c.self.invariant.1 c.self.view_is c.args.how c.requires in
    subst (λ (result : Came After). IsAsked g.J.Naming.launch c.args.tid (asked.Ends c.args.how) c.args.self.now
    (standing_of c.act-came.new.pass (record c.act-came.new.body { threads = c.settle-self-inside.new.threads }) c.settle-self-inside.result) result
    c.answered.result.gives_way) (sym c.answered.ensures.came)
    (asked_tells g.J.Naming.launch c.self.invariant.0 v.pass c.act-came.new.pass c.args.tid v.body c.act-came.new.body v.phase stands (asked.Ends c.args.how)
    c.act-came.result c.answered.result.gives_way c.settle-self-inside.new.threads c.settle-self-inside.result c.args.self.now runs (λ wakes. absurd wakes)
    (plain_end c.args.how) tt c.act-came.ensures.acted c.settle-self-inside.ensures.threads c.settle-self-inside.ensures.phase c.self.view_is)
