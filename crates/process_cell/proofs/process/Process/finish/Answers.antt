use Rattle.std.proofs.Common.{refl, sym, subst}
use Rattle.kernel_cell.specs.declared.results.After.{After}
use Rattle.kernel_cell.specs.declared.results.Asked.TheVariants as asked
use Rattle.kernel_cell.specs.declared.results.Came.{Came}
use Rattle.kernel_cell.specs.declared.results.Doing.TheVariants as doing
use Rattle.process_cell.specs.Process.{standing_of}
use Rattle.process_cell.specs.Steps.{IsAsked}
use Rattle.process_cell.proofs.Outcomes.{asked_tells, plain_wake}
use Rattle.process_cell.proofs.Ties.{asks_wake, between, does, has_place, phase_is, tied_came}
use Rattle.process_cell.proofs.process.Process.finish.Goals as goal

pub act-came-requires : goal.act-came-requires
act-came-requires g c =
    let v = c.self.inside in
    asks_wake g.J.Naming.launch v.pass c.args.tid v.body v.phase c.args.self.now c.self.invariant.1 c.self.view_is c.requires

pub settle-self-inside-requires : goal.settle-self-inside-requires
settle-self-inside-requires g c =
    let v = c.self.inside in
    let tied = between g.J.Naming.launch v.pass c.args.tid v.body v.phase c.args.self.now c.self.invariant.1 c.self.view_is c.requires.0 in
    let waits = does g.J.Naming.launch v.pass c.args.tid v.body v.phase c.args.self.now c.self.invariant.1 c.self.view_is doing.Waits c.requires.1 in
    has_place g.J.Naming.launch c.self.invariant.0 v.pass c.act-came.new.pass c.args.tid v.body c.act-came.new.body tied.0 asked.Wakes doing.Waits
    c.act-came.result c.act-came.ensures.acted waits

pub invariant_of-self : goal.invariant_of-self
invariant_of-self g c =
    let v = c.self.inside in
    let tied = between g.J.Naming.launch v.pass c.args.tid v.body v.phase c.args.self.now c.self.invariant.1 c.self.view_is c.requires.0 in (
      c.self.invariant.0,
      tied_came g.J.Naming.launch c.self.invariant.0 v.pass c.act-came.new.pass c.args.tid v.body c.act-came.new.body tied.0 asked.Wakes c.act-came.result
          c.settle-self-inside.new.threads c.settle-self-inside.result c.act-came.ensures.acted tied.1 c.settle-self-inside.ensures.threads
          c.settle-self-inside.ensures.phase,
    )

pub returns-clause-finished : goal.returns-clause-finished
returns-clause-finished g c =
    let v = c.self.inside in
    let tied = between g.J.Naming.launch v.pass c.args.tid v.body v.phase c.args.self.now c.self.invariant.1 c.self.view_is c.requires.0 in
    let waits = does g.J.Naming.launch v.pass c.args.tid v.body v.phase c.args.self.now c.self.invariant.1 c.self.view_is doing.Waits c.requires.1 in
    subst (λ (result : Came After). IsAsked g.J.Naming.launch c.args.tid asked.Wakes c.args.self.now
    (standing_of c.act-came.new.pass (record c.act-came.new.body { threads = c.settle-self-inside.new.threads }) c.settle-self-inside.result) result
    c.answered.result.gives_way) (sym c.answered.ensures.came)
    (asked_tells g.J.Naming.launch c.self.invariant.0 v.pass c.act-came.new.pass c.args.tid v.body c.act-came.new.body v.phase tied.0 asked.Wakes
    c.act-came.result c.answered.result.gives_way c.settle-self-inside.new.threads c.settle-self-inside.result c.args.self.now waits
    (λ _. phase_is g.J.Naming.launch v.pass c.args.tid v.body v.phase c.args.self.now c.self.invariant.1 c.self.view_is c.requires.0) plain_wake
    (c.answered.ensures.gives refl) c.act-came.ensures.acted c.settle-self-inside.ensures.threads c.settle-self-inside.ensures.phase c.self.view_is)
