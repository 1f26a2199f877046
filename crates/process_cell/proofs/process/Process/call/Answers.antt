use Rattle.std.proofs.Common.{inl, refl, sym, ap, subst, ◌∙◌}
use Rattle.call_codec.specs.Arguments.{args_of}
use Rattle.run_model.specs.World.{registers_of}
use Rattle.kernel_cell.specs.declared.results.After.{After}
use Rattle.kernel_cell.specs.declared.results.Asked.TheVariants as asked
use Rattle.kernel_cell.specs.declared.results.Came.{Came}
use Rattle.kernel_cell.specs.declared.results.Doing.TheVariants as doing
use Rattle.process_cell.specs.Process.{standing_of}
use Rattle.process_cell.specs.Standing.{Standing}
use Rattle.process_cell.specs.Steps.{IsAsked, IsCalled}
use Rattle.process_cell.specs.declared.results.Phase.TheVariants as phase
use Rattle.process_cell.proofs.Outcomes.{asked_tells, plain_call}
use Rattle.process_cell.proofs.Ties.{asks_call, calls_there, has_place, has_registers, no_fork, tied_came, tied_forks}
use Rattle.process_cell.proofs.process.Process.call.Goals as goal

pub call-requires : goal.call-requires
call-requires g c =
    let v = c.self.inside in
    record { thread = has_registers g.J.Naming.launch v.pass c.args.tid v.body v.phase c.args.self.now c.self.invariant.1 c.self.view_is c.requires }

pub returns-in_default-clause-called : goal.returns-in_default-clause-called
returns-in_default-clause-called g c =
    let v = c.self.inside in
    subst (λ (result : Came After). IsCalled g.J.Naming.launch c.args.tid c.args.self.now (standing_of v.pass v.body phase.Lost) result c.unasked.result.gives_way)
    (sym c.unasked.ensures.came)
    (inl (args_of v.body.guest.memory (registers_of v.body.guest c.args.tid) v.body.guest.left, (refl, ap (λ (s : Standing). s.own) c.self.view_is)))

pub invariant_of-self-in-ProcFork : goal.invariant_of-self-in-ProcFork
invariant_of-self-in-ProcFork g c =
    let v = c.self.inside in (
      c.self.invariant.0,
      tied_forks g.J.Naming.launch v.pass c.args.tid v.body c.in-Ok.call _ _
          (calls_there g.J.Naming.launch v.pass c.args.tid v.body v.phase c.args.self.now c.self.invariant.1 c.self.view_is c.requires)
          c.in-Ok.ensures.ok c.in-ProcFork.is refl,
    )

pub act-came-requires : goal.act-came-requires
act-came-requires g c =
    let v = c.self.inside in
    asks_call g.J.Naming.launch v.pass c.args.tid v.body c.in-Ok.call
    (calls_there g.J.Naming.launch v.pass c.args.tid v.body v.phase c.args.self.now c.self.invariant.1 c.self.view_is c.requires) c.in-Ok.ensures.ok
    c.in_default-call.not-ProcFork

pub settle-self-inside-requires : goal.settle-self-inside-requires
settle-self-inside-requires g c =
    let v = c.self.inside in
    let tied = calls_there g.J.Naming.launch v.pass c.args.tid v.body v.phase c.args.self.now c.self.invariant.1 c.self.view_is c.requires in
    has_place g.J.Naming.launch c.self.invariant.0 v.pass c.act-came.new.pass c.args.tid v.body c.act-came.new.body tied.0 (asked.Calls c.in-Ok.call)
    doing.Runs c.act-came.result c.act-came.ensures.acted tied.1

pub invariant_of-self-2 : goal.invariant_of-self-2
invariant_of-self-2 g c =
    let v = c.self.inside in
    let tied = calls_there g.J.Naming.launch v.pass c.args.tid v.body v.phase c.args.self.now c.self.invariant.1 c.self.view_is c.requires in (
      c.self.invariant.0,
      tied_came g.J.Naming.launch c.self.invariant.0 v.pass c.act-came.new.pass c.args.tid v.body c.act-came.new.body tied.0 (asked.Calls c.in-Ok.call)
          c.act-came.result c.settle-self-inside.new.threads c.settle-self-inside.result c.act-came.ensures.acted tt
          c.settle-self-inside.ensures.threads c.settle-self-inside.ensures.phase,
    )

pub returns-clause-called : goal.returns-clause-called
returns-clause-called g c =
    let v = c.self.inside in
    let tied = calls_there g.J.Naming.launch v.pass c.args.tid v.body v.phase c.args.self.now c.self.invariant.1 c.self.view_is c.requires in
    inl (
      c.in-Ok.call,
      subst (λ (result : Came After). IsAsked g.J.Naming.launch c.args.tid (asked.Calls c.in-Ok.call) c.args.self.now
          (standing_of c.act-came.new.pass (record c.act-came.new.body { threads = c.settle-self-inside.new.threads }) c.settle-self-inside.result) result
          c.answered.result.gives_way) (sym c.answered.ensures.came)
          (asked_tells g.J.Naming.launch c.self.invariant.0 v.pass c.act-came.new.pass c.args.tid v.body c.act-came.new.body v.phase tied.0 (asked.Calls c.in-Ok.call)
          c.act-came.result c.answered.result.gives_way c.settle-self-inside.new.threads c.settle-self-inside.result c.args.self.now tied.1 (λ wakes. absurd wakes)
          (plain_call c.in-Ok.call (no_fork c.in-Ok.call c.in_default-call.not-ProcFork)) (λ is. c.answered.ensures.gives (c.gives_way-yields.ensures ∙ is))
          c.act-came.ensures.acted c.settle-self-inside.ensures.threads c.settle-self-inside.ensures.phase c.self.view_is),
    )
