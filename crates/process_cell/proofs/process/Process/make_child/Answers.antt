use Rattle.std.proofs.Common.{ℕ, None, Some, ap, refl, sym, subst, ◌∙◌}
use Rattle.abi_types.specs.declared.call.Call.TheVariants.{ProcFork}
use Rattle.kernel_cell.specs.Acting.{IsForked}
use Rattle.kernel_cell.specs.declared.results.After.{After}
use Rattle.kernel_cell.specs.declared.results.Asked.TheVariants as asked
use Rattle.kernel_cell.specs.declared.results.Came.{Came}
use Rattle.kernel_cell.specs.declared.results.Doing.TheVariants as doing
use Rattle.process_cell.specs.Process.{standing_of}
use Rattle.process_cell.specs.Standing.{Standing}
use Rattle.process_cell.specs.Steps as Steps
use Rattle.process_cell.specs.declared.results.Phase.TheVariants as phase
use Rattle.process_cell.proofs.Outcomes.{born_none, born_some, child_tells, none_tells}
use Rattle.process_cell.proofs.Ties.{asks_fork, fork_is_acted, forks_there, has_place, tied_child, tied_came}
use Rattle.process_cell.proofs.process.Process.make_child.Goals as goal

pub fork-forked-requires-clause-asks : goal.fork-forked-requires-clause-asks
fork-forked-requires-clause-asks g c =
    let v = c.self.inside in
    asks_fork g.J.Naming.launch v.pass c.args.tid v.body c.left-left.result (c.left-left.ensures ∙ sym (ap (λ (s : Standing). s.left) c.self.view_is))
    (forks_there g.J.Naming.launch v.pass c.args.tid v.body v.phase c.args.self.now c.self.invariant.1 c.self.view_is c.requires)

pub settle-self-inside-requires : goal.settle-self-inside-requires
settle-self-inside-requires g c =
    let v = c.self.inside in
    let tied = forks_there g.J.Naming.launch v.pass c.args.tid v.body v.phase c.args.self.now c.self.invariant.1 c.self.view_is c.requires in
    has_place g.J.Naming.launch c.self.invariant.0 v.pass c.fork-forked.new.pass c.args.tid v.body c.fork-forked.new.body tied.0
    (asked.Calls (ProcFork c.left-left.result)) doing.Runs c.going_on-came.result
    (fork_is_acted g.J.Naming.launch v.pass c.fork-forked.new.pass c.args.tid v.body (ProcFork c.left-left.result) c.fork-forked.new.body c.fork-forked.result
    c.going_on-came.result c.fork-forked.ensures.forked c.going_on-came.ensures) tied.1

pub invariant_of-self-2 : goal.invariant_of-self-2
invariant_of-self-2 g c =
    let v = c.self.inside in
    let tied = forks_there g.J.Naming.launch v.pass c.args.tid v.body v.phase c.args.self.now c.self.invariant.1 c.self.view_is c.requires in (
      c.self.invariant.0,
      tied_came g.J.Naming.launch c.self.invariant.0 v.pass c.fork-forked.new.pass c.args.tid v.body c.fork-forked.new.body tied.0
          (asked.Calls (ProcFork c.left-left.result)) c.going_on-came.result c.settle-self-inside.new.threads c.settle-self-inside.result
          (fork_is_acted g.J.Naming.launch v.pass c.fork-forked.new.pass c.args.tid v.body (ProcFork c.left-left.result) c.fork-forked.new.body
          c.fork-forked.result c.going_on-came.result c.fork-forked.ensures.forked c.going_on-came.ensures) tt
          c.settle-self-inside.ensures.threads c.settle-self-inside.ensures.phase,
    )

pub invariant_of-self-in_default-born : goal.invariant_of-self-in_default-born
invariant_of-self-in_default-born g c =
    let v = c.self.inside in
    let tied = forks_there g.J.Naming.launch v.pass c.args.tid v.body v.phase c.args.self.now c.self.invariant.1 c.self.view_is c.requires in (
      c.self.invariant.0,
      tied_came g.J.Naming.launch c.self.invariant.0 v.pass c.fork-forked.new.pass c.args.tid v.body c.fork-forked.new.body tied.0
          (asked.Calls (ProcFork c.left-left.result)) c.going_on-came.result c.settle-self-inside.new.threads c.settle-self-inside.result
          (fork_is_acted g.J.Naming.launch v.pass c.fork-forked.new.pass c.args.tid v.body (ProcFork c.left-left.result) c.fork-forked.new.body
          c.fork-forked.result c.going_on-came.result c.fork-forked.ensures.forked c.going_on-came.ensures) tt
          c.settle-self-inside.ensures.threads c.settle-self-inside.ensures.phase,
    )

pub invariant_of-child : goal.invariant_of-child
invariant_of-child g c =
    let v = c.self.inside in
    let made = born_some c.fork-forked.result (c.in-Some-born.pass, c.in-Some-born.guest) (sym c.born.ensures ∙ c.in-Some-born.is) in
    let told = subst (IsForked g.J.Naming.launch v.pass c.args.tid v.body (ProcFork c.left-left.result) c.fork-forked.new.body c.fork-forked.new.pass) made
    c.fork-forked.ensures.forked in (
      c.self.invariant.0,
      tied_child g.J.Naming.launch c.self.invariant.0 c.in-Some-born.pass c.args.tid c.fork-forked.new.pass.seen c.in-Some.threads c.new.result
          c.in-Some-born.guest told.happens.1 told.happens.0.came.1.3 c.in-Some.ensures c.new.ensures,
    )

pub returns-in_default-clause-forked : goal.returns-in_default-clause-forked
returns-in_default-clause-forked g c =
    let v = c.self.inside in
    subst (λ (result : Came After). Steps.IsForked c.args.tid c.args.self.now (standing_of v.pass v.body phase.Lost) result c.unasked.result.gives_way None)
    (sym c.unasked.ensures.came) (refl, ap (λ (s : Standing). s.own) c.self.view_is)

pub returns-in_default-born-clause-forked : goal.returns-in_default-born-clause-forked
returns-in_default-born-clause-forked g c =
    let v = c.self.inside in
    let tied = forks_there g.J.Naming.launch v.pass c.args.tid v.body v.phase c.args.self.now c.self.invariant.1 c.self.view_is c.requires in
    let told = subst (λ (left : ℕ). IsForked g.J.Naming.launch v.pass c.args.tid v.body (ProcFork left) c.fork-forked.new.body c.fork-forked.new.pass c.fork-forked.result)
    (c.left-left.ensures ∙ sym (ap (λ (s : Standing). s.left) c.self.view_is)) c.fork-forked.ensures.forked in
    subst (λ (result : Came After). Steps.IsForked c.args.tid c.args.self.now
    (standing_of c.fork-forked.new.pass (record c.fork-forked.new.body { threads = c.settle-self-inside.new.threads }) c.settle-self-inside.result) result
    c.answered.result.gives_way None) (sym c.answered.ensures.came)
    (none_tells g.J.Naming.launch c.self.invariant.0 v.pass c.fork-forked.new.pass c.args.tid v.body c.fork-forked.new.body v.phase tied.0 tied.1
    c.settle-self-inside.new.threads c.settle-self-inside.result c.args.self.now c.going_on-came.result c.fork-forked.result told c.going_on-came.ensures
    c.settle-self-inside.ensures.threads c.settle-self-inside.ensures.phase c.self.view_is c.answered.result.gives_way
    (born_none c.fork-forked.result (sym c.born.ensures ∙ c.in_default-born.is)))

pub returns-clause-forked : goal.returns-clause-forked
returns-clause-forked g c =
    let v = c.self.inside in
    let tied = forks_there g.J.Naming.launch v.pass c.args.tid v.body v.phase c.args.self.now c.self.invariant.1 c.self.view_is c.requires in
    let told = subst (λ (left : ℕ). IsForked g.J.Naming.launch v.pass c.args.tid v.body (ProcFork left) c.fork-forked.new.body c.fork-forked.new.pass c.fork-forked.result)
    (c.left-left.ensures ∙ sym (ap (λ (s : Standing). s.left) c.self.view_is)) c.fork-forked.ensures.forked in
    subst (λ (result : Came After). Steps.IsForked c.args.tid c.args.self.now
    (standing_of c.fork-forked.new.pass (record c.fork-forked.new.body { threads = c.settle-self-inside.new.threads }) c.settle-self-inside.result) result
    c.answered-2.result.gives_way
    (Some (standing_of c.in-Some-born.pass (record { guest = c.in-Some-born.guest; threads = c.in-Some.threads; turns = c.new.result }) phase.Lives)))
    (sym c.answered-2.ensures.came)
    (child_tells g.J.Naming.launch c.self.invariant.0 v.pass c.fork-forked.new.pass c.args.tid v.body c.fork-forked.new.body v.phase tied.0 tied.1
    c.settle-self-inside.new.threads c.settle-self-inside.result c.args.self.now c.going_on-came.result c.fork-forked.result told c.going_on-came.ensures
    c.settle-self-inside.ensures.threads c.settle-self-inside.ensures.phase c.self.view_is c.in-Some-born.pass c.in-Some-born.guest c.in-Some.threads
    c.new.result c.answered-2.result.gives_way
    (born_some c.fork-forked.result (c.in-Some-born.pass, c.in-Some-born.guest) (sym c.born.ensures ∙ c.in-Some-born.is)) c.in-Some.ensures c.new.ensures
    (c.answered-2.ensures.gives refl))
