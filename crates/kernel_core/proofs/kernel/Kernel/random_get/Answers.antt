use Rattle.std.proofs.Common.{refl, sym, ◌∙◌}
use Rattle.std.specs.FinMap.{insert}
use Rattle.kernel_model.specs.Families.ClockCalls.{drawn_by}
use Rattle.kernel_model.specs.State.{ProcessState}
use Rattle.kernel_core.specs.contracts.kernel.Kernel.{the_view}
use Rattle.kernel_invariant.proofs.HeldNew.{same_threads_are_held}
use Rattle.kernel_invariant.proofs.HeldSame.{drawn_left}
use Rattle.kernel_core.proofs.OwnCalls.{drawn_only, own_call, own_call_done, own_call_kept, IsOwnCall}
use Rattle.kernel_core.proofs.kernel.Kernel.random_get.Goals as goal
use Rattle.kernel_core.proofs.kernel.Kernel.random_get.Goals.{After-draw}

call : (c : After-draw) → IsOwnCall (the_view c.self.inside) c.args.self.now
    (record (the_view c.self.inside) { processes = insert c.self.inside.processes c.from.result c.draw.new.self })
    c.args.pid c.get_mut-own.result.now c.draw.new.self (λ own. drawn_by c.args.constants.now c.args.pid own c.args.length)
call c =
    own_call (the_view c.self.inside) c.args.self.now _ c.args.pid c.from.result c.get_mut-own.result.now c.draw.new.self _ (c.from.ensures ∙ c.pid.view_is)
    c.self.view_is c.get_mut-own.ensures.value refl (drawn_only c.args.constants.now c.args.pid c.get_mut-own.result.now c.args.length)

pub invariant_of-self : goal.invariant_of-self
invariant_of-self d = record {
  kept =
      let c = (goal.at.invariant_of-self d).After-draw in
      own_call_kept (call c) c.draw.result c.self.inside.objects.counts c.draw.ensures c.self.invariant.kept;
  waits =
      let c = (goal.at.invariant_of-self d).After-draw in
      let own : ProcessState = c.get_mut-own.result.now in
      same_threads_are_held (the_view c.self.inside) c.from.result own c.draw.new.self c.self.inside.waits
      (sym c.get_mut-own.ensures.value) (drawn_left c.args.constants.now c.args.pid own c.draw.new.self c.args.length c.draw.result c.draw.ensures) c.self.invariant.waits;
}

pub returns : goal.returns
returns d =
    let c = (goal.at.returns d).After-draw in
    own_call_done (call c) c.draw.result c.draw.ensures c.self.invariant.kept.valid
