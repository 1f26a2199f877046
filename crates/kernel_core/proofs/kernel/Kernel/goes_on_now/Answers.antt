use Rattle.std.proofs.Common.{◌≡◌, ◌<◌, ◌^◌, sym, ap, subst, ◌∙◌}
use Rattle.std.specs.FinMap.{get}
use Rattle.kernel_model.specs.State.{State}
use Rattle.kernel_model.specs.Waits.{HasDeadlines}
use Rattle.kernel_model.specs.Wakes.{is_ready}
use Rattle.wait_set.specs.Waits.{mark_of}
use Rattle.kernel_core.specs.contracts.kernel.Kernel.{the_view}
use Rattle.kernel_invariant.proofs.HeldTests.{marked_is}
use Rattle.kernel_core.proofs.kernel.Kernel.goes_on_now.Goals as goal

pub returns-in-Some : goal.returns-in-Some
returns-in-Some c =
    let fits : c.args.tid < 2 ^ 32 = search in
    let constants = c.args.constants.now in
    sym (subst (λ (S : State). is_ready constants S c.args.pid c.args.tid ≡ c.in-Some.ready) c.self.view_is
    (marked_is constants (the_view c.self.inside) c.self.inside.waits c.self.invariant.waits (subst (HasDeadlines constants) (sym c.self.view_is) c.requires.deadlines)
    c.args.pid c.args.tid fits c.in-Some.ready (sym (c.in-Some.ensures ∙ ap (λ k. mark_of (get c.self.inside.waits k)) c.thread_key.ensures))))
