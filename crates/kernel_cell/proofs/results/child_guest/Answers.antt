use Rattle.std.proofs.Common.{◌≡◌, ℕ, None, refl, ap, subst}
use Rattle.abi_types.specs.declared.call.Call.TheVariants.{ProcFork}
use Rattle.abi_types.specs.declared.constants.Constants.{Constants}
use Rattle.abi_types.specs.declared.reply.Answer.{Answer}
use Rattle.kernel_core.specs.Waiting.{caller}
use Rattle.kernel_model.specs.State.{State}
use Rattle.kernel_model.specs.Step.{IsStep}
use Rattle.kernel_model.specs.Threads.{child_told}
use Rattle.run_model.specs.World.{Guest}
use Rattle.kernel_cell.proofs.results.child_guest.Goals as goal

pub returns-then-not-may_fork-clause-none : goal.returns-then-not-may_fork-clause-none
returns-then-not-may_fork-clause-none c = λ none.
    subst
    (λ (left : ℕ). (constants : Constants) (given : Answer) (after : State) → IsStep constants c.args.kernel.now (caller c.args.kernel.now c.args.pid c.args.tid) (ProcFork left) given after
    → child_told (ProcFork left) given ≡ None)
    (ap (λ (g : Guest). g.left) c.guest.view_is) (c.if-not-may_fork.ensures.none refl)
