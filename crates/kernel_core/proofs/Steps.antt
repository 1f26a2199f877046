-- What follows for a step's answer and state from the laws of the kernel's model.
use Rattle.std.proofs.Common.{◌≡◌, ◌≢◌, subst}
use Rattle.abi_types.specs.declared.reply.Answer.{Answer}
use Rattle.abi_types.specs.declared.reply.Answer.TheVariants as answer
use Rattle.abi_types.specs.declared.call.Call.{Call}
use Rattle.abi_types.specs.declared.reply.Reply.{Reply}
use Rattle.abi_types.specs.declared.constants.Constants.{Constants}
use Rattle.abi_types.specs.declared.who.Who.{Who}
use Rattle.abi_base.specs.declared.errno.Errno.TheVariants.{Success}
use Rattle.kernel_model.specs.State.{State}
use Rattle.kernel_model.specs.Step.{failed, IsStep}
use Rattle.kernel_model.specs.Valid.{IsValid}
use Rattle.kernel_model.proofs.Refusals.{error_keeps}

-- a call that answers an error changes only the clock
pub step_refused : (constants : Constants) (S T : State) (who : Who) (call : Call) (given : Answer) (reply : Reply) → IsValid S
    → IsStep constants S who call given T → given ≡ answer.Reply reply → reply.errno ≢ Success → T ≡ failed S who
step_refused constants S T who call given reply v step is fails =
    error_keeps constants S who call reply T (subst (λ (a : Answer). IsStep constants S who call a T) is step) v fails
