-- Memory ran out in a call.
use Rattle.std.proofs.Common.{◌≡◌, true, Result, Ok, Err, IsErr, refl}
use Rattle.std.specs.declared.alloc.AllocError.{AllocError}
use Rattle.abi_types.specs.declared.reply.Answer.{Answer}
use Rattle.abi_types.specs.declared.reply.Reply.{Reply}
use Rattle.object_store.specs.Objects.{Held}
use Rattle.kernel_model.specs.Outcome.{Outcome, IsSuccess}
use Rattle.kernel_model.specs.State.{ProcessState, Table}
use Rattle.kernel_model.proofs.Tests.{not_true}
use Rattle.kernel_parts.specs.Changes.{IsChangeDone}
use Rattle.kernel_parts.specs.OwnCalls.{IsOwnDone}

pub change_lacked : (o : Outcome) (table after : Table) (held left : Held) (r : Result Reply AllocError) → IsErr r → IsSuccess o.answer → after ≡ table
    → left ≡ held → IsChangeDone true o table after held left r
change_lacked o table after held left (Ok reply) failed succeeds same stays = absurd (not_true failed)
change_lacked o table after held left (Err e) failed succeeds same stays = (refl, succeeds, same, stays)

pub own_lacked : (o : Outcome) (own new : ProcessState) (r : Result Answer AllocError) → IsErr r → IsSuccess o.answer → new ≡ own → IsOwnDone o own new r
own_lacked o own new (Ok given) failed succeeds stays = absurd (not_true failed)
own_lacked o own new (Err e) failed succeeds stays = (succeeds, stays)
