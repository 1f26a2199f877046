-- What follows where there is an error.
--     on_err      of what is so there
--     socket_lacked      memory ran out in a call on a socket
use Rattle.std.proofs.Common.{◌≡◌, true, Result, Ok, Err, IsErr, OnErr, refl}
use Rattle.std.specs.declared.alloc.AllocError.{AllocError}
use Rattle.abi_types.specs.declared.reply.Answer.{Answer}
use Rattle.kernel_model.specs.Outcome.{Outcome, IsSuccess}
use Rattle.kernel_model.specs.State.{Table}
use Rattle.kernel_model.proofs.Tests.{not_true}
use Rattle.channel_calls.specs.Calls.{Channels}
use Rattle.channel_calls.specs.Done.{IsSocketDone}

pub on_err : {T E A B : Type 0} (r : Result T E) → (A → B) → OnErr r A → OnErr r B
on_err (Ok x) f h = tt
on_err (Err e) f h = f h

pub socket_lacked : (o : Outcome) (table after : Table) (channels left : Channels) (r : Result Answer AllocError) → IsErr r → IsSuccess o.answer
    → after ≡ table → left ≡ channels → IsSocketDone true o table after channels left r
socket_lacked o table after channels left (Ok given) failed succeeds same stays = absurd (not_true failed)
socket_lacked o table after channels left (Err e) failed succeeds same stays = (refl, succeeds, same, stays)
