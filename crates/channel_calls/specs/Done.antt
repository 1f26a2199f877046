-- How a call on ends of channels ends.
use Rattle.std.specs.Prelude.{◌≡◌, ℕ, Bool, true, List, Result, Ok, Err}
use Rattle.std.specs.declared.alloc.AllocError.{AllocError}
use Rattle.abi_types.specs.declared.descriptor.Descriptor.{Descriptor}
use Rattle.abi_types.specs.declared.reply.Answer.{Answer}
use Rattle.kernel_model.specs.Outcome.{Outcome, IsSuccess}
use Rattle.kernel_model.specs.State.{Table}
use Rattle.channel_calls.specs.Calls.{Channels, channels_after, table_after}
use Rattle.channel_calls.specs.Sends.{IsSent, Succeeds}
use Rattle.channel_calls.specs.declared.sending.Outgoing.{Outgoing}
use Rattle.channel_calls.specs.declared.sending.Sending.{Sending}

-- A call on an end comes to this answer and to these channels; or memory runs out, which it may in a call that takes some and would
-- else succeed, and the channels stay.
abbrev pub IsEndDone : Bool → Outcome → Channels → Channels → Result Answer AllocError → Type 0
IsEndDone takes outcome channels left (Ok given) = (given ≡ outcome.answer) × (left ≡ channels_after outcome.updates channels)
IsEndDone takes outcome channels left (Err error) = (takes ≡ true) × IsSuccess outcome.answer × (left ≡ channels)

-- The same of a call on a socket, which may change its process's table too.
abbrev pub IsSocketDone : Bool → Outcome → Table → Table → Channels → Channels → Result Answer AllocError → Type 0
IsSocketDone takes outcome table after channels left (Ok given) =
    (given ≡ outcome.answer) × (after ≡ table_after outcome.updates table) × (left ≡ channels_after outcome.updates channels)
IsSocketDone takes outcome table after channels left (Err error) =
    (takes ≡ true) × IsSuccess outcome.answer × (after ≡ table) × (left ≡ channels)

-- The same of a send, whichever call sends.
abbrev pub IsSendDone : Channels → Channels → Outgoing → List ℕ → List Descriptor → Result Sending AllocError → Type 0
IsSendDone channels left end bytes carried (Ok sending) = IsSent channels left end bytes carried sending
IsSendDone channels left end bytes carried (Err error) = Succeeds channels end bytes carried × (left ≡ channels)
