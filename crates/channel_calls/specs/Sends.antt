-- What a send comes to, whichever call sends.
use Rattle.std.specs.Prelude.{◌≡◌, ℕ, ◌+◌, ◌<◌, ◌≤◌, true, false, List, [], length, Some}
use Rattle.std.specs.List.{AllByRecursion}
use Rattle.std.specs.Ordering.{nat_cmp}
use Rattle.std.specs.FinMap.{FinMap, get}
use Rattle.abi_base.specs.declared.errno.Errno.TheVariants.{Success}
use Rattle.abi_types.specs.declared.descriptor.Descriptor.{Descriptor}
use Rattle.abi_types.specs.declared.reply.Answer.{Answer}
use Rattle.abi_types.specs.declared.reply.Answer.TheVariants as answer
use Rattle.abi_types.specs.declared.reply.Reply.{Reply}
use Rattle.abi_types.specs.declared.reply.WordWrites.TheVariants.{Zero}
use Rattle.maps.specs.Maps.{number}
use Rattle.kernel_model.specs.Channels.{Channel, has_room, is_hung, most_carried}
use Rattle.kernel_model.specs.Families.ChannelCalls.{send_on}
use Rattle.kernel_model.specs.Outcome.{Outcome, IsSuccess}
use Rattle.kernel_model.specs.Reply.{refused}
use Rattle.channel_calls.specs.Calls.{Channels, channels_after, most_carriers, seen_in}
use Rattle.channel_calls.specs.declared.sending.Outgoing.{Outgoing}
use Rattle.channel_calls.specs.declared.sending.Sending.{Sending}
use Rattle.channel_calls.specs.declared.sending.Sending.TheVariants.{Refused, Waits, Sent}

-- the answer, as the call replies how many bytes were sent
abbrev pub answer_by : (ℕ → Reply) → Sending → Answer
answer_by reply (Refused errno) = answer.Reply (refused errno)
answer_by reply Waits = answer.Parked Zero
answer_by reply (Sent count) = answer.Reply (reply count)

-- what the model says of it
abbrev pub outcome_of : (ℕ → Reply) → Channels → Outgoing → List ℕ → List Descriptor → Outcome
outcome_of reply channels end bytes carried = send_on reply (seen_in channels) end.flags bytes carried end.writes

-- with so many descriptors, nothing is sent and this is the answer
abbrev pub IsNotSent : Channels → Outgoing → List ℕ → ℕ → Sending → Type 0
IsNotSent channels end bytes count sending =
    (carried : List Descriptor) → length carried ≡ count → (reply : ℕ → Reply)
    → outcome_of reply channels end bytes carried ≡ record { answer = answer_by reply sending; updates = [] }

-- with so many descriptors, the bytes can be sent to the channel of this number
pub record CanSend (channels : Channels) (end : Outgoing) (bytes : List ℕ) (count c : ℕ) : Type 0 where
  pub some : 0 < length bytes
  pub to : end.writes ≡ Some c
  pub channel : Channel
  pub there : get channels c ≡ Some channel
  pub unhung : is_hung channel ≡ false
  pub room : has_room count channel ≡ true

-- this is the answer, and the channels are so
abbrev pub IsSent : Channels → Channels → Outgoing → List ℕ → List Descriptor → Sending → Type 0
IsSent old new end bytes carried sending =
    (reply : ℕ → Reply)
    → (answer_by reply sending ≡ (outcome_of reply old end bytes carried).answer)
    × (new ≡ channels_after (outcome_of reply old end bytes carried).updates old)

-- where the reply to bytes that were sent is no error, the send is none
abbrev pub Succeeds : Channels → Outgoing → List ℕ → List Descriptor → Type 0
Succeeds channels end bytes carried =
    (reply : ℕ → Reply) → ((n : ℕ) → (reply n).errno ≡ Success) → IsSuccess (outcome_of reply channels end bytes carried).answer

-- ---- what is carried

-- each of the descriptors names an open that is held
abbrev pub AreHeld : FinMap nat_cmp ℕ → List Descriptor → Type 0
AreHeld counts ds = AllByRecursion (λ (d : Descriptor). 0 < number (get counts d.id)) ds

-- each names one that may be carried as many times more as a channel has room for descriptors
abbrev pub AreCarriable : FinMap nat_cmp ℕ → List Descriptor → Type 0
AreCarriable counts ds = AllByRecursion (λ (d : Descriptor). number (get counts d.id) + most_carried ≤ most_carriers) ds
