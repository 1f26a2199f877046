-- What calls do on ends of channels: they send and receive bytes, and descriptors with them.
use Rattle.std.specs.Prelude.{ℕ, ◌==◌, ◌&&◌, ◌||◌, bit_and, nat_lt, not, Bool, true, false, List, [], ◌∷◌, ◌++◌, length, take, Option, None, Some, if◌then◌else◌}
use Rattle.std.specs.FinMap.{get, insert}
use Rattle.abi_base.specs.declared.errno.Errno.TheVariants.{Again, Badf, Mfile, Notsock, Pipe}
use Rattle.abi_base.specs.declared.flags.TheConstants.{FDFLAG_NONBLOCK, SHUT_RD, SHUT_WR, SOCK_RECV_FDS_TRUNCATED, SOCK_RECV_PEEK, SOCK_RECV_WAITALL}
use Rattle.abi_types.specs.declared.descriptor.Descriptor.{Descriptor}
use Rattle.abi_types.specs.declared.open_kind.OpenKind.{OpenKind}
use Rattle.abi_types.specs.declared.open_kind.OpenKind.TheVariants.{End}
use Rattle.abi_types.specs.declared.reply.Answer.TheVariants as answer
use Rattle.abi_types.specs.declared.reply.Payload.TheVariants.{Received, Sent}
use Rattle.abi_types.specs.declared.reply.Reply.{Reply}
use Rattle.abi_types.specs.declared.reply.WordWrites.TheVariants.{Zero}
use Rattle.kernel_model.specs.Channels.{Channel, Push, hung, full, sends, Pulled, must_wait, must_wait_for_all, pull, push, with_reader_shut, with_writer_shut}
use Rattle.kernel_model.specs.Families.DescriptorCalls.{lowest_free}
use Rattle.kernel_model.specs.Outcome.{Outcome, parks, replies}
use Rattle.kernel_model.specs.Reply.{content, refused, success}
use Rattle.kernel_model.specs.State.{Table, Part, Update, set_chan, set_table}
use Rattle.kernel_model.specs.Sight.{channel_part}
use Rattle.kernel_model.specs.View.{View}

-- ---- waiting

-- whether calls on an end of these flags answer AGAIN in place of waiting (NONBLOCK)
abbrev pub is_nonblocking : ℕ → Bool
is_nonblocking flags = not (bit_and flags FDFLAG_NONBLOCK == 0)

-- the thread waits, or the answer is AGAIN
abbrev pub waits_unless : Bool → Outcome
waits_unless true = replies (refused Again)
waits_unless false = parks Zero

-- ---- sending

-- What a send comes to: where nothing more can be sent it is PIPE; where there is no room it waits; else the reply says how many bytes
-- were sent, and the channel is left so.
abbrev pub sent_by : (ℕ → Reply) → Bool → ℕ → Push → Outcome
sent_by reply nonblocking c hung = replies (refused Pipe)
sent_by reply nonblocking c full = waits_unless nonblocking
sent_by reply nonblocking c (sends count channel) = record { answer = answer.Reply (reply count); updates = set_chan c channel ∷ [] }

abbrev pub send_to : (ℕ → Reply) → Bool → List ℕ → List Descriptor → ℕ → Option Channel → Outcome
send_to reply nonblocking bytes carried c None = replies (refused Badf)
send_to reply nonblocking bytes carried c (Some channel) = sent_by reply nonblocking c (push bytes carried channel)

-- Bytes and descriptors are sent to the channel that an end writes. A send of no bytes answers 0 whatever there is room for.
abbrev pub send_on : (ℕ → Reply) → View → ℕ → List ℕ → List Descriptor → Option ℕ → Outcome
send_on reply v flags [] carried writes = replies (reply 0)
send_on reply v flags (b ∷ bytes) carried None = replies (refused Badf)
send_on reply v flags (b ∷ bytes) carried (Some c) = send_to reply (is_nonblocking flags) (b ∷ bytes) carried c (v.channel c)

-- the reply to a write, and to a send of a socket
abbrev pub written_reply : ℕ → Reply
written_reply count = success count 0

abbrev pub sent_reply : ℕ → Reply
sent_reply count = record (success 0 0) { payload = Sent count }

-- what stands under these numbers of a table, in their order
abbrev pub added : Option Descriptor → List Descriptor → List Descriptor
added None ds = ds
added (Some d) ds = d ∷ ds

abbrev pub picked : Table → List ℕ → List Descriptor
picked table [] = []
picked table (fd ∷ fds) = added (get table fd) (picked table fds)

-- ---- receiving

-- what a read takes is the reply; the descriptors that come with it are dropped
abbrev pub read_if : Bool → Bool → ℕ → Pulled → Outcome
read_if true nonblocking c pulled = waits_unless nonblocking
read_if false nonblocking c pulled = record { answer = answer.Reply (content pulled.bytes); updates = set_chan c pulled.rest ∷ [] }

abbrev pub read_from : ℕ → Bool → ℕ → Option Channel → Outcome
read_from n nonblocking c None = replies (refused Badf)
read_from n nonblocking c (Some channel) = read_if (must_wait n channel) nonblocking c (pull n channel)

abbrev pub read_end : View → ℕ → ℕ → Option ℕ → Outcome
read_end v n flags None = replies (refused Badf)
read_end v n flags (Some c) = read_from n (is_nonblocking flags) c (v.channel c)

-- numbers of a table, and the table with descriptors under these
pub record Installed : Type 0 where
  pub fds : List ℕ
  pub table : Table

abbrev pub put_first : ℕ → Option Installed → Option Installed
put_first number None = None
put_first number (Some installed) = Some (record { fds = number ∷ installed.fds; table = installed.table })

abbrev pub where_free : Option ℕ → (ℕ → Option Installed) → Option Installed
where_free None f = None
where_free (Some number) f = f number

-- the descriptors stand at the lowest free numbers of the table, in their order, where there are so many
abbrev pub install : Table → List Descriptor → Option Installed
install table [] = Some (record { fds = []; table = table })
install table (d ∷ ds) = where_free (lowest_free table) (λ number. put_first number (install (insert table number d) ds))

-- flags of a receive: PEEK, that nothing is taken, and WAITALL, that all the bytes are waited for
abbrev pub peeks : ℕ → Bool
peeks flags = not (bit_and flags SOCK_RECV_PEEK == 0)

abbrev pub waits_for_all : ℕ → Bool
waits_for_all flags = not (bit_and flags SOCK_RECV_WAITALL == 0)

-- FDS_TRUNCATED is the result where more descriptors come than there is room for
abbrev pub truncated : ℕ → List Descriptor → ℕ
truncated room ds = if nat_lt room (length ds) then SOCK_RECV_FDS_TRUNCATED else 0

abbrev pub received_reply : List ℕ → List ℕ → ℕ → Reply
received_reply bytes fds flags = record (success 0 0) { payload = Received bytes fds flags }

-- The bytes are taken. Of the descriptors that come with them as many as there is room for are installed, and the others are dropped.
abbrev pub received_with : ℕ → ℕ → List ℕ → ℕ → Channel → Option Installed → Outcome
received_with p c bytes flags rest None = replies (refused Mfile)
received_with p c bytes flags rest (Some installed) = record {
  answer = answer.Reply (received_reply bytes installed.fds flags);
  updates = set_chan c rest ∷ set_table p installed.table ∷ [];
}

abbrev pub received : ℕ → Table → ℕ → ℕ → Pulled → Outcome
received p table room c pulled =
    received_with p c pulled.bytes (truncated room pulled.carried) pulled.rest (install table (take room pulled.carried))

-- a look at the bytes takes nothing
abbrev pub taken_if : Bool → ℕ → Table → ℕ → ℕ → Pulled → Outcome
taken_if true p table room c pulled = replies (received_reply pulled.bytes [] 0)
taken_if false p table room c pulled = received p table room c pulled

abbrev pub received_if : Bool → Bool → Bool → ℕ → Table → ℕ → ℕ → Pulled → Outcome
received_if true nonblocking looks p table room c pulled = waits_unless nonblocking
received_if false nonblocking looks p table room c pulled = taken_if looks p table room c pulled

-- whether a receive can't go on
abbrev pub must_wait_by : ℕ → ℕ → Channel → Bool
must_wait_by flags n channel = must_wait n channel || (waits_for_all flags && must_wait_for_all n channel)

abbrev pub receive_from : ℕ → Table → ℕ → ℕ → ℕ → Bool → ℕ → Option Channel → Outcome
receive_from p table n room flags nonblocking c None = replies (refused Badf)
receive_from p table n room flags nonblocking c (Some channel) =
    received_if (must_wait_by flags n channel) nonblocking (peeks flags) p table room c (pull n channel)

-- ---- sockets

-- calls on sockets are on an end that reads a channel and writes one
abbrev pub send_open : View → List ℕ → List Descriptor → Option OpenKind → Outcome
send_open v bytes carried None = replies (refused Badf)
send_open v bytes carried (Some (End (Some reads) (Some writes) flags form)) = send_on sent_reply v flags bytes carried (Some writes)
send_open v bytes carried (Some other) = replies (refused Notsock)

abbrev pub receive_open : ℕ → Table → View → ℕ → ℕ → ℕ → Option OpenKind → Outcome
receive_open p table v n room flags None = replies (refused Badf)
receive_open p table v n room flags (Some (End (Some reads) (Some writes) mode form)) =
    receive_from p table n room flags (is_nonblocking mode) reads (v.channel reads)
receive_open p table v n room flags (Some other) = replies (refused Notsock)

-- ---- shutting

-- the channel, once the side is shut where the test is true
abbrev pub shut_if : Bool → (Channel → Channel) → ℕ → Option Channel → List Update
shut_if true shut c (Some channel) = set_chan c (shut channel) ∷ []
shut_if test shut c channel = []

-- the end is shut: with RD for what comes, which is dropped, and with WR for what it sends
abbrev pub shut_open : View → ℕ → Option OpenKind → Outcome
shut_open v how None = replies (refused Badf)
shut_open v how (Some (End (Some reads) (Some writes) flags form)) = record {
  answer = answer.Reply (success 0 0);
  updates =
      shut_if (not (bit_and how SHUT_RD == 0)) with_reader_shut reads (v.channel reads)
      ++ shut_if (not (bit_and how SHUT_WR == 0)) with_writer_shut writes (v.channel writes);
}
shut_open v how (Some other) = replies (refused Notsock)

-- ---- what such calls may change

-- the channel that an end writes, the one that it reads, and both
abbrev pub sent_part : Option OpenKind → List Part
sent_part (Some (End reads writes flags form)) = channel_part writes
sent_part other = []

abbrev pub received_part : Option OpenKind → List Part
received_part (Some (End reads writes flags form)) = channel_part reads
received_part other = []

abbrev pub both_parts : Option OpenKind → List Part
both_parts (Some (End reads writes flags form)) = channel_part reads ++ channel_part writes
both_parts other = []
