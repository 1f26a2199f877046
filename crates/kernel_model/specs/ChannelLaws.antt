-- What sends and reads do to a channel, in other words than their definitions, and what calls on its ends answer: the statements that are
-- the contracts of the functions of src/channel_laws.rt.
use Rattle.std.specs.Prelude.{◌≡◌, ◌≢◌, ◌↔◌, ◌⊎◌, ⊤, ℕ, suc, ◌<◌, ◌≤◌, bit_and, true, false, List, [], ◌∷◌, ◌++◌, length, min, take, Option, None, Some}
use Rattle.std.specs.FinMap.{FinMap, get}
use Rattle.std.specs.List.{AllByRecursion}
use Rattle.std.specs.Ordering.{nat_cmp}
use Rattle.abi_base.specs.declared.errno.Errno.TheVariants.{Again, Pipe, Success}
use Rattle.abi_base.specs.declared.flags.TheConstants.{FDFLAG_NONBLOCK, SOCK_RECV_WAITALL}
use Rattle.abi_types.specs.declared.chan_kind.ChanKind.{ChanKind}
use Rattle.abi_types.specs.declared.call.Call.TheVariants.{FdRead, FdWrite, SockRecv, SockSend}
use Rattle.abi_types.specs.declared.call.Call.{Call}
use Rattle.abi_types.specs.declared.constants.Constants.{Constants}
use Rattle.abi_types.specs.declared.descriptor.Descriptor.{Descriptor}
use Rattle.abi_types.specs.declared.open_kind.OpenKind.{OpenKind}
use Rattle.abi_types.specs.declared.open_kind.OpenKind.TheVariants.{End}
use Rattle.abi_types.specs.declared.reply.Answer.{Answer}
use Rattle.abi_types.specs.declared.reply.Answer.TheVariants as answer
use Rattle.abi_types.specs.declared.reply.Reply.{Reply}
use Rattle.abi_types.specs.declared.reply.WordWrites.TheVariants.{Zero}
use Rattle.abi_types.specs.declared.status.Status.{Status}
use Rattle.abi_types.specs.declared.who.Who.{Who}
use Rattle.kernel_model.specs.Calls.{refusal}
use Rattle.kernel_model.specs.Channels.{Channel, Send, Open, IsChannel, bytes_of, carried_of, has_room, is_hung, must_wait, must_wait_for_all, pull, push, room, sends}
use Rattle.kernel_model.specs.Families.ChannelCalls.{Installed, install, picked, sent_reply, written_reply}
use Rattle.kernel_model.specs.Outcome.{is_parked}
use Rattle.kernel_model.specs.Proper.{GoesOn, sends_had}
use Rattle.kernel_model.specs.Reply.{content, refused}
use Rattle.kernel_model.specs.State.{State, Table}
use Rattle.kernel_model.specs.Step.{end_state, step_answer, IsStep}
use Rattle.kernel_model.specs.Valid.{IsValid}

-- ---- reads

-- What a read takes and what it leaves is what waited, in the same order: nothing is lost, and nothing comes twice.
abbrev pub ReadsLoseNothing : Type 0
ReadsLoseNothing =
    (n : ℕ) (channel : Channel)
    → (bytes_of channel.waiting ≡ (pull n channel).bytes ++ bytes_of (pull n channel).rest.waiting)
    × (carried_of channel.waiting ≡ (pull n channel).carried ++ carried_of (pull n channel).rest.waiting)

-- the first of these sends, if there is one, carries descriptors
abbrev pub StartsCarrying : List Send → Type 0
StartsCarrying [] = ⊤
StartsCarrying (send ∷ rest) = send.carried ≢ []

-- The sends are the first one, those behind it that carry nothing, and those from the next one on that carries descriptors.
pub record IsSplit (waiting : List Send) (first : Send) (plain rest : List Send) : Type 0 where
  pub splits : waiting ≡ first ∷ (plain ++ rest)
  pub plainly : AllByRecursion (λ (send : Send). send.carried ≡ []) plain
  pub next : StartsCarrying rest

-- A read of n bytes takes the first n of the first send and of those behind it that carry nothing, and none of the next one that carries
-- descriptors; and with its first byte it takes what the first send carries.
abbrev pub ReadsStopAtSends : Type 0
ReadsStopAtSends =
    (n : ℕ) (channel : Channel) (first : Send) (plain rest : List Send) → IsSplit channel.waiting first plain rest
    → ((pull n channel).bytes ≡ take n (first.bytes ++ bytes_of plain))
    × (0 < n → 0 < length first.bytes → (pull n channel).carried ≡ first.carried)

-- A read waits exactly where it asks for a byte, nothing waits, and both sides are open.
abbrev pub ReadsWait : Type 0
ReadsWait =
    (n : ℕ) (channel : Channel)
    → (must_wait n channel ≡ true) ↔ ((n ≢ 0) × (channel.waiting ≡ []) × (channel.reader ≡ Open) × (channel.writer ≡ Open))

-- ---- sends

-- What is sent stands behind what waited: so many of the bytes, with all descriptors; and no more waits then than may.
pub record StandsLast (bytes : List ℕ) (carried : List Descriptor) (channel : Channel) (count : ℕ) (after : Channel) : Type 0 where
  pub bytes_last : bytes_of after.waiting ≡ bytes_of channel.waiting ++ take count bytes
  pub carried_last : carried_of after.waiting ≡ carried_of channel.waiting ++ carried
  pub few_bytes : length (bytes_of after.waiting) ≤ 65536
  pub few_carried : length (carried_of after.waiting) ≤ 64
  pub open_sides : (channel.reader ≡ Open) × (channel.writer ≡ Open)

abbrev pub SendsStandLast : Type 0
SendsStandLast =
    (bytes : List ℕ) (carried : List Descriptor) (channel : Channel) (count : ℕ) (after : Channel) → IsChannel channel
    → push bytes carried channel ≡ sends count after → StandsLast bytes carried channel count after

-- ---- descriptors that are installed

-- Each of the descriptors stands under its number, under which none stood, with the rights that it has; and under each other number stands
-- what stood there.
pub data IsInstalled : Table → List Descriptor → List ℕ → Table → Type 0 where
  installs_none : (table : Table) → IsInstalled table [] [] table
  installs_one : (table then new : Table) (d : Descriptor) (ds : List Descriptor) (number : ℕ) (fds : List ℕ) → get table number ≡ None
      → get then number ≡ Some d → ((m : ℕ) → m ≢ number → get then m ≡ get table m) → IsInstalled then ds fds new
      → IsInstalled table (d ∷ ds) (number ∷ fds) new

abbrev pub InstallsAsSent : Type 0
InstallsAsSent =
    (table : Table) (ds : List Descriptor) (installed : Installed) → install table ds ≡ Some installed → IsInstalled table ds installed.fds installed.table

-- ---- calls on ends

-- The process has a descriptor under this number that the call may use so, and its open is an end of these channels and flags.
pub record HasEnd (S : State) (who : Who) (call : Call) (fd : ℕ) (reads writes : Option ℕ) (flags : ℕ) : Type 0 where
  pub table : Table
  pub own : get S.tables who.pid ≡ Some table
  pub allowed : refusal table call ≡ None
  pub d : Descriptor
  pub there : get table fd ≡ Some d
  pub form : ChanKind
  pub opened : get S.opens d.id ≡ Some (End reads writes flags form)

-- A read of an end with nothing to read waits, or with NONBLOCK answers AGAIN; where something waits, or nothing more can come, it answers
-- what there is.
abbrev pub ReadsAnswer : Type 0
ReadsAnswer =
    (constants : Constants) (S : State) (who : Who) (fd n c flags : ℕ) (writes : Option ℕ) (channel : Channel)
    → HasEnd S who (FdRead fd n) fd (Some c) writes flags → get S.chans c ≡ Some channel
    → (must_wait n channel ≡ true → bit_and flags FDFLAG_NONBLOCK ≡ 0 → step_answer constants S who (FdRead fd n) ≡ answer.Parked Zero)
    × (must_wait n channel ≡ true → bit_and flags FDFLAG_NONBLOCK ≢ 0 → step_answer constants S who (FdRead fd n) ≡ answer.Reply (refused Again))
    × (must_wait n channel ≡ false → step_answer constants S who (FdRead fd n) ≡ answer.Reply (content (pull n channel).bytes))

-- A receive from a socket with nothing to read waits, and so does one of all bytes (WAITALL) while more must come; with NONBLOCK on the
-- socket it answers AGAIN. Where something waits, or nothing more can come, a receive that isn't of all bytes doesn't wait.
abbrev pub ReceivesAnswer : Type 0
ReceivesAnswer =
    (constants : Constants) (S : State) (who : Who) (fd n room flags c w mode : ℕ) (channel : Channel)
    → HasEnd S who (SockRecv fd n room flags) fd (Some c) (Some w) mode → get S.chans c ≡ Some channel
    → (must_wait n channel ≡ true → bit_and mode FDFLAG_NONBLOCK ≡ 0 → step_answer constants S who (SockRecv fd n room flags) ≡ answer.Parked Zero)
    × (must_wait n channel ≡ true → bit_and mode FDFLAG_NONBLOCK ≢ 0 → step_answer constants S who (SockRecv fd n room flags) ≡ answer.Reply (refused Again))
    × (must_wait_for_all n channel ≡ true → bit_and flags SOCK_RECV_WAITALL ≢ 0 → bit_and mode FDFLAG_NONBLOCK ≡ 0
    → step_answer constants S who (SockRecv fd n room flags) ≡ answer.Parked Zero)
    × (must_wait n channel ≡ false → bit_and flags SOCK_RECV_WAITALL ≡ 0 → is_parked (step_answer constants S who (SockRecv fd n room flags)) ≡ false)

-- What a send of a byte at least, by this reply, answers on a channel: where nothing more can be sent PIPE; where there is no room for a byte, or
-- not for so many descriptors, it waits, or with NONBLOCK answers AGAIN; and else it says how many bytes were sent.
abbrev pub AnswersSend : (ℕ → Reply) → ℕ → ℕ → ℕ → Channel → Answer → Type 0
AnswersSend reply size count mode channel given =
    (is_hung channel ≡ true → given ≡ answer.Reply (refused Pipe))
    × (is_hung channel ≡ false → has_room count channel ≡ false → bit_and mode FDFLAG_NONBLOCK ≡ 0 → given ≡ answer.Parked Zero)
    × (is_hung channel ≡ false → has_room count channel ≡ false → bit_and mode FDFLAG_NONBLOCK ≢ 0 → given ≡ answer.Reply (refused Again))
    × (is_hung channel ≡ false → has_room count channel ≡ true → given ≡ answer.Reply (reply (min size (room channel))))

-- So do a write to an end of channels and a send to a socket.
abbrev pub WritesAnswer : Type 0
WritesAnswer =
    (constants : Constants) (S : State) (who : Who) (fd b : ℕ) (bytes : List ℕ) (reads : Option ℕ) (c mode : ℕ) (channel : Channel)
    → HasEnd S who (FdWrite fd (b ∷ bytes)) fd reads (Some c) mode → get S.chans c ≡ Some channel
    → AnswersSend written_reply (length (b ∷ bytes)) 0 mode channel (step_answer constants S who (FdWrite fd (b ∷ bytes)))

abbrev pub SendsAnswer : Type 0
SendsAnswer =
    (constants : Constants) (S : State) (who : Who) (fd b : ℕ) (bytes fds : List ℕ) (flags r c mode : ℕ) (channel : Channel)
    → (has : HasEnd S who (SockSend fd (b ∷ bytes) fds flags) fd (Some r) (Some c) mode) → get S.chans c ≡ Some channel
    → AnswersSend sent_reply (length (b ∷ bytes)) (length (picked has.table fds)) mode channel (step_answer constants S who (SockSend fd (b ∷ bytes) fds flags))

-- ---- steps

-- A byte at least goes to channel c, by the descriptor under number fd of what is held under numbers: its open, of these, writes the channel.
pub record GoesInto (held : ℕ → Option Descriptor) (opens : FinMap nat_cmp OpenKind) (fd : ℕ) (bytes : List ℕ) (c : ℕ) : Type 0 where
  pub some : 0 < length bytes
  pub d : Descriptor
  pub socket : held fd ≡ Some d
  pub reads : Option ℕ
  pub mode : ℕ
  pub form : ChanKind
  pub opened : get opens d.id ≡ Some (End reads (Some c) mode form)

-- The call is a sock_send of a byte at least, by a descriptor of its process whose open writes channel c, and this is what stands in the
-- process's table under the numbers that it lists, in their order.
pub record IsSendInto (S : State) (who : Who) (call : Call) (c : ℕ) (carried : List Descriptor) : Type 0 where
  pub fd : ℕ
  pub bytes : List ℕ
  pub fds : List ℕ
  pub flags : ℕ
  pub is : call ≡ SockSend fd bytes fds flags
  pub table : Table
  pub own : get S.tables who.pid ≡ Some table
  pub into : GoesInto (get table) S.opens fd bytes c
  pub listed : carried ≡ picked table fds

-- It is one that succeeded.
pub record SendsOn (S : State) (who : Who) (call : Call) (given : Answer) (c : ℕ) (carried : List Descriptor) : Type 0 where
  pub send : IsSendInto S who call c carried
  pub reply : Reply
  pub replied : given ≡ answer.Reply reply
  pub success : reply.errno ≡ Success

-- A channel that is there after a step from a valid state goes on from what it was before it: where one send more stands behind the others
-- it carries nothing, or the call is a sock_send to this channel, and the send carries what the call lists.
abbrev pub ChannelsGoOn : Type 0
ChannelsGoOn =
    (constants : Constants) (S : State) (who : Who) (call : Call) (given : Answer) (T : State) (c : ℕ) (now : Channel) → IsValid S
    → IsStep constants S who call given T → get T.chans c ≡ Some now
    → GoesOn (λ carried. (carried ≡ []) ⊎ SendsOn S who call given c carried) (get S.chans c) now

-- So does one that is there after the end of a process from outside, and no send comes then.
abbrev pub EndsGoOn : Type 0
EndsGoOn =
    (S : State) (p : ℕ) (status : Status) (c : ℕ) (now : Channel) → get (end_state S p status).chans c ≡ Some now
    → GoesOn (λ carried. ⊥) (get S.chans c) now

-- ---- how many sends a channel has had

-- The call sends these bytes by the descriptor under fd: it is an fd_write or a sock_send.
abbrev pub IsPut : Call → ℕ → List ℕ → Type 0
IsPut call fd bytes = (call ≡ FdWrite fd bytes) ⊎ ((fds : List ℕ) × (flags : ℕ) × (call ≡ SockSend fd bytes fds flags))

-- The call is an fd_write or a sock_send of a byte at least, by a descriptor of its process whose open writes channel c, and it succeeded.
pub record PutsInto (S : State) (who : Who) (call : Call) (given : Answer) (c : ℕ) : Type 0 where
  pub fd : ℕ
  pub bytes : List ℕ
  pub is : IsPut call fd bytes
  pub reply : Reply
  pub replied : given ≡ answer.Reply reply
  pub success : reply.errno ≡ Success
  pub table : Table
  pub own : get S.tables who.pid ≡ Some table
  pub into : GoesInto (get table) S.opens fd bytes c

-- A channel that is there before a step from a valid state and after it has had one send more after it where the call puts one into it, and as
-- many as before it where it doesn't.
abbrev pub SendsAreCounted : Type 0
SendsAreCounted =
    (constants : Constants) (S : State) (who : Who) (call : Call) (given : Answer) (T : State) (c : ℕ) (was now : Channel) → IsValid S
    → IsStep constants S who call given T → get S.chans c ≡ Some was → get T.chans c ≡ Some now
    → (PutsInto S who call given c × (sends_had now ≡ suc (sends_had was))) ⊎ ((¬ PutsInto S who call given c) × (sends_had now ≡ sends_had was))

-- It has had as many as before after the end of a process from outside.
abbrev pub EndsCountNone : Type 0
EndsCountNone =
    (S : State) (p : ℕ) (status : Status) (c : ℕ) (was now : Channel) → get S.chans c ≡ Some was → get (end_state S p status).chans c ≡ Some now
    → sends_had now ≡ sends_had was

-- A channel that comes with a step from a valid state has had no send.
abbrev pub NewChannelsHaveNone : Type 0
NewChannelsHaveNone =
    (constants : Constants) (S : State) (who : Who) (call : Call) (given : Answer) (T : State) (c : ℕ) (now : Channel) → IsValid S
    → IsStep constants S who call given T → get S.chans c ≡ None → get T.chans c ≡ Some now → sends_had now ≡ 0

-- None comes with the end of a process from outside.
abbrev pub EndsMakeNone : Type 0
EndsMakeNone =
    (S : State) (p : ℕ) (status : Status) (c : ℕ) (now : Channel) → get S.chans c ≡ None → get (end_state S p status).chans c ≡ Some now → ⊥
