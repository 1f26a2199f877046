-- What reads, receives and sends give and leave in a channel, and where a receive waits: the statements that are the contract of
-- `transfers_leave_channels`. Each speaks of the state before the release, by which what nothing holds any more ends.
use Rattle.std.specs.Prelude.{◌≡◌, ◌≢◌, ◌⊎◌, ⊤, ℕ, ◌+◌, ◌-◌, ◌<◌, ◌≤◌, bit_and, List, [], ◌∷◌, ◌++◌, length, map, min, take, Option, None, Some, IsSome}
use Rattle.std.specs.FinMap.{get, insert}
use Rattle.std.specs.List.{AllByRecursion}
use Rattle.abi_base.specs.declared.errno.Errno.TheVariants.{Again, Mfile}
use Rattle.abi_types.specs.declared.call.Call.TheVariants.{FdRead, FdWrite, SockRecv, SockSend}
use Rattle.abi_types.specs.declared.constants.Constants.{Constants}
use Rattle.abi_types.specs.declared.descriptor.Descriptor.{Descriptor}
use Rattle.abi_types.specs.declared.reply.Answer.{Answer}
use Rattle.abi_types.specs.declared.reply.Answer.TheVariants as answer
use Rattle.abi_types.specs.declared.reply.Payload.TheVariants.{Received, Sent}
use Rattle.abi_types.specs.declared.reply.Reply.{Reply}
use Rattle.abi_types.specs.declared.reply.WordWrites.TheVariants.{Zero}
use Rattle.abi_types.specs.declared.who.Who.{Who}
use Rattle.kernel_model.specs.ChannelLaws.{HasEnd}
use Rattle.kernel_model.specs.Channels.{Channel, Pulled, Send, Open, bytes_of, carried_of, pull}
use Rattle.kernel_model.specs.Reply.{content, refused, success}
use Rattle.kernel_model.specs.State.{State, Table}
use Rattle.kernel_model.specs.Step.{step_answer, unreleased}

-- the state 1000 nanoseconds later, else as it was
abbrev pub later : State → State
later S = record S { clock = S.clock + 1000 }

-- the same with this channel so
abbrev pub with_channel : State → ℕ → Channel → State
with_channel S c channel = record (later S) { chans = insert S.chans c channel }

-- ---- reads

-- A read of n bytes must wait: it asks for a byte, nothing waits, and both sides are open, so that something may come.
pub record FindsNothing (n : ℕ) (channel : Channel) : Type 0 where
  pub asks : n ≢ 0
  pub empty : channel.waiting ≡ []
  pub reader : channel.reader ≡ Open
  pub writer : channel.writer ≡ Open

-- A read leaves the channel of its kind, and both of its sides.
abbrev pub ReadsKeepSides : Type 0
ReadsKeepSides =
    (n : ℕ) (channel : Channel)
    → ((pull n channel).rest.kind ≡ channel.kind) × ((pull n channel).rest.reader ≡ channel.reader) × ((pull n channel).rest.writer ≡ channel.writer)

-- An fd_read of an end that needn't wait gives the bytes that a read of so many takes, and leaves the channel as that does.
abbrev pub ReadsTake : Type 0
ReadsTake =
    (constants : Constants) (S : State) (who : Who) (fd n c flags : ℕ) (writes : Option ℕ) (channel : Channel)
    → HasEnd S who (FdRead fd n) fd (Some c) writes flags → get S.chans c ≡ Some channel → ¬ FindsNothing n channel
    → (step_answer constants S who (FdRead fd n) ≡ answer.Reply (content (pull n channel).bytes))
    × (unreleased constants S who (FdRead fd n) ≡ with_channel S c (pull n channel).rest)

-- ---- receives

-- no send behind the first one carries descriptors, so none bounds what a receive takes
abbrev pub NoneBounds : List Send → Type 0
NoneBounds [] = ⊤
NoneBounds (first ∷ behind) = AllByRecursion (λ (send : Send). send.carried ≡ []) behind

-- What a receive of n bytes asks for doesn't wait: it asks for a byte, and nothing waits; or it has WAITALL (16), fewer bytes wait than it asks
-- for, and no send with descriptors bounds them.
abbrev pub Lacks : ℕ → ℕ → List Send → Type 0
Lacks n flags waiting =
    ((n ≢ 0) × (waiting ≡ [])) ⊎ ((bit_and flags 16 ≢ 0) × (length (bytes_of waiting) < n) × NoneBounds waiting)

-- It must wait: that doesn't wait, and both sides are open, so that it may come.
pub record MustWait (n flags : ℕ) (channel : Channel) : Type 0 where
  pub lacks : Lacks n flags channel.waiting
  pub reader : channel.reader ≡ Open
  pub writer : channel.writer ≡ Open

-- what a receive tells: bytes, the numbers of descriptors, and a flag
abbrev pub told : List ℕ → List ℕ → ℕ → Reply
told bytes fds flags = record (success 0 0) { payload = Received bytes fds flags }

-- of the 1024 numbers that there are it is the lowest under which nothing stands
pub record IsLowest (table : Table) (number : ℕ) : Type 0 where
  pub small : number < 1024
  pub free : get table number ≡ None
  pub lower : (m : ℕ) → m < number → IsSome (get table m)

-- Each of the descriptors came to the lowest number that was free then, one after another, and under each other number stands what stood there.
pub data StandLowest : Table → List Descriptor → List ℕ → Table → Type 0 where
  stands_none : (table : Table) → StandLowest table [] [] table
  stands_one : (table then new : Table) (d : Descriptor) (ds : List Descriptor) (number : ℕ) (fds : List ℕ) → IsLowest table number
      → get then number ≡ Some d → ((m : ℕ) → m ≢ number → get then m ≡ get table m) → StandLowest then ds fds new
      → StandLowest table (d ∷ ds) (number ∷ fds) new

-- A receive of process p takes what a read takes. It tells the bytes, and under which numbers of the descriptors as many stand then as there is room
-- for; where more come it tells FDS_TRUNCATED (1). It leaves the channel as the read does, and nothing else changes.
pub record Takes (S : State) (p room c : ℕ) (table : Table) (pulled : Pulled) (given : Answer) (T : State) : Type 0 where
  pub fds : List ℕ
  pub flag : ℕ
  pub new : Table
  pub installed : StandLowest table (take room pulled.carried) fds new
  pub truncated : room < length pulled.carried → flag ≡ 1
  pub whole : length pulled.carried ≤ room → flag ≡ 0
  pub tells : given ≡ answer.Reply (told pulled.bytes fds flag)
  pub leaves : T ≡ record (with_channel S c pulled.rest) { tables = insert S.tables p new }

-- It takes nothing: of the descriptors for which there is room some would find numbers, and the next one then finds each of the 1024 numbers taken.
pub record FindsNoNumber (S : State) (room : ℕ) (table : Table) (pulled : Pulled) (given : Answer) (T : State) : Type 0 where
  pub found : List Descriptor
  pub next : Descriptor
  pub others : List Descriptor
  pub fds : List ℕ
  pub full : Table
  pub listed : take room pulled.carried ≡ found ++ next ∷ others
  pub installed : StandLowest table found fds full
  pub taken : (m : ℕ) → m < 1024 → IsSome (get full m)
  pub refuses : given ≡ answer.Reply (refused Mfile)
  pub leaves : T ≡ later S

pub record ReceivesTake : Type 0 where
  -- A receive from a socket that must wait does, or answers AGAIN where the socket has NONBLOCK (4). PEEK makes no difference to that.
  pub waits : (constants : Constants) (S : State) (who : Who) (fd n room flags c w mode : ℕ) (channel : Channel)
      → HasEnd S who (SockRecv fd n room flags) fd (Some c) (Some w) mode → get S.chans c ≡ Some channel → MustWait n flags channel
      → bit_and mode 4 ≡ 0 → step_answer constants S who (SockRecv fd n room flags) ≡ answer.Parked Zero
  pub refuses : (constants : Constants) (S : State) (who : Who) (fd n room flags c w mode : ℕ) (channel : Channel)
      → HasEnd S who (SockRecv fd n room flags) fd (Some c) (Some w) mode → get S.chans c ≡ Some channel → MustWait n flags channel
      → bit_and mode 4 ≢ 0 → step_answer constants S who (SockRecv fd n room flags) ≡ answer.Reply (refused Again)
  -- One that needn't wait tells with PEEK (4) the bytes that a read takes, no descriptor and no flag, and changes nothing.
  pub looks : (constants : Constants) (S : State) (who : Who) (fd n room flags c w mode : ℕ) (channel : Channel)
      → HasEnd S who (SockRecv fd n room flags) fd (Some c) (Some w) mode → get S.chans c ≡ Some channel → ¬ MustWait n flags channel
      → bit_and flags 4 ≢ 0
      → (step_answer constants S who (SockRecv fd n room flags) ≡ answer.Reply (told (pull n channel).bytes [] 0))
      × (unreleased constants S who (SockRecv fd n room flags) ≡ later S)
  -- Without PEEK it takes them, unless it finds no number for a descriptor that comes.
  pub takes : (constants : Constants) (S : State) (who : Who) (fd n room flags c w mode : ℕ) (channel : Channel)
      → (has : HasEnd S who (SockRecv fd n room flags) fd (Some c) (Some w) mode) → get S.chans c ≡ Some channel → ¬ MustWait n flags channel
      → bit_and flags 4 ≡ 0
      → Takes S who.pid room c has.table (pull n channel) (step_answer constants S who (SockRecv fd n room flags))
      (unreleased constants S who (SockRecv fd n room flags))
      ⊎ FindsNoNumber S room has.table (pull n channel) (step_answer constants S who (SockRecv fd n room flags))
      (unreleased constants S who (SockRecv fd n room flags))

-- ---- sends

-- Both sides are open, and there is room for a byte and for so many descriptors.
pub record HasRoom (count : ℕ) (channel : Channel) : Type 0 where
  pub reader : channel.reader ≡ Open
  pub writer : channel.writer ≡ Open
  pub byte : length (bytes_of channel.waiting) < 65536
  pub descriptors : length (carried_of channel.waiting) + count ≤ 64

-- the channel with one send more, behind the others
abbrev pub with_send : Channel → List ℕ → List Descriptor → Channel
with_send channel bytes carried = record channel { waiting = channel.waiting ++ (record { bytes = bytes; carried = carried }) ∷ [] }

-- One send more stands behind what waits in the channel: the first of these bytes, as many as there is room for, with these descriptors. The reply is
-- that of their count, and nothing else changes.
pub record Puts (S : State) (reply : ℕ → Reply) (bytes : List ℕ) (carried : List Descriptor) (c : ℕ) (channel : Channel) (given : Answer)
    (T : State) : Type 0 where
  pub sent : List ℕ
  pub unsent : List ℕ
  pub first : bytes ≡ sent ++ unsent
  pub count : length sent ≡ min (length bytes) (65536 - length (bytes_of channel.waiting))
  pub tells : given ≡ answer.Reply (reply (length sent))
  pub leaves : T ≡ with_channel S c (with_send channel sent carried)

-- the reply to a write, and that to a send of a socket
abbrev pub written : ℕ → Reply
written count = success count 0

abbrev pub sent : ℕ → Reply
sent count = record (success 0 0) { payload = Sent count }

pub record SendsPut : Type 0 where
  -- An fd_write to an end puts its bytes, and no descriptor.
  pub writes : (constants : Constants) (S : State) (who : Who) (fd b : ℕ) (bytes : List ℕ) (reads : Option ℕ) (c mode : ℕ) (channel : Channel)
      → HasEnd S who (FdWrite fd (b ∷ bytes)) fd reads (Some c) mode → get S.chans c ≡ Some channel → HasRoom 0 channel
      → Puts S written (b ∷ bytes) [] c channel (step_answer constants S who (FdWrite fd (b ∷ bytes)))
      (unreleased constants S who (FdWrite fd (b ∷ bytes)))
  -- A sock_send puts its bytes, and what stands in its process's table under the numbers that it lists, in their order.
  pub sends : (constants : Constants) (S : State) (who : Who) (fd b : ℕ) (bytes fds : List ℕ) (flags r c mode : ℕ) (channel : Channel)
      (carried : List Descriptor) → (has : HasEnd S who (SockSend fd (b ∷ bytes) fds flags) fd (Some r) (Some c) mode) → get S.chans c ≡ Some channel
      → map (λ number. get has.table number) fds ≡ map (λ (d : Descriptor). Some d) carried → HasRoom (length carried) channel
      → Puts S sent (b ∷ bytes) carried c channel (step_answer constants S who (SockSend fd (b ∷ bytes) fds flags))
      (unreleased constants S who (SockSend fd (b ∷ bytes) fds flags))
  -- Of no byte neither puts anything.
  pub writes_none : (constants : Constants) (S : State) (who : Who) (fd : ℕ) (reads writes : Option ℕ) (mode : ℕ)
      → HasEnd S who (FdWrite fd []) fd reads writes mode
      → (step_answer constants S who (FdWrite fd []) ≡ answer.Reply (written 0)) × (unreleased constants S who (FdWrite fd []) ≡ later S)
  pub sends_none : (constants : Constants) (S : State) (who : Who) (fd : ℕ) (fds : List ℕ) (flags r c mode : ℕ)
      → HasEnd S who (SockSend fd [] fds flags) fd (Some r) (Some c) mode
      → (step_answer constants S who (SockSend fd [] fds flags) ≡ answer.Reply (sent 0))
      × (unreleased constants S who (SockSend fd [] fds flags) ≡ later S)
