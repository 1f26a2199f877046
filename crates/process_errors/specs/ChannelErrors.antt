-- What fd_create1 and fd_create2, the calls on sockets, and reads and writes of ends of channels come to, in other words than their meanings: a line for
-- each case, with all of its conditions.
use Rattle.std.specs.Prelude.{◌≡◌, ◌≢◌, ◌↔◌, ◌⊎◌, ⊤, ℕ, zero, suc, ◌+◌, ◌-◌, ◌^◌, ◌<◌, ◌≤◌, bit_and, min, List, [], ◌∷◌, length, Option, Some}
use Rattle.std.specs.FinMap.{get}
use Rattle.std.specs.List.{AllByRecursion}
use Rattle.abi_base.specs.declared.errno.Errno.TheVariants.{Again, Mfile, Nosys, Notsock, Notsup, Pipe}
use Rattle.abi_base.specs.declared.flags.TheConstants.{FDFLAG_NONBLOCK, FILETYPE_FIFO, FILETYPE_SOCKET_STREAM, SOCK_RECV_PEEK, SOCK_RECV_WAITALL}
use Rattle.abi_types.specs.declared.call.Call.TheVariants.{FdCreate1, FdCreate2, FdRead, FdWrite, SockRecv, SockSend, SockShutdown}
use Rattle.abi_types.specs.declared.chan_kind.ChanKind.{ChanKind}
use Rattle.abi_types.specs.declared.constants.Constants.{Constants}
use Rattle.abi_types.specs.declared.open_kind.OpenKind.{OpenKind}
use Rattle.abi_types.specs.declared.open_kind.OpenKind.TheVariants.{End}
use Rattle.abi_types.specs.declared.reply.Answer.{Answer}
use Rattle.abi_types.specs.declared.reply.Answer.TheVariants as answer
use Rattle.abi_types.specs.declared.reply.Payload.TheVariants.{Sent}
use Rattle.abi_types.specs.declared.reply.Reply.{Reply}
use Rattle.abi_types.specs.declared.reply.WordWrites.TheVariants.{Zero}
use Rattle.abi_types.specs.declared.who.Who.{Who}
use Rattle.kernel_model.specs.Channels.{Channel, Send, Open, bytes_of, carried_of}
use Rattle.kernel_model.specs.Reply.{refused, success}
use Rattle.kernel_model.specs.State.{ProcessState, State, Table}
use Rattle.kernel_model.specs.Step.{step_answer}
use Rattle.process_errors.specs.FreeNumbers.{AreTakenBut, IsFirstFree, free_within}
use Rattle.process_errors.specs.Verdicts.{Verdict, done, fails, verdict_of, waits, IsOpenOn, IsUnrefused}

-- ---- fd_create1

-- It is always refused.
abbrev pub CreateOneIsListed : Type 0
CreateOneIsListed =
    (constants : Constants) (S : State) (who : Who) (kind : ℕ) (table : Table) (own : ProcessState) → IsUnrefused S who (FdCreate1 kind) table own
    → step_answer constants S who (FdCreate1 kind) ≡ answer.Reply (refused Nosys)

-- ---- fd_create2

-- what is made of this type, and of how many objects: a pipe of a channel and two ends, or a pair of streams of two channels and two ends
abbrev pub TakesObjects : ℕ → ℕ → Type 0
TakesObjects kind count = ((kind ≡ FILETYPE_FIFO) × (count ≡ 3)) ⊎ ((kind ≡ FILETYPE_SOCKET_STREAM) × (count ≡ 4))

-- two numbers are free, and these are the lowest
abbrev pub AreFirstFree : Table → ℕ → ℕ → Type 0
AreFirstFree table first second = IsFirstFree table 0 first × IsFirstFree table (first + 1) second

-- there are no numbers for so many objects more of process p, as in no run
abbrev pub AreSpent : ℕ → ℕ → ProcessState → Type 0
AreSpent p count own = (0xffffffff ≤ p) ⊎ (2 ^ 32 ≤ own.counts.objects + count)

-- What an fd_create2 of process p comes to.
pub data PairComesTo (kind p : ℕ) (table : Table) (own : ProcessState) : Answer → Type 0 where
  -- NOTSUP: neither is of this type
  other_type : kind ≢ FILETYPE_FIFO → kind ≢ FILETYPE_SOCKET_STREAM → PairComesTo kind p table own (answer.Reply (refused Notsup))
  -- MFILE: at most one number is free
  no_numbers : (count : ℕ) → TakesObjects kind count → (n : ℕ) → AreTakenBut n table → PairComesTo kind p table own (answer.Reply (refused Mfile))
  -- AGAIN: there are no numbers for the objects
  no_objects : (count first second : ℕ) → TakesObjects kind count → AreFirstFree table first second → AreSpent p count own
      → PairComesTo kind p table own (answer.Reply (refused Again))
  -- else they are made, and the descriptors have the two lowest free numbers
  made : (count first second : ℕ) → TakesObjects kind count → AreFirstFree table first second → ¬ AreSpent p count own
      → PairComesTo kind p table own (answer.Reply (success first second))

abbrev pub PairIsListed : Type 0
PairIsListed =
    (constants : Constants) (S : State) (who : Who) (kind : ℕ) (table : Table) (own : ProcessState) (given : Answer)
    → IsUnrefused S who (FdCreate2 kind) table own
    → PairComesTo kind who.pid table own given ↔ (given ≡ step_answer constants S who (FdCreate2 kind))

-- ---- ends of channels

-- the descriptor is of a socket, which reads the channel r and writes the channel w, with these flags
abbrev pub IsSocket : State → Table → ℕ → ℕ → ℕ → ℕ → Type 0
IsSocket S table fd r w mode = (form : ChanKind) × IsOpenOn S table fd (End (Some r) (Some w) mode form)

-- it is of something else
abbrev pub IsNoSocket : State → Table → ℕ → Type 0
IsNoSocket S table fd = (kind : OpenKind) × IsOpenOn S table fd kind × ((r w mode : ℕ) (form : ChanKind) → kind ≢ End (Some r) (Some w) mode form)

abbrev pub IsNonblocking : ℕ → Type 0
IsNonblocking mode = bit_and mode FDFLAG_NONBLOCK ≢ 0

-- something may still be sent: neither side was shut, nor is its end gone
abbrev pub AreOpen : Channel → Type 0
AreOpen channel = (channel.reader ≡ Open) × (channel.writer ≡ Open)

-- ---- sock_shutdown

-- What a sock_shutdown comes to.
pub data ShutComesTo (S : State) (table : Table) (fd : ℕ) : Answer → Type 0 where
  -- NOTSOCK: it is of no socket
  no_socket : IsNoSocket S table fd → ShutComesTo S table fd (answer.Reply (refused Notsock))
  -- else it is done
  shut : (r w mode : ℕ) → IsSocket S table fd r w mode → ShutComesTo S table fd (answer.Reply (success 0 0))

abbrev pub ShutIsListed : Type 0
ShutIsListed =
    (constants : Constants) (S : State) (who : Who) (fd how : ℕ) (table : Table) (own : ProcessState) (given : Answer)
    → IsUnrefused S who (SockShutdown fd how) table own
    → ShutComesTo S table fd given ↔ (given ≡ step_answer constants S who (SockShutdown fd how))

-- ---- fd_write and sock_send

-- There is no room for a byte, of 65,536 in all, or not for so many descriptors, of 64.
abbrev pub IsFull : ℕ → Channel → Type 0
IsFull count channel = (65536 ≤ length (bytes_of channel.waiting)) ⊎ (64 < length (carried_of channel.waiting) + count)

-- What it comes to that so many bytes are written to the channel, with so many descriptors, by an end with these flags. The reply tells how many
-- bytes are taken.
pub data PutComesTo (reply : ℕ → Reply) (size count mode : ℕ) (channel : Channel) : Answer → Type 0 where
  -- no bytes are written, whatever there is room for
  nothing : size ≡ 0 → PutComesTo reply size count mode channel (answer.Reply (reply 0))
  -- PIPE: nothing more can be sent
  hung : 0 < size → ¬ AreOpen channel → PutComesTo reply size count mode channel (answer.Reply (refused Pipe))
  -- AGAIN: there is no room, and the end doesn't wait
  no_room : 0 < size → AreOpen channel → IsFull count channel → IsNonblocking mode → PutComesTo reply size count mode channel (answer.Reply (refused Again))
  -- there is no room, and the thread waits
  awaits_room : 0 < size → AreOpen channel → IsFull count channel → ¬ IsNonblocking mode → PutComesTo reply size count mode channel (answer.Parked Zero)
  -- else as many are taken as there is room for
  put : 0 < size → AreOpen channel → ¬ IsFull count channel
      → PutComesTo reply size count mode channel (answer.Reply (reply (min size (65536 - length (bytes_of channel.waiting)))))

-- What an fd_write to an end that writes this channel comes to.
abbrev pub WriteIsListed : Type 0
WriteIsListed =
    (constants : Constants) (S : State) (who : Who) (fd : ℕ) (bytes : List ℕ) (table : Table) (own : ProcessState) (reads : Option ℕ) (w mode : ℕ)
    (form : ChanKind) (channel : Channel) (given : Answer) → IsUnrefused S who (FdWrite fd bytes) table own
    → IsOpenOn S table fd (End reads (Some w) mode form) → get S.chans w ≡ Some channel
    → PutComesTo (λ count. success count 0) (length bytes) 0 mode channel given ↔ (given ≡ step_answer constants S who (FdWrite fd bytes))

-- the reply to a sock_send of which so many bytes are taken
abbrev pub sent : ℕ → Reply
sent count = record (success 0 0) { payload = Sent count }

-- What a sock_send of these bytes and of so many descriptors comes to.
pub data SendComesTo (S : State) (table : Table) (fd size count : ℕ) : Answer → Type 0 where
  -- NOTSOCK: it is of no socket
  no_socket : IsNoSocket S table fd → SendComesTo S table fd size count (answer.Reply (refused Notsock))
  -- else it is a write to the channel that the socket writes
  to_channel : (r w mode : ℕ) (channel : Channel) (given : Answer) → IsSocket S table fd r w mode → get S.chans w ≡ Some channel
      → PutComesTo sent size count mode channel given → SendComesTo S table fd size count given

abbrev pub SendIsListed : Type 0
SendIsListed =
    (constants : Constants) (S : State) (who : Who) (fd : ℕ) (bytes fds : List ℕ) (flags : ℕ) (table : Table) (own : ProcessState) (given : Answer)
    → IsUnrefused S who (SockSend fd bytes fds flags) table own
    → SendComesTo S table fd (length bytes) (length fds) given ↔ (given ≡ step_answer constants S who (SockSend fd bytes fds flags))

-- ---- fd_read

-- a byte at least is asked for, none waits, and some may still come
abbrev pub FindsNothing : ℕ → Channel → Type 0
FindsNothing n channel = (0 < n) × (length (bytes_of channel.waiting) ≡ 0) × AreOpen channel

-- What a read of at most n bytes of the channel comes to, by an end with these flags.
pub data TakeComesTo (n mode : ℕ) (channel : Channel) : Verdict → Type 0 where
  -- AGAIN: it finds nothing, and the end doesn't wait
  no_byte : FindsNothing n channel → IsNonblocking mode → TakeComesTo n mode channel (fails Again)
  -- it finds nothing, and the thread waits
  awaits_byte : FindsNothing n channel → ¬ IsNonblocking mode → TakeComesTo n mode channel waits
  -- else it is done
  taken : ¬ FindsNothing n channel → TakeComesTo n mode channel done

-- What an fd_read of an end that reads this channel comes to.
abbrev pub ReadIsListed : Type 0
ReadIsListed =
    (constants : Constants) (S : State) (who : Who) (fd n : ℕ) (table : Table) (own : ProcessState) (r : ℕ) (writes : Option ℕ) (mode : ℕ)
    (form : ChanKind) (channel : Channel) (verdict : Verdict) → IsUnrefused S who (FdRead fd n) table own
    → IsOpenOn S table fd (End (Some r) writes mode form) → get S.chans r ≡ Some channel
    → TakeComesTo n mode channel verdict ↔ (verdict ≡ verdict_of (step_answer constants S who (FdRead fd n)))

-- ---- sock_recv

-- no send behind the first one carries descriptors, which would bound what may be taken
abbrev pub IsUnbounded : List Send → Type 0
IsUnbounded [] = ⊤
IsUnbounded (first ∷ rest) = AllByRecursion (λ (send : Send). send.carried ≡ []) rest

-- fewer bytes wait than are asked for, more may still come, and nothing bounds them
abbrev pub FindsTooFew : ℕ → Channel → Type 0
FindsTooFew n channel = (length (bytes_of channel.waiting) < n) × AreOpen channel × IsUnbounded channel.waiting

-- a receive of n bytes with these flags can't go on: it finds nothing, or with WAITALL too few
abbrev pub MustWait : ℕ → ℕ → Channel → Type 0
MustWait n flags channel = FindsNothing n channel ⊎ ((bit_and flags SOCK_RECV_WAITALL ≢ 0) × FindsTooFew n channel)

abbrev pub Looks : ℕ → Type 0
Looks flags = bit_and flags SOCK_RECV_PEEK ≢ 0

-- how many descriptors come with n bytes to a place with so much room: those that the first send carries, with its first byte
abbrev pub brought : ℕ → ℕ → List Send → ℕ
brought zero room waiting = 0
brought (suc n) room [] = 0
brought (suc n) room (first ∷ rest) = min room (length first.carried)

-- What a sock_recv of at most n bytes and of so many descriptors comes to.
pub data ReceiveComesTo (S : State) (table : Table) (fd n room flags : ℕ) : Verdict → Type 0 where
  -- NOTSOCK: it is of no socket
  no_socket : IsNoSocket S table fd → ReceiveComesTo S table fd n room flags (fails Notsock)
  -- AGAIN: it can't go on, and the socket doesn't wait
  no_bytes : (r w mode : ℕ) (channel : Channel) → IsSocket S table fd r w mode → get S.chans r ≡ Some channel → MustWait n flags channel
      → IsNonblocking mode → ReceiveComesTo S table fd n room flags (fails Again)
  -- it can't go on, and the thread waits
  awaits_bytes : (r w mode : ℕ) (channel : Channel) → IsSocket S table fd r w mode → get S.chans r ≡ Some channel → MustWait n flags channel
      → ¬ IsNonblocking mode → ReceiveComesTo S table fd n room flags waits
  -- with PEEK it is done, and takes nothing
  looked : (r w mode : ℕ) (channel : Channel) → IsSocket S table fd r w mode → get S.chans r ≡ Some channel → ¬ MustWait n flags channel → Looks flags
      → ReceiveComesTo S table fd n room flags done
  -- MFILE: fewer numbers are free than descriptors come
  no_numbers : (r w mode : ℕ) (channel : Channel) → IsSocket S table fd r w mode → get S.chans r ≡ Some channel → ¬ MustWait n flags channel
      → ¬ Looks flags → free_within table 1024 0 < brought n room channel.waiting → ReceiveComesTo S table fd n room flags (fails Mfile)
  -- else it is done
  received : (r w mode : ℕ) (channel : Channel) → IsSocket S table fd r w mode → get S.chans r ≡ Some channel → ¬ MustWait n flags channel
      → ¬ Looks flags → brought n room channel.waiting ≤ free_within table 1024 0 → ReceiveComesTo S table fd n room flags done

abbrev pub ReceiveIsListed : Type 0
ReceiveIsListed =
    (constants : Constants) (S : State) (who : Who) (fd n room flags : ℕ) (table : Table) (own : ProcessState) (verdict : Verdict)
    → IsUnrefused S who (SockRecv fd n room flags) table own
    → ReceiveComesTo S table fd n room flags verdict ↔ (verdict ≡ verdict_of (step_answer constants S who (SockRecv fd n room flags)))
