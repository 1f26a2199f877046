-- What registers and memory that encode a call say of its output: each byte of it is written, and so are the words of a poll and of
-- thread_exit, and the places of what comes or goes by a socket.
use Rattle.std.specs.Prelude.{◌≡◌, ◌⊎◌, ◌≤◌, ◌<◌, ◌+◌, ◌*◌, ◌/◌, ◌%◌, ◌^◌, ℕ, true, false, List, [], ◌∷◌, take, drop, length, min, slice_index, Ok, IsOk, Option, Some, option_map}
use Rattle.std.specs.FinMap.{get}
use Rattle.std.specs.Int.{w32, to_le_bytes}
use Rattle.abi_base.specs.declared.address_space.TheConstants.{PAGE_SIZE}
use Rattle.abi_base.specs.declared.prot.Prot.{Prot}
use Rattle.abi_base.specs.Registers.{Registers}
use Rattle.abi_structures.specs.declared.events.Event.{Event}
use Rattle.abi_structures.specs.declared.events.Subscription.{Subscription}
use Rattle.abi_structures.specs.declared.events.What.{What}
use Rattle.abi_structures.specs.declared.events.What.TheVariants as what
use Rattle.abi_structures.specs.declared.structures.FdStat.{FdStat}
use Rattle.abi_structures.specs.declared.structures.FileStat.{FileStat}
use Rattle.abi_structures.specs.declared.structures.Iovec.{Iovec}
use Rattle.abi_structures.specs.declared.structures.RecvIn.{RecvIn}
use Rattle.abi_types.specs.declared.call.Call.TheVariants.{CondvarSignal, FdPread, FdRead, FdStatGet, FileReaddir, FileReadlink, FileStatFget, FileStatGet, LockUnlock, MemMap, Poll, RandomGet, SockRecv, SockSend, ThreadExit}
use Rattle.abi_types.specs.declared.call.Lookup.{Lookup}
use Rattle.abi_types.specs.declared.place.Place.TheVariants.{At}
use Rattle.abi_types.specs.declared.reply.Payload.{Payload}
use Rattle.abi_types.specs.declared.reply.WordWrites.{WordWrites}
use Rattle.abi_types.specs.declared.reply.WordWrites.TheVariants as words
use Rattle.guest_memory.specs.Page.{Pages}
use Rattle.guest_memory.specs.Ranges.{in_range}
use Rattle.guest_memory.specs.Written.{write_of}
use Rattle.codec_arguments.specs.Arguments.{argument}
use Rattle.codec_arguments.specs.Ranges.{ranges_at}
use Rattle.codec_arguments.specs.Structures.{recv_in_at}
use Rattle.codec_arguments.specs.declared.ranges.TheConstants.{MOST_TRANSFERRED}
use Rattle.codec_calls.specs.declared.process_calls.TheConstants.{MOST_RANDOM}
use Rattle.codec_calls.specs.declared.socket_calls.TheConstants.{MOST_SENT_DESCRIPTORS}
use Rattle.call_codec.specs.Arguments.{args_of, encoded_call}
use Rattle.call_codec.specs.MemoryCalls.{pages_in, prot_of}
use Rattle.call_codec.specs.Output.{content_of, event_bytes, events_bytes, fdstat_bytes, filestat_bytes, message_ranges, received_of, recv_out_bytes, scattered, send_out_bytes, with_bytes, with_descriptors, with_word, with_words}
use Rattle.call_codec.specs.Put.{memory_after}

-- bytes go into ranges, one after another: each write is made, and no byte is left over
abbrev pub AreWrittenInto : Pages → List Iovec → List ℕ → Type 0
AreWrittenInto m [] bytes = bytes ≡ []
AreWrittenInto m (range ∷ ranges) bytes =
    IsOk (write_of m range.address (take range.length bytes))
    × AreWrittenInto (with_bytes m range.address (take range.length bytes)) ranges (drop range.length bytes)

-- the iovec array that the registers name can be read, and bytes, up to so many, go into its ranges
abbrev pub TakesBytes : Pages → Registers → ℕ → Type 0
TakesBytes m r most =
    (ranges : List Iovec) × (ranges_at m (argument r 1) (argument r 2) ≡ Ok ranges)
    × ((bytes : List ℕ) → length bytes ≤ most → AreWrittenInto m ranges bytes)

-- Where fd_pread or fd_read is encoded, as many bytes as it asks for at most are written.
abbrev pub PreadIsWritten : Type 0
PreadIsWritten = (m : Pages) (r : Registers) (left fd most offset : ℕ) → args_of m r left ≡ FdPread fd most offset → TakesBytes m r most

abbrev pub ReadIsWritten : Type 0
ReadIsWritten = (m : Pages) (r : Registers) (left fd most : ℕ) → args_of m r left ≡ FdRead fd most → TakesBytes m r most

-- Where fd_stat_get is encoded, a descriptor's state is written.
abbrev pub StateIsWritten : Type 0
StateIsWritten =
    (m : Pages) (r : Registers) (left fd : ℕ) (stat : FdStat) → args_of m r left ≡ FdStatGet fd → IsOk (write_of m (argument r 1) (fdstat_bytes stat))

-- bytes, as many as there is room for and 65,536 at most, are written from an address on
abbrev pub TakesUpTo : Pages → ℕ → ℕ → Type 0
TakesUpTo m a room = (bytes : List ℕ) → length bytes ≤ min room MOST_TRANSFERRED → IsOk (write_of m a bytes)

-- Where file_readdir is encoded, as many bytes of entries as it has room for are written.
abbrev pub EntriesAreWritten : Type 0
EntriesAreWritten =
    (m : Pages) (r : Registers) (left fd room cookie : ℕ) → args_of m r left ≡ FileReaddir fd room cookie → TakesUpTo m (argument r 1) room

-- Where file_readlink is encoded, as many bytes of the text as it has room for are written.
abbrev pub LinkIsWritten : Type 0
LinkIsWritten =
    (m : Pages) (r : Registers) (left fd : ℕ) (path : List ℕ) (room : ℕ) → args_of m r left ≡ FileReadlink fd path room
    → TakesUpTo m (argument r 3) room

-- a file's state is written from an address on, all of its 56 bytes
abbrev pub TakesFileState : Pages → ℕ → Type 0
TakesFileState m a = (stat : FileStat) → (length (filestat_bytes stat) ≡ 56) × IsOk (write_of m a (filestat_bytes stat))

-- Where file_stat_fget or file_stat_get is encoded, a file's state is written.
abbrev pub OpenStateIsWritten : Type 0
OpenStateIsWritten = (m : Pages) (r : Registers) (left fd : ℕ) → args_of m r left ≡ FileStatFget fd → TakesFileState m (argument r 1)

abbrev pub FoundStateIsWritten : Type 0
FoundStateIsWritten =
    (m : Pages) (r : Registers) (left : ℕ) (lookup : Lookup) (path : List ℕ) → args_of m r left ≡ FileStatGet lookup path
    → TakesFileState m (argument r 3)

-- Where random_get is encoded, it asks for at most 65,536 bytes, and as many are written.
abbrev pub RandomIsWritten : Type 0
RandomIsWritten =
    (m : Pages) (r : Registers) (left size : ℕ) → args_of m r left ≡ RandomGet size
    → (size ≤ MOST_RANDOM) × ((bytes : List ℕ) → length bytes ≤ size → IsOk (write_of m (argument r 0) bytes))

-- From an address on an event is written, of 32 bytes, and as many events as there are places for, one directly behind the other, also
-- after words were written.
pub record TakesEvents (m : Pages) (a places : ℕ) : Type 0 where
  pub one : (writes : WordWrites) (event : Event) → 0 < places
      → (length (event_bytes event) ≡ 32) × IsOk (write_of (with_words m writes) a (event_bytes event))
  pub all : (writes : WordWrites) (events : List Event) → length events ≤ places
      → (length (events_bytes events) ≡ 32 * length events) × IsOk (write_of (with_words m writes) a (events_bytes events))

-- Where poll is encoded, as many events as it has subscriptions are written.
abbrev pub EventsAreWritten : Type 0
EventsAreWritten =
    (m : Pages) (r : Registers) (left : ℕ) (subscriptions : List Subscription) → encoded_call m r left ≡ Poll subscriptions
    → TakesEvents m (argument r 1) (length subscriptions)

-- a lock or a condition variable that is waited for has this address
abbrev pub HasWord : What → ℕ → Type 0
HasWord (what.Condvar condvar condvar_word lock lock_word condvar_scope lock_scope) a = (a ≡ condvar) ⊎ (a ≡ lock)
HasWord (what.LockRdlock lock word scope) a = a ≡ lock
HasWord (what.LockWrlock lock word scope) a = a ≡ lock
HasWord other a = ⊥

-- the words are of those
abbrev pub AreWordsOf : What → WordWrites → Type 0
AreWordsOf waited words.Zero = Unit {0}
AreWordsOf waited (words.One write) = HasWord waited write.address
AreWordsOf waited (words.Two first second) = HasWord waited first.address × HasWord waited second.address

-- each word is written
abbrev pub AreWordsWritten : Pages → WordWrites → Type 0
AreWordsWritten m words.Zero = Unit {0}
AreWordsWritten m (words.One write) = IsOk (write_of m write.address (to_le_bytes w32 write.word))
AreWordsWritten m (words.Two first second) =
    IsOk (write_of m first.address (to_le_bytes w32 first.word))
    × IsOk (write_of (with_word m first) second.address (to_le_bytes w32 second.word))

-- Where poll is encoded, the words of the lock and the condition variable of its first subscription are written.
abbrev pub WordsAreWritten : Type 0
WordsAreWritten =
    (m : Pages) (r : Registers) (left : ℕ) (first : Subscription) (others : List Subscription) (writes : WordWrites)
    → encoded_call m r left ≡ Poll (first ∷ others) → AreWordsOf first.what writes → AreWordsWritten m writes

-- Where thread_exit is encoded, the word of the lock that it lets go is written, whatever it becomes.
abbrev pub ExitWordIsWritten : Type 0
ExitWordIsWritten =
    (m : Pages) (r : Registers) (left lock word scope becomes : ℕ) → args_of m r left ≡ ThreadExit lock word scope
    → IsOk (write_of m lock (to_le_bytes w32 becomes))

-- Where lock_unlock is encoded, the word of the lock is written, whatever it becomes.
abbrev pub UnlockWordIsWritten : Type 0
UnlockWordIsWritten =
    (m : Pages) (r : Registers) (left lock word scope becomes : ℕ) → args_of m r left ≡ LockUnlock lock word scope
    → IsOk (write_of m lock (to_le_bytes w32 becomes))

-- Where condvar_signal is encoded, the word of the condition variable is written, whatever it becomes.
abbrev pub SignalWordIsWritten : Type 0
SignalWordIsWritten =
    (m : Pages) (r : Registers) (left condvar word scope n becomes : ℕ) → args_of m r left ≡ CondvarSignal condvar word scope n
    → IsOk (write_of m condvar (to_le_bytes w32 becomes))

-- each number of a descriptor is written, one directly behind the other
abbrev pub AreNumbersWritten : Pages → ℕ → List ℕ → Type 0
AreNumbersWritten m a [] = Unit {0}
AreNumbersWritten m a (fd ∷ fds) =
    IsOk (write_of m a (to_le_bytes w32 fd)) × AreNumbersWritten (with_bytes m a (to_le_bytes w32 fd)) ((a + 4) % 2 ^ 64) fds

-- A message is written whole that goes into these ranges and to these places: its bytes, then its descriptors, and then how much it was.
pub record IsMessageWritten (m : Pages) (out : ℕ) (places : RecvIn) (ranges : List Iovec) (bytes fds : List ℕ) (flags : ℕ) : Type 0 where
  pub content : AreWrittenInto m ranges bytes
  pub numbers : AreNumbersWritten (scattered m ranges bytes) places.fds fds
  pub size : length (recv_out_bytes (received_of bytes fds flags)) ≡ 24
  pub sum : IsOk (write_of (with_descriptors (scattered m ranges bytes) places.fds fds) out (recv_out_bytes (received_of bytes fds flags)))

-- The structure that the registers name can be read and its iovec array too, and a message of up to so many bytes and so many
-- descriptors, of which at most 16 come, is written.
pub record TakesMessage (m : Pages) (r : Registers) (most most_fds : ℕ) : Type 0 where
  pub places : RecvIn
  pub found : recv_in_at m (argument r 1) ≡ Ok places
  pub ranges : List Iovec
  pub read : message_ranges m places ≡ Ok ranges
  pub written : (bytes fds : List ℕ) (flags : ℕ) → length bytes ≤ most → length fds ≤ min most_fds MOST_SENT_DESCRIPTORS
      → IsMessageWritten m (argument r 2) places ranges bytes fds flags

-- Where sock_recv is encoded, a message of up to as many bytes and descriptors as it asks for is written.
abbrev pub MessageIsWritten : Type 0
MessageIsWritten =
    (m : Pages) (r : Registers) (left fd most fds flags : ℕ) → encoded_call m r left ≡ SockRecv fd most fds flags → TakesMessage m r most fds

-- how many bytes were sent is written
abbrev pub TakesSent : Pages → Registers → Type 0
TakesSent m r =
    (count : ℕ) → (length (send_out_bytes (record { datalen = count })) ≡ 8) × IsOk (write_of m (argument r 2) (send_out_bytes (record { datalen = count })))

-- Where sock_send is encoded, how many bytes it sent is written.
abbrev pub SentIsWritten : Type 0
SentIsWritten =
    (m : Pages) (r : Registers) (left fd : ℕ) (bytes fds : List ℕ) (flags : ℕ) → encoded_call m r left ≡ SockSend fd bytes fds flags → TakesSent m r

-- the byte that stands at an address, if its page is there
abbrev pub standing : Pages → ℕ → Option ℕ
standing m a = option_map (λ p. slice_index p.bytes (a % PAGE_SIZE)) (get m (a / PAGE_SIZE))

-- The k pages from an address on have these rights in the second memory, and these bytes, as many as they have room for, with zeros
-- behind the last. All other pages are as they were.
pub record AreFilled (m : Pages) (a k : ℕ) (prot : Prot) (bytes : List ℕ) (after : Pages) : Type 0 where
  pub rights : (q : ℕ) → in_range (a / PAGE_SIZE) k q ≡ true → option_map (λ p. p.prot) (get after q) ≡ Some prot
  pub stands : (i : ℕ) → i < PAGE_SIZE * k → standing after (a + i) ≡ Some (slice_index bytes i)
  pub others : (q : ℕ) → in_range (a / PAGE_SIZE) k q ≡ false → get after q ≡ get m q

-- Where mem_map is encoded, the bytes that it gives stand in its pages, whatever their rights are.
abbrev pub MappingIsFilled : Type 0
MappingIsFilled =
    (m : Pages) (r : Registers) (left a size prot flags fd offset : ℕ) (payload : Payload) → args_of m r left ≡ MemMap (At a) size prot flags fd offset
    → AreFilled m a (pages_in size) (prot_of prot) (content_of payload) (memory_after m r (MemMap (At a) size prot flags fd offset) payload)
