-- What an answer leaves of a guest's pages that can't be written, and of those that can be executed and not written.
--     code_is_kept      an answer leaves the latter where none of the pages that it changes can be executed
--     words_keep_code, woken_code      words and the output of a call in which a thread waited leave them
--     answer_keeps_code      the same of a memory with the room for the answer
use Rattle.std.proofs.Common.{◌≡◌, ℕ, true, false, List, [], ◌∷◌, ◌+◌, ◌/◌, ◌%◌, ◌^◌, take, drop, length, Some, None, option_map, Result, Ok, Err, IsOk, refl, sym, ap, subst, ◌∙◌}
use Rattle.std.specs.FinMap.{get}
use Rattle.std.specs.Int.{w32, to_le_bytes}
use Rattle.abi_base.specs.declared.errno.Errno.{Errno}
use Rattle.abi_base.specs.declared.errno.Errno.TheVariants.{Success}
use Rattle.abi_base.specs.Registers.{Registers}
use Rattle.abi_structures.specs.declared.structures.Iovec.{Iovec}
use Rattle.abi_structures.specs.declared.structures.RecvIn.{RecvIn}
use Rattle.abi_types.specs.declared.call.Call.{Call}
use Rattle.abi_types.specs.declared.call.Call.TheVariants.{CondvarSignal, FdPread, FdRead, FdStatGet, FileReaddir, FileReadlink, FileStatFget, FileStatGet, FdWrite, LockUnlock, MemMap, Memory, Poll, RandomGet, SockRecv, SockSend, ThreadExit}
use Rattle.abi_types.specs.declared.call_number.CallNumber.{CallNumber}
use Rattle.abi_types.specs.declared.call_number.CallNumber.TheVariants.{MemProtect, MemUnmap}
use Rattle.abi_types.specs.declared.place.Place.TheVariants as place
use Rattle.abi_types.specs.declared.place.Place.TheVariants.{At}
use Rattle.abi_types.specs.declared.reply.Answer.{Answer}
use Rattle.abi_types.specs.declared.reply.Answer.TheVariants as answer
use Rattle.abi_types.specs.declared.reply.Payload.{Payload}
use Rattle.abi_types.specs.declared.reply.WordWrites.{WordWrites}
use Rattle.abi_types.specs.declared.reply.WordWrites.TheVariants as words
use Rattle.abi_types.specs.declared.reply.Payload.TheVariants as payload
use Rattle.codec_arguments.specs.Arguments.{argument, low}
use Rattle.codec_arguments.specs.Ranges.{ranges_at}
use Rattle.codec_arguments.specs.Structures.{recv_in_at}
use Rattle.call_codec.specs.Arguments.{args_of}
use Rattle.call_codec.specs.Given.{CanWait}
use Rattle.call_codec.specs.MemoryCalls.{changed_by, changed_pages, on_success, pages_in, prot_of, with_change}
use Rattle.call_codec.specs.Output.{into_places, into_ranges, message_ranges, or_unwritten, received_of, scattered, with_bytes, with_content, with_descriptors, with_message, with_payload, with_received, with_sent}
use Rattle.call_codec.specs.Output.{with_word, with_words, event_bytes, events_bytes, fdstat_bytes, filestat_bytes, recv_out_bytes, send_out_bytes}
use Rattle.call_codec.specs.Put.{answered_memory, memory_after, worded_memory, AnswerKeepsCode, IsRoomFor}
use Rattle.call_codec.proofs.Mappings.{mapping_filled}
use Rattle.guest_memory.specs.declared.access.Access.TheVariants.{Write}
use Rattle.guest_memory.specs.declared.fault.MemFault.{MemFault}
use Rattle.guest_memory.specs.Bytes.{bytes_from}
use Rattle.guest_memory.specs.Changes.{protected, without_pages}
use Rattle.guest_memory.specs.Mapping.{AreSameOutside, NoneExecutable}
use Rattle.guest_memory.specs.Page.{Pages, with_prot}
use Rattle.guest_memory.specs.Ranges.{in_range}
use Rattle.guest_memory.specs.Room.{without_each}
use Rattle.guest_memory.specs.Written.{KeepsCode, KeepsUnwritable, written_over}
use Rattle.guest_memory.proofs.Changes.{are_protected, are_unmapped}
use Rattle.guest_memory.proofs.ListedPages.{room_keeps_code, same_without}
use Rattle.guest_memory.proofs.PageRanges.{changed_outside, not_both}
use Rattle.guest_memory.proofs.Writes.{unwritable_kept}

-- ---- pages that can't be written

same_keeps : (m : Pages) → KeepsUnwritable m m
same_keeps m q p there locked = there

keeps_both : (m n o : Pages) → KeepsUnwritable m n → KeepsUnwritable n o → KeepsUnwritable m o
keeps_both m n o f g q p there locked = g q p (f q p there locked) locked

keeps_over : (m : Pages) (a : ℕ) (bytes : List ℕ) (before : Result (List ℕ) MemFault) → bytes_from Write m a (length bytes) ≡ before
    → KeepsUnwritable m (or_unwritten m (written_over m a bytes before))
keeps_over m a bytes (Ok before) e = unwritable_kept bytes m a (subst IsOk (sym e) refl)
keeps_over m a bytes (Err fault) e = same_keeps m

keeps_bytes : (m : Pages) (a : ℕ) (bytes : List ℕ) → KeepsUnwritable m (with_bytes m a bytes)
keeps_bytes m a bytes = keeps_over m a bytes (bytes_from Write m a (length bytes)) refl

keeps_words : (m : Pages) (writes : WordWrites) → KeepsUnwritable m (with_words m writes)
keeps_words m words.Zero = same_keeps m
keeps_words m (words.One write) = keeps_bytes m write.address (to_le_bytes w32 write.word)
keeps_words m (words.Two first second) =
    keeps_both m (with_word m first) (with_word (with_word m first) second) (keeps_bytes m first.address (to_le_bytes w32 first.word))
    (keeps_bytes (with_word m first) second.address (to_le_bytes w32 second.word))

keeps_scattered : (m : Pages) (ranges : List Iovec) (bytes : List ℕ) → KeepsUnwritable m (scattered m ranges bytes)
keeps_scattered m [] bytes = same_keeps m
keeps_scattered m (range ∷ ranges) bytes =
    keeps_both m (with_bytes m range.address (take range.length bytes)) _ (keeps_bytes m range.address (take range.length bytes))
    (keeps_scattered (with_bytes m range.address (take range.length bytes)) ranges (drop range.length bytes))

keeps_ranges : (m : Pages) (ranges : Result (List Iovec) MemFault) (bytes : List ℕ) → KeepsUnwritable m (into_ranges m ranges bytes)
keeps_ranges m (Ok ranges) bytes = keeps_scattered m ranges bytes
keeps_ranges m (Err fault) bytes = same_keeps m

keeps_content : (m : Pages) (r : Registers) (given : Payload) → KeepsUnwritable m (with_content m r given)
keeps_content m r (payload.Content bytes) = keeps_ranges m (ranges_at m (argument r 1) (argument r 2)) bytes
keeps_content m r _ = same_keeps m

keeps_payload : (m : Pages) (a : ℕ) (given : Payload) → KeepsUnwritable m (with_payload m a given)
keeps_payload m a (payload.Content bytes) = keeps_bytes m a bytes
keeps_payload m a (payload.FdStat stat) = keeps_bytes m a (fdstat_bytes stat)
keeps_payload m a (payload.FileStat stat) = keeps_bytes m a (filestat_bytes stat)
keeps_payload m a (payload.Event event) = keeps_bytes m a (event_bytes event)
keeps_payload m a (payload.Events events) = keeps_bytes m a (events_bytes events)
keeps_payload m a _ = same_keeps m

keeps_events : (m : Pages) (r : Registers) (writes : WordWrites) (given : Payload)
    → KeepsUnwritable m (with_payload (with_words m writes) (argument r 1) given)
keeps_events m r writes given =
    keeps_both m (with_words m writes) (with_payload (with_words m writes) (argument r 1) given) (keeps_words m writes)
    (keeps_payload (with_words m writes) (argument r 1) given)

keeps_descriptors : (fds : List ℕ) (m : Pages) (a : ℕ) → KeepsUnwritable m (with_descriptors m a fds)
keeps_descriptors [] m a = same_keeps m
keeps_descriptors (fd ∷ fds) m a =
    let after = with_bytes m a (to_le_bytes w32 fd) in
    keeps_both m after (with_descriptors after ((a + 4) % 2 ^ 64) fds) (keeps_bytes m a (to_le_bytes w32 fd)) (keeps_descriptors fds after ((a + 4) % 2 ^ 64))

keeps_message : (m : Pages) (out : ℕ) (places : RecvIn) (bytes fds : List ℕ) (flags : ℕ) → KeepsUnwritable m (with_message m out places bytes fds flags)
keeps_message m out places bytes fds flags =
    let first = into_ranges m (message_ranges m places) bytes in
    let second = with_descriptors first places.fds fds in
    keeps_both m second (with_message m out places bytes fds flags)
    (keeps_both m first second (keeps_ranges m (message_ranges m places) bytes) (keeps_descriptors fds first places.fds))
    (keeps_bytes second out (recv_out_bytes (received_of bytes fds flags)))

keeps_places : (m : Pages) (out : ℕ) (places : Result RecvIn Errno) (bytes fds : List ℕ) (flags : ℕ)
    → KeepsUnwritable m (into_places m out places bytes fds flags)
keeps_places m out (Ok places) bytes fds flags = keeps_message m out places bytes fds flags
keeps_places m out (Err errno) bytes fds flags = same_keeps m

keeps_received : (m : Pages) (r : Registers) (given : Payload) → KeepsUnwritable m (with_received m r given)
keeps_received m r (payload.Received bytes fds flags) = keeps_places m (argument r 2) (recv_in_at m (argument r 1)) bytes fds flags
keeps_received m r _ = same_keeps m

keeps_sent : (m : Pages) (r : Registers) (given : Payload) → KeepsUnwritable m (with_sent m r given)
keeps_sent m r (payload.Sent count) = keeps_bytes m (argument r 2) (send_out_bytes (record { datalen = count }))
keeps_sent m r _ = same_keeps m

-- ---- pages that can be executed and not written

as_code : (m n : Pages) → KeepsUnwritable m n → KeepsCode m n
as_code m n keeps q p there locked exec = keeps q p there locked

pub same_code : (m : Pages) → KeepsCode m m
same_code m q p there locked exec = there

pub words_keep_code : (m : Pages) (writes : WordWrites) → KeepsCode m (with_words m writes)
words_keep_code m writes = as_code m (with_words m writes) (keeps_words m writes)

-- they stay where none of the pages that change can be executed
outside_code : (m n : Pages) (first k : ℕ) → NoneExecutable m first k → AreSameOutside m first k n → KeepsCode m n
outside_code m n first k none same q p there locked exec =
    elim (in_range first k q) as (λ b. in_range first k q ≡ b → get n q ≡ Some p) [
      | true ↦ λ e. absurd (not_both p.prot.exec exec (none q p e there))
      | false ↦ λ e. same q e ∙ there
    ] refl

-- the pages that a call changes, if it succeeds, are among those of its range
changed_code : (m : Pages) (r : Registers) (number : CallNumber)
    → NoneExecutable m ((changed_by r number).0 / 4096) (changed_by r number).1 → KeepsCode m (with_change m r number)
changed_code m r MemProtect none =
    let n = argument r 0 / 4096 in let k = pages_in (argument r 1) in let prot = prot_of (low (argument r 2)) in
    outside_code m (protected m n k prot) n k none
    (changed_outside (option_map (with_prot prot)) m n k (protected m n k prot) (are_protected k m n prot))
changed_code m r MemUnmap none =
    let n = argument r 0 / 4096 in let k = pages_in (argument r 1) in
    outside_code m (without_pages m n k) n k none (changed_outside (λ _. None) m n k (without_pages m n k) (are_unmapped m n k))
changed_code m r other none = same_code m

succeeded_code : (m n : Pages) (errno : Errno) → (errno ≡ Success → KeepsCode m n) → KeepsCode m (on_success errno n m)
succeeded_code m n Success h = h refl
succeeded_code m n other h = same_code m

code_after : (m : Pages) (r : Registers) (left : ℕ) (call : Call) (writes : WordWrites) (given : Payload) → call ≡ args_of m r left
    → NoneExecutable m ((changed_pages r call).0 / 4096) (changed_pages r call).1 → KeepsCode m (memory_after (worded_memory m call writes) r call given)
code_after m r left (FdPread fd size offset) writes given encoded none = as_code m _ (keeps_content m r given)
code_after m r left (FdRead fd size) writes given encoded none = as_code m _ (keeps_content m r given)
code_after m r left (FdStatGet fd) writes given encoded none = as_code m _ (keeps_payload m (argument r 1) given)
code_after m r left (FileReaddir fd size cookie) writes given encoded none = as_code m _ (keeps_payload m (argument r 1) given)
code_after m r left (FileReadlink fd path size) writes given encoded none = as_code m _ (keeps_payload m (argument r 3) given)
code_after m r left (FileStatFget fd) writes given encoded none = as_code m _ (keeps_payload m (argument r 1) given)
code_after m r left (FileStatGet lookup path) writes given encoded none = as_code m _ (keeps_payload m (argument r 3) given)
code_after m r left (MemMap (At a) size prot flags fd offset) writes given encoded none =
    let filled = mapping_filled m r left a size prot flags fd offset given (sym encoded) in
    outside_code m _ (a / 4096) (pages_in size) none filled.others
code_after m r left (MemMap (place.Refused errno) size prot flags fd offset) writes given encoded none = same_code m
code_after m r left (Memory number errno) writes given encoded none =
    succeeded_code m (with_change m r number) errno (λ done. changed_code m r number none)
code_after m r left (Poll subscriptions) writes given encoded none = as_code m _ (keeps_events m r writes given)
code_after m r left (RandomGet size) writes given encoded none = as_code m _ (keeps_payload m (argument r 0) given)
code_after m r left (SockRecv fd size fds flags) writes given encoded none = as_code m _ (keeps_received m r given)
code_after m r left (SockSend fd bytes fds flags) writes given encoded none = as_code m _ (keeps_sent m r given)
code_after m r left (ThreadExit lock word scope) writes given encoded none = words_keep_code m writes
code_after m r left (LockUnlock lock word scope) writes given encoded none = words_keep_code m writes
code_after m r left (CondvarSignal condvar word scope n) writes given encoded none = words_keep_code m writes
code_after m r left _ writes given encoded none = same_code m

-- the answer is a reply that the call succeeded
abbrev pub Succeeds : Answer → Type 0
Succeeds (answer.Parked writes) = ⊥
Succeeds (answer.Reply reply) = reply.errno ≡ Success

pub code_is_kept : (m : Pages) (r : Registers) (left : ℕ) (call : Call) (given : Answer) → call ≡ args_of m r left
    → (Succeeds given → NoneExecutable m ((changed_pages r call).0 / 4096) (changed_pages r call).1) → KeepsCode m (answered_memory m r call given)
code_is_kept m r left call (answer.Parked writes) encoded none = words_keep_code m writes
code_is_kept m r left call (answer.Reply reply) encoded none =
    succeeded_code m (memory_after (worded_memory m call reply.writes) r call reply.payload) reply.errno
    (λ done. code_after m r left call reply.writes reply.payload encoded (none done))

-- ---- a call in which a thread waited

pub woken_code : (m : Pages) (r : Registers) (call : Call) (writes : WordWrites) (given : Payload) → CanWait call
    → KeepsCode m (memory_after (worded_memory m call writes) r call given)
woken_code m r (FdRead fd size) writes given can = as_code m _ (keeps_content m r given)
woken_code m r (FdWrite fd bytes) writes given can = same_code m
woken_code m r (Poll subscriptions) writes given can = as_code m _ (keeps_events m r writes given)
woken_code m r (SockRecv fd size fds flags) writes given can = as_code m _ (keeps_received m r given)
woken_code m r (SockSend fd bytes fds flags) writes given can = as_code m _ (keeps_sent m r given)
woken_code m r _ writes given can = absurd can

-- ---- the room for an answer

none_keeps_code : (numbers : List ℕ) (m : Pages) → numbers ≡ [] → KeepsCode m (without_each numbers m)
none_keeps_code numbers m none q p there locked exec = ap (λ ns. get (without_each ns m) q) none ∙ there

room_code : (call : Call) (numbers : List ℕ) (m : Pages) → IsRoomFor call numbers m → KeepsCode m (without_each numbers m)
room_code (MemMap (At a) size prot flags fd offset) numbers m room = room_keeps_code numbers (a / 4096) (pages_in size) m room
room_code (MemMap (place.Refused errno) size prot flags fd offset) numbers m none = none_keeps_code numbers m none
room_code other numbers m none = none_keeps_code numbers m none

pub answer_keeps_code : (m : Pages) (r : Registers) (call : Call) (given : Answer)
    → (Succeeds given → NoneExecutable m ((changed_pages r call).0 / 4096) (changed_pages r call).1) → AnswerKeepsCode m r call given
answer_keeps_code m r call given none numbers room encoded q p there locked exec =
    code_is_kept (without_each numbers m) r encoded.0 call given encoded.1
    (λ done i page within has. none done i page within (same_without numbers m i page has)) q p
    (room_code call numbers m room q p there locked exec) locked exec
