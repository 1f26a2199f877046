-- What a call's answer leaves of the caller's registers and memory. After a reply a0 has the error, on SUCCESS a1 and a2 have the
-- call's results, and the pc goes on after the ECALL; every other register stays. On SUCCESS the calls about memory change it, and what
-- a call gives beside its results is written into it. Where the thread waits in the call, words are written, and its registers stay.
use Rattle.std.specs.Prelude.{◌≡◌, ◌≤◌, ℕ, ◌+◌, ◌/◌, ◌%◌, ◌^◌, List, []}
use Rattle.abi_base.specs.declared.address_space.TheConstants.{PAGE_SIZE}
use Rattle.abi_types.specs.declared.reply.Answer.{Answer}
use Rattle.abi_types.specs.declared.reply.Answer.TheVariants as answer
use Rattle.abi_types.specs.declared.call.Call.{Call}
use Rattle.abi_types.specs.declared.call.Call.TheVariants.{ClockResGet, ClockTimeGet, CondvarSignal, FdCreate2, FdDup, FdPread, FdPwrite, FdRead, FdSeek, FdStatGet, FdWrite, FileOpen, FileReaddir, FileReadlink, FileStatFget, FileStatGet, LockUnlock, MemMap, Memory, Poll, ProcFork, RandomGet, SockRecv, SockSend, ThreadCreate, ThreadExit}
use Rattle.abi_types.specs.declared.place.Place.{Place}
use Rattle.abi_types.specs.declared.place.Place.TheVariants as place
use Rattle.abi_types.specs.declared.place.Place.TheVariants.{At}
use Rattle.abi_types.specs.declared.reply.Payload.{Payload}
use Rattle.abi_types.specs.declared.reply.Reply.{Reply}
use Rattle.abi_types.specs.declared.reply.WordWrites.{WordWrites}
use Rattle.abi_base.specs.Errno.{number_of}
use Rattle.abi_base.specs.Registers.{Registers, with_pc, with_x}
use Rattle.guest_memory.specs.Page.{Pages}
use Rattle.guest_memory.specs.Room.{without_each, AreRoom}
use Rattle.guest_memory.specs.Written.{KeepsCode}
use Rattle.codec_arguments.specs.Arguments.{argument}
use Rattle.codec_arguments.specs.declared.ranges.TheConstants.{MOST_IOVECS}
use Rattle.call_codec.specs.Arguments.{Encodes}
use Rattle.call_codec.specs.MemoryCalls.{memory_with, on_success, pages_in, prot_of, with_mapping, IsSomewhere, MayMapThere}
use Rattle.call_codec.specs.Output.{content_of, with_content, with_payload, with_received, with_sent, with_words}

-- the results of a call that succeeded: clock_res_get and clock_time_get have nanoseconds; fd_dup, file_open and thread_create have the
-- new number, fd_create2 has two, and proc_fork the new number and 0; fd_pread, fd_pwrite, fd_read and fd_write have how many bytes went, and file_readdir and
-- file_readlink how many came; fd_seek has the new offset; mem_map has an address; poll has how many events came
abbrev pub with_results : Registers → Call → Reply → Registers
with_results r (ClockResGet clock) reply = with_x r 11 reply.r1
with_results r (ClockTimeGet clock precision) reply = with_x r 11 reply.r1
with_results r (FdCreate2 kind) reply = with_x (with_x r 11 reply.r1) 12 reply.r2
with_results r (FdDup fd) reply = with_x r 11 reply.r1
with_results r (FdPread fd length offset) reply = with_x r 11 reply.r1
with_results r (FdPwrite fd bytes offset) reply = with_x r 11 reply.r1
with_results r (FdRead fd length) reply = with_x r 11 reply.r1
with_results r (FdSeek fd offset whence) reply = with_x r 11 reply.r1
with_results r (FdWrite fd bytes) reply = with_x r 11 reply.r1
with_results r (FileOpen lookup path oflags stat) reply = with_x r 11 reply.r1
with_results r (FileReaddir fd length cookie) reply = with_x r 11 reply.r1
with_results r (FileReadlink fd path length) reply = with_x r 11 reply.r1
with_results r (MemMap place length prot flags fd offset) reply = with_x r 11 reply.r1
with_results r (Poll subscriptions) reply = with_x r 11 reply.r1
with_results r (ProcFork left) reply = with_x (with_x r 11 reply.r1) 12 reply.r2
with_results r (ThreadCreate attributes) reply = with_x r 11 reply.r1
with_results r other reply = r

abbrev pub put_of : Registers → Call → Reply → Registers
put_of r call reply =
    with_pc (on_success reply.errno (with_results (with_x r 10 (number_of reply.errno)) call reply) (with_x r 10 (number_of reply.errno))) ((r.pc + 4) % 2 ^ 64)

-- the registers after an answer; a thread that waits in the call stands at its ECALL
abbrev pub answered_of : Registers → Call → Answer → Registers
answered_of r call (answer.Parked writes) = r
answered_of r call (answer.Reply reply) = put_of r call reply

-- the memory after a call of these registers that succeeded and gave this beside its results: that goes to an iovec array, or to the
-- address in a0, in a1 or in a3, or to the places of a message, or stands in the pages that mem_map made. The calls that aren't named
-- here write nothing of it
abbrev pub memory_after : Pages → Registers → Call → Payload → Pages
memory_after m r (FdPread fd length offset) payload = with_content m r payload
memory_after m r (FdRead fd length) payload = with_content m r payload
memory_after m r (FdStatGet fd) payload = with_payload m (argument r 1) payload
memory_after m r (FileReaddir fd length cookie) payload = with_payload m (argument r 1) payload
memory_after m r (FileReadlink fd path length) payload = with_payload m (argument r 3) payload
memory_after m r (FileStatFget fd) payload = with_payload m (argument r 1) payload
memory_after m r (FileStatGet lookup path) payload = with_payload m (argument r 3) payload
memory_after m r (MemMap place length prot flags fd offset) payload = with_mapping m place (pages_in length) (prot_of prot) (content_of payload)
memory_after m r (Poll subscriptions) payload = with_payload m (argument r 1) payload
memory_after m r (RandomGet length) payload = with_payload m (argument r 0) payload
memory_after m r (SockRecv fd length fds flags) payload = with_received m r payload
memory_after m r (SockSend fd bytes fds flags) payload = with_sent m r payload
memory_after m r other payload = memory_with m r other

-- the memory with the words that a call gave which succeeded: poll's are written before its events, lock_unlock and thread_exit write that
-- of the lock that they let go, and condvar_signal that of its condition variable. The calls that aren't named here write no word
abbrev pub worded_memory : Pages → Call → WordWrites → Pages
worded_memory m (Poll subscriptions) writes = with_words m writes
worded_memory m (ThreadExit lock word scope) writes = with_words m writes
worded_memory m (LockUnlock lock word scope) writes = with_words m writes
worded_memory m (CondvarSignal condvar word scope n) writes = with_words m writes
worded_memory m other writes = m

-- the memory after an answer to a call of these registers
abbrev pub answered_memory : Pages → Registers → Call → Answer → Pages
answered_memory m r call (answer.Parked writes) = with_words m writes
answered_memory m r call (answer.Reply reply) =
    on_success reply.errno (memory_after (worded_memory m call reply.writes) r call reply.payload) m

-- ---- the room for an answer

-- the call takes memory of the host for its answer: for pages that go somewhere
abbrev pub TakesRoom : Call → Type 0
TakesRoom (MemMap place length prot flags fd offset) = IsSomewhere place
TakesRoom other = ⊥

-- it is no call about memory
abbrev pub KeepsPages : Call → Type 0
KeepsPages (MemMap place length prot flags fd offset) = ⊥
KeepsPages (Memory number errno) = ⊥
KeepsPages other = Unit {0}

-- the registers of fd_pread or fd_read name an iovec array of at most 1024, and those of any other call none to read into
abbrev pub HasFewRanges : Registers → Call → Type 0
HasFewRanges r (FdPread fd length offset) = argument r 2 ≤ MOST_IOVECS
HasFewRanges r (FdRead fd length) = argument r 2 ≤ MOST_IOVECS
HasFewRanges r other = Unit {0}

-- the mapping that the call asks for, if it asks for one, may be made at its place
abbrev pub MayMapFor : Pages → Call → Type 0
MayMapFor m (MemMap place length prot flags fd offset) = MayMapThere m place (pages_in length)
MayMapFor m other = Unit {0}

-- the pages of these numbers are the room in this memory for k pages at the place
abbrev pub IsRoomAt : Place → ℕ → List ℕ → Pages → Type 0
IsRoomAt (At a) k numbers m = AreRoom numbers (a / PAGE_SIZE) k m
IsRoomAt (place.Refused errno) k numbers m = numbers ≡ []

-- they are the room for the answer to the call: that for its mapping, and none for other calls
abbrev pub IsRoomFor : Call → List ℕ → Pages → Type 0
IsRoomFor (MemMap place length prot flags fd offset) numbers m = IsRoomAt place (pages_in length) numbers m
IsRoomFor other numbers m = numbers ≡ []

-- every page that may be executed, but not written, is the same after the answer, whichever pages are the room for it
abbrev pub AnswerKeepsCode : Pages → Registers → Call → Answer → Type 0
AnswerKeepsCode m r call answer =
    (numbers : List ℕ) → IsRoomFor call numbers m → Encodes (without_each numbers m) r call
    → KeepsCode m (answered_memory (without_each numbers m) r call answer)
