-- What an answer writes into the caller's memory: words of locks and condition variables, the bytes that were read, the state of a
-- descriptor or of a file, events, or what came or went by a socket.
-- Where the bytes of a write can't be written, the memory stays as it is. For registers that encoded the call this never comes,
-- since they are refused where a place for output can't be written.
use Rattle.std.specs.Prelude.{ℕ, ◌+◌, ◌%◌, ◌^◌, min, List, [], ◌∷◌, ◌++◌, take, drop, length, replicate, Result, Ok, Err}
use Rattle.std.specs.Int.{w32, to_le_bytes}
use Rattle.abi_base.specs.declared.errno.Errno.{Errno}
use Rattle.abi_base.specs.Registers.{Registers}
use Rattle.abi_layout.specs.Events.{event_layout, event_values}
use Rattle.abi_layout.specs.Layout.{written}
use Rattle.abi_layout.specs.Structures.{fdstat_layout, fdstat_values, filestat_layout, filestat_values, recv_out_layout, recv_out_values, send_out_layout, send_out_values}
use Rattle.abi_structures.specs.declared.events.Event.{Event}
use Rattle.abi_structures.specs.declared.structures.FdStat.{FdStat}
use Rattle.abi_structures.specs.declared.structures.FileStat.{FileStat}
use Rattle.abi_structures.specs.declared.structures.Iovec.{Iovec}
use Rattle.abi_structures.specs.declared.structures.RecvIn.{RecvIn}
use Rattle.abi_structures.specs.declared.structures.RecvOut.{RecvOut}
use Rattle.abi_structures.specs.declared.structures.SendOut.{SendOut}
use Rattle.abi_types.specs.declared.reply.Payload.{Payload}
use Rattle.abi_types.specs.declared.reply.Payload.TheVariants as payload
use Rattle.abi_types.specs.declared.reply.Payload.TheVariants.{Content}
use Rattle.abi_types.specs.declared.reply.WordWrite.{WordWrite}
use Rattle.abi_types.specs.declared.reply.WordWrites.{WordWrites}
use Rattle.abi_types.specs.declared.reply.WordWrites.TheVariants as words
use Rattle.guest_memory.specs.declared.fault.MemFault.{MemFault}
use Rattle.guest_memory.specs.Page.{Pages}
use Rattle.guest_memory.specs.Written.{write_of}
use Rattle.codec_arguments.specs.Arguments.{argument}
use Rattle.codec_arguments.specs.Ranges.{ranges_at}
use Rattle.codec_arguments.specs.Structures.{recv_in_at}
use Rattle.codec_arguments.specs.declared.ranges.TheConstants.{MOST_IOVECS}

-- the memory after a write, or as it was
abbrev pub or_unwritten : Pages → Result Pages MemFault → Pages
or_unwritten m (Ok after) = after
or_unwritten m (Err fault) = m

-- the memory with bytes written from an address on
abbrev pub with_bytes : Pages → ℕ → List ℕ → Pages
with_bytes m a bytes = or_unwritten m (write_of m a bytes)

-- ---- words of locks and condition variables

-- the memory with a word written at its address, in 4 bytes, the lowest first
abbrev pub with_word : Pages → WordWrite → Pages
with_word m write = with_bytes m write.address (to_le_bytes w32 write.word)

-- the memory with the words written, one after the other
abbrev pub with_words : Pages → WordWrites → Pages
with_words m words.Zero = m
with_words m (words.One write) = with_word m write
with_words m (words.Two first second) = with_word (with_word m first) second

-- ---- the bytes that were read

-- the memory with bytes written into ranges, one after another, into each as many as it has room for, until the bytes are out
abbrev pub scattered : Pages → List Iovec → List ℕ → Pages
scattered m [] bytes = m
scattered m (range ∷ ranges) bytes = scattered (with_bytes m range.address (take range.length bytes)) ranges (drop range.length bytes)

-- the same with the ranges that were read, if they could be
abbrev pub into_ranges : Pages → Result (List Iovec) MemFault → List ℕ → Pages
into_ranges m (Ok ranges) bytes = scattered m ranges bytes
into_ranges m (Err fault) bytes = m

-- fd_pread and fd_read: the bytes go into the ranges of the iovec array with its address in a1 and its count in a2, as the array
-- stood before any of them was written
abbrev pub with_content : Pages → Registers → Payload → Pages
with_content m r (Content bytes) = into_ranges m (ranges_at m (argument r 1) (argument r 2)) bytes
with_content m r other = m

-- ---- what goes to one address

-- a descriptor's state as 24 bytes: each field in its place, and 0 where there is none
abbrev pub fdstat_bytes : FdStat → List ℕ
fdstat_bytes stat = written fdstat_layout.fields (fdstat_values stat) (replicate fdstat_layout.size 0)

-- a file's state as 56 bytes, likewise
abbrev pub filestat_bytes : FileStat → List ℕ
filestat_bytes stat = written filestat_layout.fields (filestat_values stat) (replicate filestat_layout.size 0)

-- an event as 32 bytes, likewise
abbrev pub event_bytes : Event → List ℕ
event_bytes event = written (event_layout event.kind).fields (event_values event) (replicate (event_layout event.kind).size 0)

-- the bytes of events, each directly behind the one before
abbrev pub events_bytes : List Event → List ℕ
events_bytes [] = []
events_bytes (event ∷ events) = event_bytes event ++ events_bytes events

-- the bytes that a call gave, if it gave some
abbrev pub content_of : Payload → List ℕ
content_of (Content bytes) = bytes
content_of other = []

-- the bytes, the state of a descriptor or of a file, or the events that a call gave go to an address
abbrev pub with_payload : Pages → ℕ → Payload → Pages
with_payload m a (Content bytes) = with_bytes m a bytes
with_payload m a (payload.FdStat stat) = with_bytes m a (fdstat_bytes stat)
with_payload m a (payload.FileStat stat) = with_bytes m a (filestat_bytes stat)
with_payload m a (payload.Event event) = with_bytes m a (event_bytes event)
with_payload m a (payload.Events events) = with_bytes m a (events_bytes events)
with_payload m a other = m

-- ---- what came or went by a socket

-- how many iovecs of a message's array count: as many as a call may name, though more may stand there at a wake
abbrev pub iovecs_in : RecvIn → ℕ
iovecs_in places = min places.iovs_count MOST_IOVECS

-- the ranges of a message's array
abbrev pub message_ranges : Pages → RecvIn → Result (List Iovec) MemFault
message_ranges m places = ranges_at m places.iovs (iovecs_in places)

-- the memory with numbers of descriptors written from an address on, each in 4 bytes, the lowest first, directly behind the one before
abbrev pub with_descriptors : Pages → ℕ → List ℕ → Pages
with_descriptors m a [] = m
with_descriptors m a (fd ∷ fds) = with_descriptors (with_bytes m a (to_le_bytes w32 fd)) ((a + 4) % 2 ^ 64) fds

-- how much was received, as 24 bytes: each field in its place, and 0 where there is none
abbrev pub recv_out_bytes : RecvOut → List ℕ
recv_out_bytes out = written recv_out_layout.fields (recv_out_values out) (replicate recv_out_layout.size 0)

-- how much was sent, as 8 bytes
abbrev pub send_out_bytes : SendOut → List ℕ
send_out_bytes out = written send_out_layout.fields (send_out_values out) (replicate send_out_layout.size 0)

-- how many bytes and descriptors came, and whether some of these were cut off
abbrev pub received_of : List ℕ → List ℕ → ℕ → RecvOut
received_of bytes fds flags = record { datalen = length bytes; fdslen = length fds; flags = flags }

-- The memory with a message at its places: its bytes in the ranges, as the array stood before any of them was written, then the numbers
-- of its descriptors, and then how much it was.
abbrev pub with_message : Pages → ℕ → RecvIn → List ℕ → List ℕ → ℕ → Pages
with_message m out places bytes fds flags =
    with_bytes (with_descriptors (into_ranges m (message_ranges m places) bytes) places.fds fds) out (recv_out_bytes (received_of bytes fds flags))

-- the same with the places that were read, if they could be
abbrev pub into_places : Pages → ℕ → Result RecvIn Errno → List ℕ → List ℕ → ℕ → Pages
into_places m out (Ok places) bytes fds flags = with_message m out places bytes fds flags
into_places m out (Err errno) bytes fds flags = m

-- sock_recv: the message goes to the places that the structure at the address in a1 has, and how much it was to the address in a2
abbrev pub with_received : Pages → Registers → Payload → Pages
with_received m r (payload.Received bytes fds flags) = into_places m (argument r 2) (recv_in_at m (argument r 1)) bytes fds flags
with_received m r other = m

-- sock_send: how many bytes were sent goes to the address in a2
abbrev pub with_sent : Pages → Registers → Payload → Pages
with_sent m r (payload.Sent count) = with_bytes m (argument r 2) (send_out_bytes (record { datalen = count }))
with_sent m r other = m
