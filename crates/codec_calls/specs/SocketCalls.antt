-- The calls about sockets.
use Rattle.std.specs.Prelude.{ℕ, ◌*◌, min, Bool, not, ◌==◌, ◌&&◌, nat_le, nat_lt, List, [], length, Result, Ok, if◌then◌else◌}
use Rattle.abi_base.specs.declared.errno.Errno.{Errno}
use Rattle.abi_base.specs.declared.errno.Errno.TheVariants.{Inval}
use Rattle.abi_base.specs.Registers.{Registers}
use Rattle.abi_structures.specs.declared.structures.RecvIn.{RecvIn}
use Rattle.abi_structures.specs.declared.structures.SendIn.{SendIn}
use Rattle.abi_types.specs.declared.call.Call.{Call}
use Rattle.abi_types.specs.declared.call.Call.TheVariants.{SockRecv, SockSend, SockShutdown}
use Rattle.guest_memory.specs.Page.{Pages}
use Rattle.codec_arguments.specs.Arguments.{argument, low}
use Rattle.codec_arguments.specs.Bytes.{descriptors_in, writable}
use Rattle.codec_arguments.specs.Ranges.{room_in, written_in}
use Rattle.codec_arguments.specs.Reading.{◌>>=◌, refuse_when}
use Rattle.codec_arguments.specs.Structures.{recv_in_at, send_in_at}
use Rattle.codec_arguments.specs.declared.ranges.TheConstants.{MOST_IOVECS}
use Rattle.codec_calls.specs.Flags.{has_unknown}
use Rattle.codec_calls.specs.declared.socket_calls.TheConstants.{MOST_SENT_DESCRIPTORS, RECEIVE_FLAGS}

-- the room of an iovec array in memory; an array of over 1024 isn't read
abbrev pub received_room : Pages → RecvIn → Result ℕ Errno
received_room m given = if nat_le given.iovs_count MOST_IOVECS then room_in m given.iovs given.iovs_count else Ok 0

-- sock_recv: a descriptor, the address of where the message goes, and the address for what was received. At most 16
-- descriptors come, so no more of the room for them is looked at.
abbrev pub sock_recv_of : Pages → Registers → Result Call Errno
sock_recv_of m r =
    recv_in_at m (argument r 1) >>= λ given.
    writable m (argument r 2) 24 >>= λ _.
    received_room m given >>= λ length.
    writable m given.fds (4 * min given.fds_count MOST_SENT_DESCRIPTORS) >>= λ _.
    refuse_when (nat_lt MOST_IOVECS given.iovs_count) Inval >>= λ _.
    refuse_when (has_unknown given.flags RECEIVE_FLAGS) Inval >>= λ _.
    Ok (SockRecv (low (argument r 0)) length given.fds_count given.flags)

-- the bytes of an iovec array in memory; an array of over 1024 isn't read
abbrev pub sent_bytes : Pages → SendIn → Result (List ℕ) Errno
sent_bytes m given = if nat_le given.iovs_count MOST_IOVECS then written_in m given.iovs given.iovs_count else Ok []

-- the descriptors that are sent; over 16 aren't read
abbrev pub sent_descriptors : Pages → SendIn → Result (List ℕ) Errno
sent_descriptors m given =
    if nat_le given.fds_count MOST_SENT_DESCRIPTORS then descriptors_in m given.fds given.fds_count else Ok []

-- descriptors go only with a byte
abbrev pub lacks_byte : List ℕ → List ℕ → Bool
lacks_byte bytes fds = (length bytes == 0) && nat_lt 0 (length fds)

-- what is sent is as it must be
abbrev pub sent_known : SendIn → List ℕ → List ℕ → Result (Unit {0}) Errno
sent_known given bytes fds =
    refuse_when (nat_lt MOST_IOVECS given.iovs_count) Inval >>= λ _.
    refuse_when (nat_lt MOST_SENT_DESCRIPTORS given.fds_count) Inval >>= λ _.
    refuse_when (not (given.flags == 0)) Inval >>= λ _.
    refuse_when (lacks_byte bytes fds) Inval

-- sock_send: a descriptor, the address of what is sent, and the address for how much was sent. There are no flags
abbrev pub sock_send_of : Pages → Registers → Result Call Errno
sock_send_of m r =
    send_in_at m (argument r 1) >>= λ given.
    writable m (argument r 2) 8 >>= λ _.
    sent_bytes m given >>= λ bytes.
    sent_descriptors m given >>= λ fds.
    sent_known given bytes fds >>= λ _.
    Ok (SockSend (low (argument r 0)) bytes fds given.flags)

-- sock_shutdown: a descriptor, and which direction is shut: reading (1), writing (2), or both (3)
abbrev pub sock_shutdown_of : Registers → Result Call Errno
sock_shutdown_of r =
    refuse_when (not (nat_le 1 (low (argument r 1)) && nat_le (low (argument r 1)) 3)) Inval >>= λ _.
    Ok (SockShutdown (low (argument r 0)) (low (argument r 1)))
