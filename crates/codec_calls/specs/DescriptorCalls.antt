-- The calls about descriptors.
use Rattle.std.specs.Prelude.{ℕ, ◌^◌, Bool, not, ◌==◌, ◌&&◌, ◌||◌, nat_le, nat_lt, Result, Ok, if◌then◌else◌}
use Rattle.abi_base.specs.declared.errno.Errno.{Errno}
use Rattle.abi_base.specs.declared.errno.Errno.TheVariants.{Inval, Notsup}
use Rattle.abi_base.specs.Registers.{Registers}
use Rattle.abi_base.specs.declared.flags.TheConstants.{FILETYPE_CHARACTER_DEVICE, FILETYPE_DIRECTORY, FILETYPE_FIFO, FILETYPE_PROCESS, FILETYPE_REGULAR_FILE, FILETYPE_SHARED_MEMORY, FILETYPE_SOCKET_DGRAM, FILETYPE_SOCKET_STREAM, FILETYPE_SYMBOLIC_LINK, WHENCE_CUR, WHENCE_SET}
use Rattle.abi_structures.specs.declared.structures.FdStat.{FdStat}
use Rattle.abi_types.specs.declared.call.Call.{Call}
use Rattle.abi_types.specs.declared.call.Call.TheVariants.{FdClose, FdCreate2, FdDatasync, FdDup, FdPread, FdPwrite, FdRead, FdReplace, FdSeek, FdStatGet, FdStatPut, FdSync, FdWrite}
use Rattle.guest_memory.specs.Page.{Pages}
use Rattle.codec_arguments.specs.Arguments.{argument, low}
use Rattle.codec_arguments.specs.Bytes.{writable}
use Rattle.codec_arguments.specs.Ranges.{room_in, written_in}
use Rattle.codec_arguments.specs.Reading.{◌>>=◌, refuse_when}
use Rattle.codec_arguments.specs.Structures.{fdstat_at}
use Rattle.codec_arguments.specs.declared.ranges.TheConstants.{MOST_IOVECS}
use Rattle.codec_calls.specs.Flags.{has_unknown}
use Rattle.codec_calls.specs.declared.descriptor_calls.TheConstants.{KNOWN_FLAGS, KNOWN_RIGHTS}

-- fd_close, fd_datasync, fd_dup and fd_sync: a descriptor
abbrev pub fd_close_of : Registers → Call
fd_close_of r = FdClose (low (argument r 0))

abbrev pub fd_datasync_of : Registers → Call
fd_datasync_of r = FdDatasync (low (argument r 0))

abbrev pub fd_dup_of : Registers → Call
fd_dup_of r = FdDup (low (argument r 0))

abbrev pub fd_sync_of : Registers → Call
fd_sync_of r = FdSync (low (argument r 0))

-- fd_replace: the descriptor that is given on, and the one whose place it takes
abbrev pub fd_replace_of : Registers → Call
fd_replace_of r = FdReplace (low (argument r 0)) (low (argument r 1))

-- ---- making opens

-- a type of file
abbrev pub is_file_type : ℕ → Bool
is_file_type kind =
    kind == FILETYPE_CHARACTER_DEVICE || kind == FILETYPE_DIRECTORY || kind == FILETYPE_FIFO
    || kind == FILETYPE_PROCESS || kind == FILETYPE_REGULAR_FILE || kind == FILETYPE_SHARED_MEMORY
    || kind == FILETYPE_SOCKET_DGRAM || kind == FILETYPE_SOCKET_STREAM || kind == FILETYPE_SYMBOLIC_LINK

-- the error for a type of which a call makes nothing: NOTSUP for a type of file, and else INVAL
abbrev pub unmade : ℕ → Errno
unmade kind = if is_file_type kind then Notsup else Inval

-- fd_create1: a type of file. There is none that has one descriptor
abbrev pub fd_create1_of : Registers → Errno
fd_create1_of r = unmade (low (argument r 0))

-- a type of opens that are made in pairs: a pipe or a pair of streams
abbrev pub is_pair : ℕ → Bool
is_pair kind = kind == FILETYPE_FIFO || kind == FILETYPE_SOCKET_STREAM

-- fd_create2: a type of file
abbrev pub fd_create2_of : Registers → Result Call Errno
fd_create2_of r =
    refuse_when (not (is_pair (low (argument r 0)))) (unmade (low (argument r 0))) >>= λ _.
    Ok (FdCreate2 (low (argument r 0)))

-- ---- reading and writing

-- over 1024 iovecs
abbrev pub has_many : ℕ → Bool
has_many count = nat_lt MOST_IOVECS count

-- an offset that no file has
abbrev pub is_beyond : ℕ → Bool
is_beyond offset = nat_le (2 ^ 63) offset

-- fd_pread: a descriptor, the address of an iovec array, its count and an offset
abbrev pub fd_pread_of : Pages → Registers → Result Call Errno
fd_pread_of m r =
    refuse_when (has_many (argument r 2)) Inval >>= λ _.
    refuse_when (is_beyond (argument r 3)) Inval >>= λ _.
    room_in m (argument r 1) (argument r 2) >>= λ length.
    Ok (FdPread (low (argument r 0)) length (argument r 3))

-- fd_pwrite: the same
abbrev pub fd_pwrite_of : Pages → Registers → Result Call Errno
fd_pwrite_of m r =
    refuse_when (has_many (argument r 2)) Inval >>= λ _.
    refuse_when (is_beyond (argument r 3)) Inval >>= λ _.
    written_in m (argument r 1) (argument r 2) >>= λ bytes.
    Ok (FdPwrite (low (argument r 0)) bytes (argument r 3))

-- fd_read: a descriptor, the address of an iovec array and its count
abbrev pub fd_read_of : Pages → Registers → Result Call Errno
fd_read_of m r =
    refuse_when (has_many (argument r 2)) Inval >>= λ _.
    room_in m (argument r 1) (argument r 2) >>= λ length.
    Ok (FdRead (low (argument r 0)) length)

-- fd_write: the same
abbrev pub fd_write_of : Pages → Registers → Result Call Errno
fd_write_of m r =
    refuse_when (has_many (argument r 2)) Inval >>= λ _.
    written_in m (argument r 1) (argument r 2) >>= λ bytes.
    Ok (FdWrite (low (argument r 0)) bytes)

-- fd_seek: a descriptor, an offset, and from where on it counts: from the place, from the end, or from the start, as the file's
-- new offset
abbrev pub fd_seek_of : Registers → Result Call Errno
fd_seek_of r =
    refuse_when (not (nat_le WHENCE_CUR (low (argument r 2)) && nat_le (low (argument r 2)) WHENCE_SET)) Inval >>= λ _.
    refuse_when (low (argument r 2) == WHENCE_SET && is_beyond (argument r 1)) Inval >>= λ _.
    Ok (FdSeek (low (argument r 0)) (argument r 1) (low (argument r 2)))

-- ---- a descriptor's state

-- fd_stat_get: a descriptor, and the address for its state
abbrev pub fd_stat_get_of : Pages → Registers → Result Call Errno
fd_stat_get_of m r =
    writable m (argument r 1) 24 >>= λ _.
    Ok (FdStatGet (low (argument r 0)))

-- a state that asks for a flag or a right that there isn't
abbrev pub asks_unknown : FdStat → Bool
asks_unknown stat =
    has_unknown stat.flags KNOWN_FLAGS || has_unknown stat.base.0 KNOWN_RIGHTS || has_unknown stat.inheriting.0 KNOWN_RIGHTS

-- fd_stat_put: a descriptor, the address of a state, and what of it is set: its flags (1), its rights (2), or both (3)
abbrev pub fd_stat_put_of : Pages → Registers → Result Call Errno
fd_stat_put_of m r =
    refuse_when (not (nat_le WHENCE_CUR (low (argument r 2)) && nat_le (low (argument r 2)) WHENCE_SET)) Inval >>= λ _.
    fdstat_at m (argument r 1) >>= λ stat.
    refuse_when (asks_unknown stat) Inval >>= λ _.
    Ok (FdStatPut (low (argument r 0)) stat (low (argument r 2)))
