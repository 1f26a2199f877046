-- The calls about what files are and have. A path is an address and a length.
use Rattle.std.specs.Prelude.{ℕ, ◌+◌, ◌^◌, min, Bool, not, ◌==◌, ◌&&◌, ◌||◌, nat_le, Result, Ok}
use Rattle.std.specs.Int.RustNames.{bit_and}
use Rattle.abi_base.specs.declared.errno.Errno.{Errno}
use Rattle.abi_base.specs.declared.errno.Errno.TheVariants.{Inval}
use Rattle.abi_base.specs.Registers.{Registers}
use Rattle.abi_base.specs.declared.flags.TheConstants.{FILESTAT_SIZE}
use Rattle.abi_types.specs.declared.call.Call.{Call}
use Rattle.abi_types.specs.declared.call.Call.TheVariants.{FileAdvise, FileAllocate, FileReaddir, FileStatFget, FileStatFput, FileStatGet, FileStatPut}
use Rattle.guest_memory.specs.Page.{Pages}
use Rattle.codec_arguments.specs.Arguments.{argument, low}
use Rattle.codec_arguments.specs.Bytes.{path_in, writable}
use Rattle.codec_arguments.specs.Reading.{◌>>=◌, refuse_when}
use Rattle.codec_arguments.specs.Structures.{filestat_at}
use Rattle.codec_arguments.specs.declared.ranges.TheConstants.{MOST_TRANSFERRED}
use Rattle.codec_calls.specs.Flags.{has_unknown}
use Rattle.codec_files.specs.ByPath.{lookup_of, looks_unknown}
use Rattle.codec_files.specs.declared.by_node.TheConstants.{ATIM_BOTH, KNOWN_SETTINGS, MTIM_BOTH}

-- file_advise: a descriptor, an offset, a length and an advice from 1 to 6. The part of the file ends below 2^63
abbrev pub file_advise_of : Registers → Result Call Errno
file_advise_of r =
    refuse_when (not (nat_le 1 (low (argument r 3)) && nat_le (low (argument r 3)) 6)) Inval >>= λ _.
    refuse_when (nat_le (2 ^ 63) (argument r 1 + argument r 2)) Inval >>= λ _.
    Ok (FileAdvise (low (argument r 0)) (argument r 1) (argument r 2) (low (argument r 3)))

-- file_allocate: a descriptor, an offset and a length
abbrev pub file_allocate_of : Registers → Result Call Errno
file_allocate_of r =
    refuse_when (argument r 2 == 0) Inval >>= λ _.
    Ok (FileAllocate (low (argument r 0)) (argument r 1) (argument r 2))

-- file_readdir: a descriptor, the address and the length of room for entries, of which 65,536 bytes count, and a place
abbrev pub file_readdir_of : Pages → Registers → Result Call Errno
file_readdir_of m r =
    writable m (argument r 1) (min (argument r 2) MOST_TRANSFERRED) >>= λ _.
    Ok (FileReaddir (low (argument r 0)) (argument r 2) (argument r 3))

-- file_stat_fget: a descriptor, and the address for its file's state
abbrev pub file_stat_fget_of : Pages → Registers → Result Call Errno
file_stat_fget_of m r =
    writable m (argument r 1) 56 >>= λ _.
    Ok (FileStatFget (low (argument r 0)))

-- settings of a file's state that can't be: none, one that there isn't, or a time both as given and as it is now
abbrev pub sets_wrongly : ℕ → Bool
sets_wrongly flags =
    has_unknown flags KNOWN_SETTINGS || flags == 0 || bit_and flags ATIM_BOTH == ATIM_BOTH || bit_and flags MTIM_BOTH == MTIM_BOTH

-- file_stat_fput: a descriptor, the address of a state, and what of it is set
abbrev pub file_stat_fput_of : Pages → Registers → Result Call Errno
file_stat_fput_of m r =
    refuse_when (sets_wrongly (low (argument r 2))) Inval >>= λ _.
    filestat_at m (argument r 1) >>= λ stat.
    Ok (FileStatFput (low (argument r 0)) stat (low (argument r 2)))

-- file_stat_get: a lookup, a path, and the address for the file's state
abbrev pub file_stat_get_of : Pages → Registers → Result Call Errno
file_stat_get_of m r =
    refuse_when (looks_unknown (argument r 0)) Inval >>= λ _.
    path_in m (argument r 1) (argument r 2) >>= λ path.
    writable m (argument r 3) 56 >>= λ _.
    Ok (FileStatGet (lookup_of (argument r 0)) path)

-- file_stat_put: a lookup, a path, the address of a state, and what of it is set, which isn't the size
abbrev pub file_stat_put_of : Pages → Registers → Result Call Errno
file_stat_put_of m r =
    refuse_when (looks_unknown (argument r 0)) Inval >>= λ _.
    refuse_when (sets_wrongly (low (argument r 4))) Inval >>= λ _.
    refuse_when (bit_and (low (argument r 4)) FILESTAT_SIZE == FILESTAT_SIZE) Inval >>= λ _.
    path_in m (argument r 1) (argument r 2) >>= λ path.
    filestat_at m (argument r 3) >>= λ stat.
    Ok (FileStatPut (lookup_of (argument r 0)) path stat (low (argument r 4)))
