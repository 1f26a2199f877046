-- The calls about names of files. A path is an address and a length.
use Rattle.std.specs.Prelude.{ℕ, min, Bool, not, ◌==◌, ◌||◌, Result, Ok}
use Rattle.std.specs.Int.RustNames.{bit_and}
use Rattle.abi_base.specs.declared.errno.Errno.{Errno}
use Rattle.abi_base.specs.declared.errno.Errno.TheVariants.{Inval}
use Rattle.abi_base.specs.Registers.{Registers}
use Rattle.abi_base.specs.declared.flags.TheConstants.{FILETYPE_DIRECTORY, LOOKUP_SYMLINK_FOLLOW, UNLINK_REMOVEDIR}
use Rattle.abi_types.specs.declared.call.Call.{Call}
use Rattle.abi_types.specs.declared.call.Call.TheVariants.{FileCreate, FileLink, FileOpen, FileReadlink, FileRename, FileSymlink, FileUnlink}
use Rattle.abi_types.specs.declared.call.Lookup.{Lookup}
use Rattle.guest_memory.specs.Page.{Pages}
use Rattle.codec_arguments.specs.Arguments.{argument, high, low}
use Rattle.codec_arguments.specs.Bytes.{path_in, writable}
use Rattle.codec_arguments.specs.Reading.{◌>>=◌, refuse_when}
use Rattle.codec_arguments.specs.Structures.{fdstat_at}
use Rattle.codec_arguments.specs.declared.ranges.TheConstants.{MOST_TRANSFERRED}
use Rattle.codec_calls.specs.DescriptorCalls.{asks_unknown}
use Rattle.codec_calls.specs.Flags.{has_unknown}
use Rattle.codec_files.specs.declared.by_path.TheConstants.{CREAT_DIRECTORY, KNOWN_OFLAGS}

-- where a path begins: a descriptor in the low half of a register, and lookup flags in its high half
abbrev pub lookup_of : ℕ → Lookup
lookup_of value = record { fd = low value; flags = high value }

-- a lookup flag that there isn't: SYMLINK_FOLLOW is the only one
abbrev pub looks_unknown : ℕ → Bool
looks_unknown value = has_unknown (high value) LOOKUP_SYMLINK_FOLLOW

-- file_create: a descriptor, a path and a type of file, which is DIRECTORY
abbrev pub file_create_of : Pages → Registers → Result Call Errno
file_create_of m r =
    refuse_when (not (low (argument r 3) == FILETYPE_DIRECTORY)) Inval >>= λ _.
    path_in m (argument r 1) (argument r 2) >>= λ path.
    Ok (FileCreate (low (argument r 0)) path (low (argument r 3)))

-- file_link: a lookup, a path, a descriptor and the path of the new name
abbrev pub file_link_of : Pages → Registers → Result Call Errno
file_link_of m r =
    refuse_when (looks_unknown (argument r 0)) Inval >>= λ _.
    path_in m (argument r 1) (argument r 2) >>= λ path.
    path_in m (argument r 4) (argument r 5) >>= λ new_path.
    Ok (FileLink (lookup_of (argument r 0)) path (low (argument r 3)) new_path)

-- flags of opening that there aren't, or CREAT, which makes a file, with DIRECTORY, which opens none
abbrev pub opens_wrongly : ℕ → Bool
opens_wrongly oflags = has_unknown oflags KNOWN_OFLAGS || bit_and oflags CREAT_DIRECTORY == CREAT_DIRECTORY

-- file_open: a lookup, a path, flags of opening, and the address of the flags and rights that are asked
abbrev pub file_open_of : Pages → Registers → Result Call Errno
file_open_of m r =
    refuse_when (looks_unknown (argument r 0)) Inval >>= λ _.
    refuse_when (opens_wrongly (low (argument r 3))) Inval >>= λ _.
    path_in m (argument r 1) (argument r 2) >>= λ path.
    fdstat_at m (argument r 4) >>= λ stat.
    refuse_when (asks_unknown stat) Inval >>= λ _.
    Ok (FileOpen (lookup_of (argument r 0)) path (low (argument r 3)) stat)

-- file_readlink: a descriptor, a path, and the address and the length of room for the text, of which 65,536 bytes count
abbrev pub file_readlink_of : Pages → Registers → Result Call Errno
file_readlink_of m r =
    path_in m (argument r 1) (argument r 2) >>= λ path.
    writable m (argument r 3) (min (argument r 4) MOST_TRANSFERRED) >>= λ _.
    Ok (FileReadlink (low (argument r 0)) path (argument r 4))

-- file_rename: a descriptor and a path, and those of the name that is taken
abbrev pub file_rename_of : Pages → Registers → Result Call Errno
file_rename_of m r =
    path_in m (argument r 1) (argument r 2) >>= λ path.
    path_in m (argument r 4) (argument r 5) >>= λ new_path.
    Ok (FileRename (low (argument r 0)) path (low (argument r 3)) new_path)

-- file_symlink: the text, as an address and a length, a descriptor and a path
abbrev pub file_symlink_of : Pages → Registers → Result Call Errno
file_symlink_of m r =
    path_in m (argument r 0) (argument r 1) >>= λ text.
    path_in m (argument r 3) (argument r 4) >>= λ path.
    Ok (FileSymlink text (low (argument r 2)) path)

-- file_unlink: a descriptor, a path and flags, of which REMOVEDIR is the only one
abbrev pub file_unlink_of : Pages → Registers → Result Call Errno
file_unlink_of m r =
    refuse_when (has_unknown (low (argument r 3)) UNLINK_REMOVEDIR) Inval >>= λ _.
    path_in m (argument r 1) (argument r 2) >>= λ path.
    Ok (FileUnlink (low (argument r 0)) path (low (argument r 3)))
