-- The rights of types.
use Rattle.std.specs.Prelude.{ℕ, [], ◌∷◌, bit_or}
use Rattle.abi_base.specs.Grants.{reading_rights, writing_rights}
use Rattle.abi_base.specs.Rights.{union_of}
use Rattle.abi_base.specs.declared.rights.TheConstants.Rights.{FD_DATASYNC, FD_READ, FD_SEEK, FD_STAT_PUT_FLAGS, FD_SYNC, FD_TELL, FD_WRITE, FILE_ADVISE, FILE_ALLOCATE, FILE_CREATE_DIRECTORY, FILE_CREATE_FILE, FILE_LINK_SOURCE, FILE_LINK_TARGET, FILE_OPEN, FILE_READDIR, FILE_READLINK, FILE_RENAME_SOURCE, FILE_RENAME_TARGET, FILE_STAT_FGET, FILE_STAT_FPUT_SIZE, FILE_STAT_FPUT_TIMES, FILE_STAT_GET, FILE_STAT_PUT_TIMES, FILE_SYMLINK, FILE_UNLINK, MEM_MAP, MEM_MAP_EXEC, POLL_FD_READWRITE, POLL_PROC_TERMINATE, PROC_EXEC, SOCK_SHUTDOWN}
use Rattle.abi_types.specs.declared.open_type.OpenType.{OpenType}
use Rattle.abi_types.specs.declared.open_type.OpenType.TheVariants.{File, Directory, Reading, Writing, Stream, Process}

-- a file is read, written, mapped and executed
abbrev pub file_rights : ℕ
file_rights =
    union_of (
    FD_DATASYNC ∷ FD_READ ∷ FD_SEEK ∷ FD_STAT_PUT_FLAGS ∷ FD_SYNC ∷ FD_TELL ∷ FD_WRITE ∷ FILE_ADVISE ∷ FILE_ALLOCATE ∷
    FILE_STAT_FGET ∷ FILE_STAT_FPUT_SIZE ∷ FILE_STAT_FPUT_TIMES ∷ MEM_MAP ∷ MEM_MAP_EXEC ∷ POLL_FD_READWRITE ∷ PROC_EXEC ∷ [])

-- a directory is listed, and the names in it are looked up, made, changed and taken away
abbrev pub directory_rights : ℕ
directory_rights =
    union_of (
    FD_DATASYNC ∷ FD_STAT_PUT_FLAGS ∷ FD_SYNC ∷ FILE_CREATE_DIRECTORY ∷ FILE_CREATE_FILE ∷ FILE_LINK_SOURCE ∷ FILE_LINK_TARGET ∷
    FILE_OPEN ∷ FILE_READDIR ∷ FILE_READLINK ∷ FILE_RENAME_SOURCE ∷ FILE_RENAME_TARGET ∷ FILE_STAT_FGET ∷ FILE_STAT_FPUT_TIMES ∷
    FILE_STAT_GET ∷ FILE_STAT_PUT_TIMES ∷ FILE_SYMLINK ∷ FILE_UNLINK ∷ [])

-- all base rights that a descriptor of such an open may have, one bit a right
abbrev pub rights_of : OpenType → ℕ
rights_of File = file_rights
rights_of Directory = directory_rights
rights_of Reading = reading_rights
rights_of Writing = writing_rights
rights_of Stream = bit_or (bit_or reading_rights writing_rights) SOCK_SHUTDOWN.0
rights_of Process = union_of (FILE_STAT_FGET ∷ POLL_PROC_TERMINATE ∷ [])

-- all inheriting rights: a directory may pass on its own rights and a file's, and nothing else is opened through
abbrev pub inheriting_of : OpenType → ℕ
inheriting_of Directory = bit_or directory_rights file_rights
inheriting_of _ = 0
