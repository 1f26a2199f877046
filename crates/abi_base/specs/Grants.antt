-- The rights of standard streams.
use Rattle.std.specs.Prelude.{ℕ, ◌==◌, if◌then◌else◌, [], ◌∷◌}
use Rattle.abi_base.specs.Rights.{union_of}
use Rattle.abi_base.specs.declared.rights.TheConstants.Rights.{FD_READ, FD_STAT_PUT_FLAGS, FD_WRITE, FILE_STAT_FGET, POLL_FD_READWRITE}

-- the rights by which a stream is read
abbrev pub reading_rights : ℕ
reading_rights = union_of (FD_READ ∷ FD_STAT_PUT_FLAGS ∷ FILE_STAT_FGET ∷ POLL_FD_READWRITE ∷ [])

-- the rights by which a stream is written
abbrev pub writing_rights : ℕ
writing_rights = union_of (FD_STAT_PUT_FLAGS ∷ FD_WRITE ∷ FILE_STAT_FGET ∷ POLL_FD_READWRITE ∷ [])

-- all rights that a descriptor of a standard stream may have: stdin is read, stdout and stderr are written
abbrev pub stream_rights : ℕ → ℕ
stream_rights which = if which == 0 then reading_rights else writing_rights
