use Rattle.std.specs.Prelude.{◌==◌, ◌≡◌, ◌-◌, ◌^◌, ℕ, Bool, List, [], ◌∷◌, codes}
use Rattle.std.specs.Int.{bit_at}
use Rattle.std.specs.Int.RustNames.{bit_and, bit_or}
use Rattle.abi_base.specs.declared.rights.Rights.{Rights}

-- A set of rights is a number: the right with bit k is in it where bit k is 1.
abbrev pub Has : ℕ → ℕ → Type 0
Has rights k = bit_at rights k ≡ 1

-- the rights that are in both
abbrev pub meet_of : ℕ → ℕ → ℕ
meet_of a b = bit_and a b

-- the rights of the first that the second lacks
abbrev pub minus_of : ℕ → ℕ → ℕ
minus_of a b = bit_and a (2 ^ 64 - 1 - b)

-- the rights that are in one of the sets
abbrev pub union_of : List Rights → ℕ
union_of [] = 0
union_of (set ∷ sets) = bit_or set.0 (union_of sets)

-- the first has each right of the second
abbrev pub has_all : ℕ → ℕ → Bool
has_all a b = bit_and a b == b

-- each right's name and number, in rising bit order
abbrev pub names : List (List ℕ × ℕ)
names =
    (codes "FD_DATASYNC", 0x1) ∷
    (codes "FD_READ", 0x2) ∷
    (codes "FD_SEEK", 0x4) ∷
    (codes "FD_STAT_PUT_FLAGS", 0x8) ∷
    (codes "FD_SYNC", 0x10) ∷
    (codes "FD_TELL", 0x20) ∷
    (codes "FD_WRITE", 0x40) ∷
    (codes "FILE_ADVISE", 0x80) ∷
    (codes "FILE_ALLOCATE", 0x100) ∷
    (codes "FILE_CREATE_DIRECTORY", 0x200) ∷
    (codes "FILE_CREATE_FILE", 0x400) ∷
    (codes "FILE_LINK_SOURCE", 0x1000) ∷
    (codes "FILE_LINK_TARGET", 0x2000) ∷
    (codes "FILE_OPEN", 0x4000) ∷
    (codes "FILE_READDIR", 0x8000) ∷
    (codes "FILE_READLINK", 0x10000) ∷
    (codes "FILE_RENAME_SOURCE", 0x20000) ∷
    (codes "FILE_RENAME_TARGET", 0x40000) ∷
    (codes "FILE_STAT_FGET", 0x80000) ∷
    (codes "FILE_STAT_FPUT_SIZE", 0x100000) ∷
    (codes "FILE_STAT_FPUT_TIMES", 0x200000) ∷
    (codes "FILE_STAT_GET", 0x400000) ∷
    (codes "FILE_STAT_PUT_TIMES", 0x800000) ∷
    (codes "FILE_SYMLINK", 0x1000000) ∷
    (codes "FILE_UNLINK", 0x2000000) ∷
    (codes "MEM_MAP", 0x4000000) ∷
    (codes "MEM_MAP_EXEC", 0x8000000) ∷
    (codes "POLL_FD_READWRITE", 0x10000000) ∷
    (codes "POLL_PROC_TERMINATE", 0x40000000) ∷
    (codes "PROC_EXEC", 0x100000000) ∷
    (codes "SOCK_SHUTDOWN", 0x8000000000) ∷
    []
