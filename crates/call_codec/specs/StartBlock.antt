-- What a program may read in the start block, and where. No segment of its image is in the way: the block comes last.
use Rattle.std.specs.Prelude.{◌≡◌, ◌≤◌, ℕ, ◌+◌, List, length, Ok}
use Rattle.abi_base.specs.declared.limits.TheConstants.{MOST_ARGDATA}
use Rattle.elf_image.specs.declared.elf.Elf.{Elf}
use Rattle.guest_memory.specs.Bytes.{bytes_at}
use Rattle.call_codec.specs.Start.{start_block_at, start_pages, vector_entries, vector_of}

-- The vector stands at the address that a0 has.
abbrev pub VectorStands : Type 0
VectorStands =
    (elf : Elf) (argdata canary : List ℕ) (pid tid : ℕ)
    → bytes_at (start_pages elf argdata canary pid tid) start_block_at 192 ≡ Ok (vector_of (vector_entries elf (length argdata) pid tid))

-- A canary of 64 bytes stands at the address that the vector's entry CANARY gives.
abbrev pub CanaryStands : Type 0
CanaryStands =
    (elf : Elf) (argdata canary : List ℕ) (pid tid : ℕ) → length canary ≡ 64
    → bytes_at (start_pages elf argdata canary pid tid) (start_block_at + 0xc0) 64 ≡ Ok canary

-- The argument data stands at the address that the vector's entry ARGDATA gives.
abbrev pub ArgdataStands : Type 0
ArgdataStands =
    (elf : Elf) (argdata canary : List ℕ) (pid tid : ℕ) → length canary ≡ 64 → length argdata ≤ MOST_ARGDATA
    → bytes_at (start_pages elf argdata canary pid tid) (start_block_at + 0x100) (length argdata) ≡ Ok argdata
