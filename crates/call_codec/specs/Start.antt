-- What a program starts with: its segments, a stack, a start block, and its first registers; and the registers of a new thread.
use Rattle.std.specs.Prelude.{◌≡◌, ◌≤◌, ℕ, ◌+◌, ◌-◌, ◌%◌, ◌^◌, true, false, List, [], ◌∷◌, ◌++◌, length}
use Rattle.std.specs.Int.{w64, to_le_bytes}
use Rattle.std.specs.FinMap.{empty}
use Rattle.abi_base.specs.declared.address_space.TheConstants.{PAGE_SIZE}
use Rattle.abi_base.specs.declared.limits.TheConstants.{MOST_ARGDATA}
use Rattle.abi_base.specs.declared.prot.Prot.{Prot}
use Rattle.abi_base.specs.Registers.{Registers, start_registers, with_x}
use Rattle.abi_structures.specs.declared.structures.ThreadAttr.{ThreadAttr}
use Rattle.clock_random.specs.Random.{random_bytes}
use Rattle.elf_image.specs.declared.elf.Elf.{Elf}
use Rattle.elf_image.specs.declared.elf.Segment.{Segment}
use Rattle.elf_image.specs.Sound.{IsSound}
use Rattle.guest_memory.specs.Page.{Pages}
use Rattle.call_codec.specs.Image.{with_segments}

abbrev pub read_write : Prot
read_write = record { read = true; write = true; exec = false }

-- where the first thread's stack ends
abbrev pub stack_end : ℕ
stack_end = 0x3efff00000

-- how many bytes the stack has: 256 pages
abbrev pub stack_length : ℕ
stack_length = 1048576

-- the stack, which is zeros
abbrev pub stack : Segment
stack = record { at = stack_end - stack_length; bytes = []; length = stack_length; prot = read_write }

-- where the start block is
abbrev pub start_block_at : ℕ
start_block_at = 0x3f00000000

-- an entry of the vector of the start block: a number, and a value
abbrev pub entry_bytes : ℕ × ℕ → List ℕ
entry_bytes entry = to_le_bytes w64 entry.0 ++ to_le_bytes w64 entry.1

-- the entries, in their order: ARGDATA, ARGDATALEN, BASE, CANARY, CANARYLEN, NCPUS, PAGESZ, PHDR, PHNUM, PID, TID, NULL
abbrev pub vector_entries : Elf → ℕ → ℕ → ℕ → List (ℕ × ℕ)
vector_entries elf argdata_length pid tid =
    (256, start_block_at + 0x100) ∷ (257, argdata_length) ∷ (7, elf.base) ∷ (258, start_block_at + 0xc0) ∷ (259, 64) ∷ (260, 1)
    ∷ (6, PAGE_SIZE) ∷ (3, elf.phdr) ∷ (4, elf.phnum) ∷ (263, pid) ∷ (261, tid) ∷ (0, 0) ∷ []

-- the bytes of a vector
abbrev pub vector_of : List (ℕ × ℕ) → List ℕ
vector_of [] = []
vector_of (entry ∷ entries) = entry_bytes entry ++ vector_of entries

-- the canary of a start: 64 random bytes of a key and a stream from a place on
abbrev pub canary : List ℕ → ℕ → ℕ → List ℕ
canary key stream place = random_bytes key stream place 64

-- the start block: the vector, the canary, and the argument data
abbrev pub block_bytes : Elf → List ℕ → List ℕ → ℕ → ℕ → List ℕ
block_bytes elf argdata canary pid tid = vector_of (vector_entries elf (length argdata) pid tid) ++ (canary ++ argdata)

abbrev pub block_of : List ℕ → Segment
block_of bytes = record { at = start_block_at; bytes = bytes; length = length bytes; prot = read_write }

-- the segments of a start: those of the image, the stack and the start block
abbrev pub start_segments : Elf → List ℕ → List ℕ → ℕ → ℕ → List Segment
start_segments elf argdata canary pid tid = elf.segments ++ stack ∷ block_of (block_bytes elf argdata canary pid tid) ∷ []

-- the memory of a start
unfoldable pub start_pages : Elf → List ℕ → List ℕ → ℕ → ℕ → Pages
start_pages elf argdata canary pid tid = with_segments empty (start_segments elf argdata canary pid tid)

-- the first thread stands at the entry, with sp at the stack's end, and a0 at the start block
abbrev pub first_registers : ℕ → Registers
first_registers entry = with_x (with_x (start_registers entry) 2 stack_end) 10 start_block_at

-- a new thread with this number stands at its entry, with sp at its stack's end, its number in a0 and its argument in a1
abbrev pub thread_registers : ThreadAttr → ℕ → Registers
thread_registers attributes tid =
    with_x (with_x (with_x (start_registers attributes.entry) 2 ((attributes.stack + attributes.stacklen) % 2 ^ 64)) 10 tid) 11 attributes.argument

-- an image, argument data and a canary that a program can start with
pub record MayStart (elf : Elf) (argdata canary : List ℕ) : Type 0 where
  pub sound : IsSound elf
  pub short : length argdata ≤ MOST_ARGDATA
  pub whole : length canary ≡ 64
