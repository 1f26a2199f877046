-- What holds of every image, whatever the file was: this is what a loader may rely on.
use Rattle.std.specs.Prelude.{◌≡◌, ℕ, ◌+◌, ◌-◌, ◌/◌, ◌%◌, ◌<◌, ◌≤◌, true, length}
use Rattle.abi_base.specs.declared.address_space.TheConstants.{GUEST_BEGIN, PAGE_SIZE, INSTRUCTION_ALIGNMENT}
use Rattle.std.specs.List.{All, AllPairs, Any, sum_by}
use Rattle.elf_image.specs.declared.elf.Elf.{Elf}
use Rattle.elf_image.specs.declared.elf.Segment.{Segment}

-- an address of the segment's memory
abbrev pub HasAddress : Segment → ℕ → Type 0
HasAddress segment address = (segment.at ≤ address) × (address < segment.at + segment.length)

-- The segment takes memory in the program's part of the address space, its file bytes fit there, and its memory may not
-- be both written and executed.
pub record IsSoundSegment (segment : Segment) : Type 0 where
  pub some : 0 < segment.length
  pub fits : length segment.bytes ≤ segment.length
  pub low : GUEST_BEGIN ≤ segment.at
  pub high : segment.at + segment.length ≤ 0x2000000000
  pub guarded : segment.prot.write ≡ true → segment.prot.exec ≡ true → ⊥

-- no page has a byte of each of the two segments
abbrev pub AreApart : Segment → Segment → Type 0
AreApart one other = (a b : ℕ) → HasAddress one a → HasAddress other b → a / PAGE_SIZE ≡ b / PAGE_SIZE → ⊥

-- how many pages the segment has bytes in
abbrev pub pages_of : Segment → ℕ
pages_of segment = (segment.at + segment.length + (PAGE_SIZE - 1)) / PAGE_SIZE - segment.at / PAGE_SIZE

-- The segments are sound, share no page and have at most 32,768 pages, and the entry is a multiple of 4 in a segment
-- that may be executed.
pub record IsSound (elf : Elf) : Type 0 where
  pub each : All IsSoundSegment elf.segments
  pub apart : AllPairs AreApart elf.segments
  pub few : sum_by pages_of elf.segments ≤ 32768
  pub aligned : elf.entry % INSTRUCTION_ALIGNMENT ≡ 0
  pub runs : Any (λ segment. (segment.prot.exec ≡ true) × HasAddress segment elf.entry) elf.segments
