-- The segments that program headers ask for, where the base is added to each address of the file.
use Rattle.std.specs.Prelude.{◌≡◌, ℕ, suc, ◌+◌, ◌-◌, ◌/◌, ◌<◌, ◌≤◌, ◌⊎◌, ◌==◌, ◌&&◌, Bool, true, not, nat_lt, List, take, get_or, bit_and}
use Rattle.abi_base.specs.declared.address_space.TheConstants.{GUEST_BEGIN, PAGE_SIZE}
use Rattle.std.specs.List.{Any, filter, sum_by}
use Rattle.elf_image.specs.declared.program_header.ProgramHeader.{ProgramHeader}

-- PT_NULL: a program header that is passed over
abbrev pub unused : ProgramHeader
unused = record { kind = 0; flags = 0; offset = 0; address = 0; file_size = 0; memory_size = 0 }

-- the k-th program header
abbrev pub nth_header : List ProgramHeader → ℕ → ProgramHeader
nth_header headers k = get_or headers k unused

-- whether the header is one of a segment to be loaded (PT_LOAD) that takes memory
abbrev pub is_load : ProgramHeader → Bool
is_load header = header.kind == 1 && nat_lt 0 header.memory_size

-- p_flags: PF_X is 1, PF_W is 2 and PF_R is 4
abbrev pub may_execute : ProgramHeader → Bool
may_execute header = not (bit_and header.flags 1 == 0)

abbrev pub may_write : ProgramHeader → Bool
may_write header = not (bit_and header.flags 2 == 0)

abbrev pub may_read : ProgramHeader → Bool
may_read header = not (bit_and header.flags 4 == 0)

-- the address of the segment's first byte
abbrev pub start_of : ℕ → ProgramHeader → ℕ
start_of base header = base + header.address

-- the address behind its last byte
abbrev pub end_of : ℕ → ProgramHeader → ℕ
end_of base header = base + header.address + header.memory_size

-- an address of the segment's memory
abbrev pub IsWithin : ℕ → ProgramHeader → ℕ → Type 0
IsWithin base header address = (start_of base header ≤ address) × (address < end_of base header)

-- the number of the page of the segment's first byte, and that of the page behind its last
abbrev pub first_page : ℕ → ProgramHeader → ℕ
first_page base header = start_of base header / PAGE_SIZE

abbrev pub page_end : ℕ → ProgramHeader → ℕ
page_end base header = (end_of base header + (PAGE_SIZE - 1)) / PAGE_SIZE

-- how many pages the segment has bytes in
abbrev pub page_count : ℕ → ProgramHeader → ℕ
page_count base header = page_end base header - first_page base header

-- how many pages the segments of these headers have together, where a page that two share counts twice
abbrev pub page_total : ℕ → List ProgramHeader → ℕ
page_total base headers = sum_by (page_count base) (filter is_load headers)

-- some page has a byte of each of the two segments
abbrev pub SharePage : ℕ → ProgramHeader → ProgramHeader → Type 0
SharePage base one other =
    (a b : ℕ) × IsWithin base one a × IsWithin base other b × (a / PAGE_SIZE ≡ b / PAGE_SIZE)

-- what keeps the segment of the k-th header from being loaded from a file of this size: file bytes behind the file's
-- end, more file bytes than memory, memory that may be both written and executed, memory outside of the program's part
-- of the address space, or over 32,768 pages with the segments of the earlier headers
abbrev pub IsUnloadable : ℕ → ℕ → List ProgramHeader → ℕ → Type 0
IsUnloadable base size headers k =
    let header = nth_header headers k in
    (is_load header ≡ true)
    × ((size < header.offset + header.file_size)
    ⊎ (header.memory_size < header.file_size)
    ⊎ ((may_write header ≡ true) × (may_execute header ≡ true))
    ⊎ (start_of base header < GUEST_BEGIN)
    ⊎ (0x2000000000 < end_of base header)
    ⊎ (32768 < page_total base (take (suc k) headers)))

-- the segment of the k-th header has a page in common with that of an earlier header
abbrev pub MeetsEarlier : ℕ → List ProgramHeader → ℕ → Type 0
MeetsEarlier base headers k =
    let header = nth_header headers k in
    (is_load header ≡ true)
    × Any (λ earlier. (is_load earlier ≡ true) × SharePage base earlier header) (take k headers)

-- the address is one of an executable segment
abbrev pub IsExecutable : ℕ → List ProgramHeader → ℕ → Type 0
IsExecutable base headers address =
    Any (λ header. (is_load header ≡ true) × (may_execute header ≡ true) × IsWithin base header address) headers
