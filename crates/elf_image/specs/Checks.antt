-- The checks of a file one after the other, as tests.
use Rattle.std.specs.Prelude.{◌≡◌, ◌<◌, ◌≤◌, ℕ, zero, suc, ◌+◌, ◌*◌, ◌%◌, ◌==◌, ◌&&◌, ◌||◌, Bool, cond, not, nat_lt, nat_le, List, length, take, slice_index, bit_and, Option, Some, None, Result, Ok, Err}
use Rattle.abi_base.specs.declared.address_space.TheConstants.{GUEST_BEGIN, INSTRUCTION_ALIGNMENT}
use Rattle.std.specs.List.{list_any}
use Rattle.std.specs.Str.{bytes_eq}
use Rattle.lists.specs.declared.stop.Stop.{Stop}
use Rattle.lists.specs.declared.stop.Stop.TheVariants.{At, Memory}
use Rattle.elf_image.specs.Faults.{magic, base_of, entry_of}
use Rattle.elf_image.specs.Fields.{e_type, e_machine, e_entry, e_phoff, e_flags, e_phentsize, e_phnum, program_headers}
use Rattle.elf_image.specs.Segments.{is_load, may_execute, may_write, nth_header, start_of, end_of, first_page, page_end, page_total}
use Rattle.elf_image.specs.declared.fault.ElfFault.{ElfFault}
use Rattle.elf_image.specs.declared.fault.ElfFault.TheVariants as fault
use Rattle.elf_image.specs.declared.file_header.FileHeader.{FileHeader}
use Rattle.elf_image.specs.declared.program_header.ProgramHeader.{ProgramHeader}

-- the fields of a file's header
abbrev pub file_header : List ℕ → FileHeader
file_header bytes = record {
  kind = e_type bytes;
  machine = e_machine bytes;
  entry = e_entry bytes;
  headers_at = e_phoff bytes;
  flags = e_flags bytes;
  header_size = e_phentsize bytes;
  header_count = e_phnum bytes;
}

-- the class, the byte order, the version and the system are right
abbrev pub is_class : List ℕ → Bool
is_class bytes =
    slice_index bytes 4 == 2 && slice_index bytes 5 == 1 && slice_index bytes 6 == 1
    && (slice_index bytes 7 == 0 || slice_index bytes 7 == 17)

abbrev pub is_magic : List ℕ → Bool
is_magic bytes = bytes_eq (take 4 bytes) magic

-- the program headers have the right size and number, and lie in a file of this size
abbrev pub is_table : ℕ → FileHeader → Bool
is_table size header =
    header.header_size == 56 && not (header.header_count == 0) && nat_le header.header_count 64
    && nat_le (header.headers_at + 56 * header.header_count) size

-- the fault where the test holds
abbrev pub fault_if : Bool → ElfFault → Option ElfFault
fault_if test found = cond test (Some found) None

-- the fault at a number that was found
abbrev pub fault_at : (ℕ → ElfFault) → Option ℕ → Option ElfFault
fault_at found None = None
fault_at found (Some k) = Some (found k)

-- the first fault, or the next
abbrev pub or_next : Option ElfFault → Option ElfFault → Option ElfFault
or_next None next = next
or_next (Some found) next = Some found

-- what was found, or else this number if it passes the test
abbrev pub next_if : (ℕ → Bool) → ℕ → Option ℕ → Option ℕ
next_if test n None = cond (test n) (Some n) None
next_if test n (Some k) = Some k

-- the first of the numbers below n that passes the test
abbrev pub first_below : (ℕ → Bool) → ℕ → Option ℕ
first_below test zero = None
first_below test (suc n) = next_if test n (first_below test n)

-- the fault of the header's fields
abbrev pub field_fault : ℕ → FileHeader → Option ElfFault
field_fault size header =
    or_next (fault_if (not (header.machine == 243)) fault.Machine)
    (or_next (fault_if (not (header.kind == 2 || header.kind == 3)) fault.Kind)
    (fault_if (not (is_table size header)) fault.Header))

-- the fault of the first 64 bytes and of the program headers' place
abbrev pub header_fault : List ℕ → Option ElfFault
header_fault bytes =
    or_next (fault_if (nat_lt (length bytes) 64) fault.TooShort)
    (or_next (fault_if (not (is_magic bytes)) fault.Magic)
    (or_next (fault_if (not (is_class bytes)) fault.Class) (field_fault (length bytes) (file_header bytes))))

-- whether the header's segment can't be loaded, whatever the others are
abbrev pub is_misplaced : ℕ → ℕ → ProgramHeader → Bool
is_misplaced base size header =
    nat_lt size (header.offset + header.file_size) || nat_lt header.memory_size header.file_size
    || (may_write header && may_execute header) || nat_lt (start_of base header) GUEST_BEGIN
    || nat_lt 0x2000000000 (end_of base header)

-- whether the segment of the k-th header can't be loaded
abbrev pub is_unloadable : ℕ → ℕ → List ProgramHeader → ℕ → Bool
is_unloadable base size headers k =
    is_load (nth_header headers k)
    && (is_misplaced base size (nth_header headers k) || nat_lt 32768 (page_total base (take (suc k) headers)))

-- whether the segments have a page in common
abbrev pub share_page : ℕ → ProgramHeader → ProgramHeader → Bool
share_page base one other =
    nat_lt (first_page base one) (page_end base other) && nat_lt (first_page base other) (page_end base one)

-- whether the earlier segment has a page in common with the other
abbrev pub is_met : ℕ → ProgramHeader → ProgramHeader → Bool
is_met base header earlier = is_load earlier && share_page base earlier header

-- whether the segment of the k-th header has a page in common with that of an earlier header
abbrev pub meets_earlier : ℕ → List ProgramHeader → ℕ → Bool
meets_earlier base headers k =
    is_load (nth_header headers k) && list_any (is_met base (nth_header headers k)) (take k headers)

-- whether the address is one of the segment, and the segment may be executed
abbrev pub may_run : ℕ → ℕ → ProgramHeader → Bool
may_run base address header =
    is_load header && may_execute header
    && (nat_le (start_of base header) address && nat_lt address (end_of base header))

-- whether the program may begin to run at the address
abbrev pub is_entry : ℕ → List ProgramHeader → ℕ → Bool
is_entry base headers entry = entry % INSTRUCTION_ALIGNMENT == 0 && list_any (may_run base entry) headers

abbrev pub is_interp : ProgramHeader → Bool
is_interp header = header.kind == 3

-- the first header whose segment can't be loaded
abbrev pub first_unloadable : ℕ → ℕ → List ProgramHeader → Option ℕ
first_unloadable base size headers = first_below (is_unloadable base size headers) (length headers)

-- the first header whose segment meets an earlier one
abbrev pub first_meeting : ℕ → List ProgramHeader → Option ℕ
first_meeting base headers = first_below (meets_earlier base headers) (length headers)

-- the fault of segments
abbrev pub segment_fault : ℕ → ℕ → List ProgramHeader → Option ElfFault
segment_fault base size headers =
    or_next (fault_at fault.Segment (first_unloadable base size headers))
    (fault_at fault.Overlap (first_meeting base headers))

-- the fault of the program headers, of flags, segments and entry
abbrev pub program_fault : ℕ → ℕ → ℕ → ℕ → List ProgramHeader → Option ElfFault
program_fault base size flags entry headers =
    or_next (fault_if (list_any is_interp headers) fault.Interp)
    (or_next (fault_if (not (bit_and flags 1 == 0)) fault.Compressed)
    (or_next (fault_if (not (bit_and flags 6 == 0)) fault.FloatAbi)
    (or_next (segment_fault base size headers) (fault_if (not (is_entry base headers entry)) fault.Entry))))

-- the fault of a file
abbrev pub fault_of : List ℕ → Option ElfFault
fault_of bytes =
    or_next (header_fault bytes)
    (program_fault (base_of bytes) (length bytes) (e_flags bytes) (entry_of bytes) (program_headers bytes))

-- A check answers the fault that is found, if there is one.
abbrev pub Passes : {A : Type 0} → Result A ElfFault → Option ElfFault → Type 0
Passes (Ok given) found = found ≡ None
Passes (Err given) found = found ≡ Some given

-- A reading answers the fault that is found, and where there is none a value.
abbrev pub Reports : {A : Type 0} → Result A ElfFault → Option ElfFault → A → Type 0
Reports (Ok given) found value = (found ≡ None) × (given ≡ value)
Reports (Err given) found value = found ≡ Some given

-- A reading of a whole file answers the same, or that memory ran out where no fault is found.
abbrev pub Reads : {A : Type 0} → Result A (Stop ElfFault) → Option ElfFault → A → Type 0
Reads (Ok given) found value = (found ≡ None) × (given ≡ value)
Reads (Err (At given)) found value = found ≡ Some given
Reads (Err Memory) found value = found ≡ None

-- the program headers have their place in a file of this size
pub record IsTable (size : ℕ) (header : FileHeader) : Type 0 where
  pub some : 0 < header.header_count
  pub few : header.header_count ≤ 64
  pub within : header.headers_at + 56 * header.header_count ≤ size
