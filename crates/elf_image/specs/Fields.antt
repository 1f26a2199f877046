-- The fields of an ELF file of 64 bits (System V gABI): of its header, and of its program headers. The name of a field
-- is the gABI's.
use Rattle.std.specs.Prelude.{ℕ, zero, suc, ◌+◌, ◌*◌, List, [], ◌∷◌, ◌++◌, slice_index}
use Rattle.elf_image.specs.declared.program_header.ProgramHeader.{ProgramHeader}

-- the number of so many bytes at an offset of a file, the lowest byte first. What lies behind the file's end counts as 0.
unfoldable pub number_at : ℕ → ℕ → List ℕ → ℕ
number_at zero offset bytes = 0
number_at (suc width) offset bytes = slice_index bytes offset + 256 * number_at width (suc offset) bytes

-- ET_EXEC is 2 and ET_DYN is 3
abbrev pub e_type : List ℕ → ℕ
e_type bytes = number_at 2 16 bytes

-- RISC-V is 243
abbrev pub e_machine : List ℕ → ℕ
e_machine bytes = number_at 2 18 bytes

-- where the program begins to run
abbrev pub e_entry : List ℕ → ℕ
e_entry bytes = number_at 8 24 bytes

-- the offset of the first program header
abbrev pub e_phoff : List ℕ → ℕ
e_phoff bytes = number_at 8 32 bytes

-- bit 0 is EF_RISCV_RVC, bits 1 and 2 are EF_RISCV_FLOAT_ABI
abbrev pub e_flags : List ℕ → ℕ
e_flags bytes = number_at 4 48 bytes

-- the size of a program header
abbrev pub e_phentsize : List ℕ → ℕ
e_phentsize bytes = number_at 2 54 bytes

-- how many program headers there are
abbrev pub e_phnum : List ℕ → ℕ
e_phnum bytes = number_at 2 56 bytes

-- the program header that lies at an offset of a file: p_type, p_flags, p_offset, p_vaddr, p_filesz and p_memsz
abbrev pub program_header_at : List ℕ → ℕ → ProgramHeader
program_header_at bytes offset = record {
  kind = number_at 4 offset bytes;
  flags = number_at 4 (offset + 4) bytes;
  offset = number_at 8 (offset + 8) bytes;
  address = number_at 8 (offset + 16) bytes;
  file_size = number_at 8 (offset + 32) bytes;
  memory_size = number_at 8 (offset + 40) bytes;
}

-- so many program headers, one behind the other, from an offset on
abbrev pub program_headers_from : List ℕ → ℕ → ℕ → List ProgramHeader
program_headers_from bytes offset zero = []
program_headers_from bytes offset (suc n) =
    program_headers_from bytes offset n ++ program_header_at bytes (offset + 56 * n) ∷ []

-- the program headers of a file
abbrev pub program_headers : List ℕ → List ProgramHeader
program_headers bytes = program_headers_from bytes (e_phoff bytes) (e_phnum bytes)

-- the offset behind the last program header
abbrev pub program_headers_end : List ℕ → ℕ
program_headers_end bytes = e_phoff bytes + 56 * e_phnum bytes
