-- ELF files of one segment (System V gABI and RISC-V psABI): which code, address and flags are of a program, and what its
-- file asks for. The names of fields are the gABI's.
use Rattle.std.specs.Prelude.{◌≡◌, ℕ, ◌+◌, ◌-◌, ◌/◌, ◌%◌, ◌<◌, ◌≤◌, true, false, List, [], ◌∷◌, ◌++◌, length, drop}
use Rattle.std.specs.Int.{w16, w32, w64, to_le_bytes}
use Rattle.abi_base.specs.declared.address_space.TheConstants.{GUEST_BEGIN, INSTRUCTION_ALIGNMENT, PAGE_SIZE}
use Rattle.elf_image.specs.declared.elf.Elf.{Elf}
use Rattle.elf_image.specs.Fields.{e_type, e_machine, e_entry, e_phoff, e_flags, e_phentsize, e_phnum, program_headers}

-- ---- what a file asks for

-- the code at this address can be loaded and run: there is some, it stands where instructions stand, in the program's part
-- of the address space, in at most 32,768 pages of 4096 bytes, and the flags are of code that is neither compressed nor
-- passes arguments in floating-point registers
pub record IsProgram (code : List ℕ) (at flags : ℕ) : Type 0 where
  pub some : 0 < length code
  pub aligned : at % INSTRUCTION_ALIGNMENT ≡ 0
  pub low : GUEST_BEGIN ≤ at
  pub high : at + length code ≤ 0x2000000000
  pub pages : (at + length code + (PAGE_SIZE - 1)) / PAGE_SIZE - at / PAGE_SIZE ≤ 32768
  pub plain : flags % 8 ≡ 0

-- What the headers of a file say: ET_EXEC is 2, RISC-V is 243, and one program header stands behind the header of 64 bytes.
-- The program header asks for a segment to be loaded (PT_LOAD is 1) that may be read and executed (PF_R is 4, PF_X is 1).
-- Its file bytes are the code, which stands behind both headers.
pub record HasHeaders (file code : List ℕ) (at flags : ℕ) : Type 0 where
  pub kind : e_type file ≡ 2
  pub machine : e_machine file ≡ 243
  pub entry : e_entry file ≡ at
  pub headers_at : e_phoff file ≡ 64
  pub flagged : e_flags file ≡ flags
  pub header_size : e_phentsize file ≡ 56
  pub header_count : e_phnum file ≡ 1
  pub headers :
      program_headers file
      ≡ record {
        kind = 1;
        flags = 5;
        offset = 120;
        address = at;
        file_size = length code;
        memory_size = length code;
      } ∷ []
  pub rest : drop 120 file ≡ code

-- The image: the code at its address, where the program begins to run. No segment has the program headers.
abbrev pub one_segment : List ℕ → ℕ → Elf
one_segment code at = record {
  base = 0;
  entry = at;
  phdr = 0;
  phnum = 1;
  segments =
      record {
        at = at;
        bytes = code;
        length = length code;
        prot = record { read = true; write = false; exec = true };
      } ∷ [];
}

-- ---- bytes of a file

-- bytes and then e_ident
abbrev pub with_identity : List ℕ → List ℕ
with_identity out = out ++ 0x7f ∷ 0x45 ∷ 0x4c ∷ 0x46 ∷ 2 ∷ 1 ∷ 1 ∷ 0 ∷ 0 ∷ 0 ∷ 0 ∷ 0 ∷ 0 ∷ 0 ∷ 0 ∷ 0 ∷ []

-- bytes and then a number of two, four or eight bytes
abbrev pub with_half : ℕ → List ℕ → List ℕ
with_half n out = out ++ to_le_bytes w16 n

abbrev pub with_word : ℕ → List ℕ → List ℕ
with_word n out = out ++ to_le_bytes w32 n

abbrev pub with_xword : ℕ → List ℕ → List ℕ
with_xword n out = out ++ to_le_bytes w64 n

-- bytes and then e_ehsize, e_phentsize, e_phnum, e_shentsize, e_shnum and e_shstrndx
abbrev pub with_sizes : List ℕ → List ℕ
with_sizes out = with_half 0 (with_half 0 (with_half 0 (with_half 1 (with_half 56 (with_half 64 out)))))

-- bytes and then a file's header: e_ident, e_type, e_machine, e_version, e_entry, e_phoff, e_shoff, e_flags and the rest
abbrev pub with_file_header : List ℕ → ℕ → ℕ → List ℕ
with_file_header out entry flags =
    let front = with_word 1 (with_half 243 (with_half 2 (with_identity out))) in
    with_sizes (with_word flags (with_xword 0 (with_xword 64 (with_xword entry front))))

-- bytes and then a program header: p_type, p_flags, p_offset, p_vaddr, p_paddr, p_filesz, p_memsz and p_align
abbrev pub with_program_header : List ℕ → ℕ → ℕ → List ℕ
with_program_header out address size =
    let front = with_xword 120 (with_word 5 (with_word 1 out)) in
    with_xword 4 (with_xword size (with_xword size (with_xword address (with_xword address front))))

-- the bytes of a file: the two headers and the code
abbrev pub file_bytes : List ℕ → ℕ → ℕ → List ℕ
file_bytes code at flags = with_program_header (with_file_header [] at flags) at (length code) ++ code
