-- The image of a file.
use Rattle.std.specs.Prelude.{ℕ, ◌+◌, ◌-◌, ◌&&◌, Bool, nat_le, List, map, take, drop, Option, Some, None}
use Rattle.std.specs.List.{filter, find}
use Rattle.elf_image.specs.Faults.{base_of, entry_of}
use Rattle.elf_image.specs.Fields.{e_phoff, e_phnum, program_headers, program_headers_end}
use Rattle.elf_image.specs.Segments.{is_load, may_execute, may_read, may_write, start_of}
use Rattle.elf_image.specs.declared.elf.Elf.{Elf}
use Rattle.elf_image.specs.declared.elf.Segment.{Segment}
use Rattle.elf_image.specs.declared.program_header.ProgramHeader.{ProgramHeader}

-- the segment that a header asks for: its file bytes, placed
abbrev pub segment : List ℕ → ℕ → ProgramHeader → Segment
segment bytes base header = record {
  at = start_of base header;
  bytes = take header.file_size (drop header.offset bytes);
  length = header.memory_size;
  prot = record { read = may_read header; write = may_write header; exec = may_execute header };
}

-- the segments that headers ask for, in the headers' order
abbrev pub segments : List ℕ → ℕ → List ProgramHeader → List Segment
segments bytes base headers = map (segment bytes base) (filter is_load headers)

-- whether the header's segment has all file bytes between these offsets
abbrev pub holds_range : ℕ → ℕ → ProgramHeader → Bool
holds_range from to header =
    is_load header && (nat_le header.offset from && nat_le to (header.offset + header.file_size))

-- the address of a file's byte in a segment that has it, or 0 where there is no segment
abbrev pub address_in : ℕ → ℕ → Option ProgramHeader → ℕ
address_in base offset None = 0
address_in base offset (Some header) = start_of base header + (offset - header.offset)

-- the address of the program headers: where the first segment that has them all puts them, or 0 where none has
abbrev pub phdr_of : List ℕ → ℕ
phdr_of bytes =
    address_in (base_of bytes) (e_phoff bytes)
    (find (holds_range (e_phoff bytes) (program_headers_end bytes)) (program_headers bytes))

abbrev pub image : List ℕ → Elf
image bytes = record {
  base = base_of bytes;
  entry = entry_of bytes;
  phdr = phdr_of bytes;
  phnum = e_phnum bytes;
  segments = segments bytes (base_of bytes) (program_headers bytes);
}
