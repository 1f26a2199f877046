use Rattle.std.proofs.Common.{◌≡◌, length}
use Rattle.elf_image.specs.Fields.{program_headers_from}
use Rattle.elf_image.proofs.program_header.program_headers_from.Given as goal

abbrev pub invariant-loop-i : goal.invariant-loop-i
invariant-loop-i l = record {
  read : l.headers.items ≡ program_headers_from l.bytes l.offset l.i;
  count : length l.headers.items ≡ l.i;
}
