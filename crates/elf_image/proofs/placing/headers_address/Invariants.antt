use Rattle.std.proofs.Common.{◌≡◌, drop}
use Rattle.std.specs.List.{find}
use Rattle.elf_image.specs.Image.{holds_range}
use Rattle.elf_image.proofs.placing.headers_address.Given as goal

abbrev pub invariant-loop-i : goal.invariant-loop-i
invariant-loop-i l = find (holds_range l.from l.to) (drop l.i l.headers) ≡ find (holds_range l.from l.to) l.headers
