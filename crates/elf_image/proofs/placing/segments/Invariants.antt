use Rattle.std.proofs.Common.{◌≡◌, take}
use Rattle.elf_image.specs.Image.{segments}
use Rattle.elf_image.proofs.placing.segments.Given as goal

abbrev pub invariant-loop-i : goal.invariant-loop-i
invariant-loop-i l = l.made ≡ segments l.bytes l.base (take l.i l.headers)
