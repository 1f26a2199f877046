use Rattle.std.proofs.Common.{◌≡◌, ◌≤◌, None, take}
use Rattle.elf_image.specs.Checks.{first_below, is_unloadable}
use Rattle.elf_image.specs.Segments.{page_total}
use Rattle.elf_image.proofs.segments.first_unloadable.Given as goal

abbrev pub invariant-loop-i : goal.invariant-loop-i
invariant-loop-i l = record {
  none : first_below (is_unloadable l.base l.size l.headers) l.i ≡ None;
  total : l.pages ≡ page_total l.base (take l.i l.headers);
  few : l.pages ≤ 32768;
}
