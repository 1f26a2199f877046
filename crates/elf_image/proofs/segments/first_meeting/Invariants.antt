use Rattle.std.proofs.Common.{◌≡◌, None}
use Rattle.elf_image.specs.Checks.{first_below, meets_earlier}
use Rattle.elf_image.proofs.segments.first_meeting.Given as goal

abbrev pub invariant-loop-i : goal.invariant-loop-i
invariant-loop-i l = first_below (meets_earlier l.base l.headers) l.i ≡ None
