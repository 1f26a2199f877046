use Rattle.std.proofs.Common.{◌∙◌, sym, length, arith}
use Rattle.std.proofs.lemmas.Bool.{and_from}
use Rattle.elf_image.specs.Checks.{meets_earlier}
use Rattle.elf_image.proofs.Searches.{first_found}
use Rattle.elf_image.proofs.segments.first_meeting.Goals as goal

pub returns-then-is_met : goal.returns-then-is_met
returns-then-is_met c =
    let headers = c.args.headers.now in
    sym (first_found (meets_earlier c.args.base headers) (length headers) c.loop-i.i (omega arith) c.loop-i.invariant
    (and_from _ _ (sym c.is_load.ensures ∙ c.if-is_load.true) (sym c.is_met.ensures ∙ c.if-is_met.true)))
