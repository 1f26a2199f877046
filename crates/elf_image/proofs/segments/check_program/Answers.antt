use Rattle.std.proofs.Common.{◌∙◌, sym}
use Rattle.elf_image.proofs.Loadable.{entry_fits}
use Rattle.elf_image.proofs.segments.check_program.Goals as goal

pub returns-clause-entry : goal.returns-clause-entry
returns-clause-entry c =
    entry_fits c.args.base c.args.size c.args.entry c.args.headers.now c.in_ok-check_segments.ensures.loadable
    (sym c.is_entry.ensures ∙ c.if-not-is_entry.false)
