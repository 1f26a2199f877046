use Rattle.std.proofs.Common.{◌∙◌}
use Rattle.elf_image.proofs.Numbers.{number_behind}
use Rattle.elf_image.proofs.fields.word_at.Goals as goal

pub returns : goal.returns
returns c = c.read_u32.ensures ∙ number_behind 4 c.args.offset c.args.bytes.now
