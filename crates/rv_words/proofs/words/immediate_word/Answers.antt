use Rattle.std.proofs.Common.{arith, ◌∙◌, w64}
use Rattle.std.proofs.lemmas.Int.{to_z-of_z}
use Rattle.rv_words.proofs.Decodes.{immediates}
use Rattle.rv_words.proofs.words.immediate_word.Goals as goal

pub returns : goal.returns
returns c = immediates _ _ _ c.field-field.result c.args.value c.word.ensures c.immediate_row-row.ensures.operation (omega arith) (c.field-field.ensures.signed ∙ to_z-of_z w64 c.args.value c.ranges.value)
