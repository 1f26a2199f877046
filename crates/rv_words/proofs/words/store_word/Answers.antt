use Rattle.std.proofs.Common.{arith, refl, ◌∙◌, w64}
use Rattle.std.proofs.lemmas.Int.{to_z-of_z}
use Rattle.rv_words.proofs.Decodes.{stores}
use Rattle.rv_words.proofs.words.store_word.Goals as goal

pub returns : goal.returns
returns c = stores _ _ _ c.field-field.result c.args.value c.word.ensures refl c.store_funct3.ensures.operation (omega arith) (c.field-field.ensures.signed ∙ to_z-of_z w64 c.args.value c.ranges.value)
