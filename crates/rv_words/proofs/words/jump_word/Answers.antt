use Rattle.std.proofs.Common.{arith, refl, ◌∙◌, w64}
use Rattle.std.proofs.lemmas.Int.{to_z-of_z}
use Rattle.rv_words.proofs.Decodes.{jumps, jump_field, even_field}
use Rattle.rv_words.proofs.words.jump_word.Goals as goal

pub returns : goal.returns
returns c =
    let is = (c.field-field.ensures.signed ∙ to_z-of_z w64 c.args.distance c.ranges.distance) in
    jumps _ _ c.field-field.result c.args.distance c.word.ensures refl
    (jump_field c.field-field.result (omega arith) (even_field 1048576 c.field-field.result c.args.distance is c.requires.even)) is
