use Rattle.std.proofs.Common.{arith, refl, ◌∙◌, w64}
use Rattle.std.proofs.lemmas.Int.{to_z-of_z}
use Rattle.rv_words.proofs.Decodes.{branches, branch_field, even_field}
use Rattle.rv_words.proofs.words.branch_word.Goals as goal

pub returns : goal.returns
returns c =
    let is = (c.field-field.ensures.signed ∙ to_z-of_z w64 c.args.distance c.ranges.distance) in
    branches _ _ _ c.field-field.result c.args.distance c.word.ensures refl c.branch_funct3.ensures.operation
    (branch_field c.field-field.result (omega arith) (even_field 4096 c.field-field.result c.args.distance is c.requires.even)) is
