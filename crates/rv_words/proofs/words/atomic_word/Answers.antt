use Rattle.std.proofs.Common.{arith, refl, ap, ◌∙◌, ◌*◌, ◌/◌, ◌≡◌, ◌+◌}
use Rattle.rv_code.specs.Rows.{atomic_row_of}
use Rattle.rv_words.proofs.Decodes.{atomics, order_of}
use Rattle.rv_words.proofs.words.atomic_word.Goals as goal

pub returns-clause-instruction : goal.returns-clause-instruction
returns-clause-instruction c =
    let high : (c.atomic_row-funct3.result.1 * 4 + c.order_bits.result) / 4 ≡ c.atomic_row-funct3.result.1 = omega arith in
    atomics _ _ _ c.word.ensures refl (ap (λ n. atomic_row_of c.atomic_row-funct3.result.0 n c.args.rs2) high ∙ c.atomic_row-funct3.ensures.operation c.args.rs2)

pub returns-clause-order : goal.returns-clause-order
returns-clause-order c = let e = order_of _ _ c.word.ensures in omega arith
