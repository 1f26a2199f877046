use Rattle.std.proofs.Common.{arith, refl, ap, ◌∙◌, ◌/◌, ◌≡◌, ◌+◌}
use Rattle.rv_code.specs.Rows.{atomic_row_of}
use Rattle.rv_words.proofs.Decodes.{atomics, order_of}
use Rattle.rv_words.proofs.words.reserve_word.Goals as goal

pub returns-clause-instruction : goal.returns-clause-instruction
returns-clause-instruction c =
    let high : (8 + c.order_bits.result) / 4 ≡ 2 = omega arith in
    atomics _ _ _ c.word.ensures refl (ap (λ n. atomic_row_of c.reserve_funct3.result n 0) high ∙ c.reserve_funct3.ensures.operation)

pub returns-clause-order : goal.returns-clause-order
returns-clause-order c = let e = order_of _ _ c.word.ensures in omega arith
