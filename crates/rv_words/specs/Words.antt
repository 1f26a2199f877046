-- The instructions of words, and what decoding doesn't see of them.
use Rattle.std.specs.Prelude.{ℕ, ◌≡◌, ◌<◌, ◌%◌, ◌^◌, ◌==◌, Bool, Some, ℤ, ◌+ℤ◌, unsigned_abs}
use Rattle.rv_code.specs.declared.instr.Instr.{Instr}
use Rattle.rv_code.specs.declared.instr.Op.{Op}
use Rattle.rv_code.specs.declared.instr.Op.TheVariants as op
use Rattle.rv_code.specs.Decoding.{decode_of}
use Rattle.rv_words.specs.declared.order.Order.{Order}
use Rattle.rv_words.specs.declared.order.Order.TheVariants.{Relaxed, Release, Acquire, AcquireRelease}

-- the instruction of an operation, its registers rd, rs1 and rs2, and its immediate
abbrev pub instr : Op → ℕ → ℕ → ℕ → ℤ → Instr
instr op rd rs1 rs2 imm = record { op = op; rd = rd; rs1 = rs1; rs2 = rs2; imm = imm }

-- two words: AUIPC writes the register, and ADDI adds to it; together they add the distance to AUIPC's address
abbrev pub ArePairOf : ℕ → ℤ → ℕ → ℕ → Type 0
ArePairOf rd distance first second =
    (high : ℤ) × (low : ℤ) × (high +ℤ low ≡ distance)
    × (first < 2 ^ 32) × (decode_of first ≡ Some (instr op.Auipc rd 0 0 high))
    × (second < 2 ^ 32) × (decode_of second ≡ Some (instr op.Addi rd rd 0 low))

-- bits 26 and 25 of an atomic instruction, aq and rl
abbrev pub order_bits : Order → ℕ
order_bits Relaxed = 0
order_bits Release = 1
order_bits Acquire = 2
order_bits AcquireRelease = 3

-- the words of the instructions without an operand
abbrev pub plain_word : Op → ℕ
plain_word op.Ecall = 0x73
plain_word op.Ebreak = 0x100073
plain_word op.Fence = 0x0ff0000f
plain_word op.FenceI = 0x100f
plain_word _ = 0

-- whether a number is even
abbrev pub is_even : ℤ → Bool
is_even n = unsigned_abs n % 2 == 0
