-- What the operations on registers give (RISC-V unprivileged manual, "Integer Computational Instructions" and "M" Extension
-- for Integer Multiplication and Division). A register is a number below 2^64; where an operation is signed, it is
-- looked at in two's complement.
use Rattle.std.specs.Prelude.{ℕ, ◌+◌, ◌-◌, ◌*◌, ◌/◌, ◌%◌, ◌^◌, ◌==◌, cond, nat_lt, ℤ, pos, ◌*ℤ◌, int_lt, int_rem, bit_and, bit_or}
use Rattle.std.specs.Int.{w32, w64, cast_signed, cast_unsigned, int_shr, int_wrapping_div}
use Rattle.std.specs.Int.Bits.{bit_xor}
use Rattle.rv_code.specs.declared.instr.Op.{Op}
use Rattle.rv_code.specs.declared.instr.Op.TheVariants as op

-- ---- views

-- a register as a signed number
abbrev pub signed : ℕ → ℤ
signed a = cast_signed w64 a

-- the low 32 bits
abbrev pub low : ℕ → ℕ
low a = a % 2 ^ 32

-- the low 32 bits as a signed number
abbrev pub signed_word : ℕ → ℤ
signed_word a = cast_signed w32 (low a)

-- a signed number as a register
abbrev pub register : ℤ → ℕ
register z = cast_unsigned w64 z

-- a word of 32 bits, sign-extended
abbrev pub extended : ℕ → ℕ
extended n = register (cast_signed w32 n)

-- ---- 64 bits

abbrev pub sra_of : ℕ → ℕ → ℕ
sra_of a b = register (int_shr (signed a) (b % 64))

abbrev pub slt_of : ℕ → ℕ → ℕ
slt_of a b = cond (int_lt (signed a) (signed b)) 1 0

abbrev pub sltu_of : ℕ → ℕ → ℕ
sltu_of a b = cond (nat_lt a b) 1 0

-- the high 64 bits of a product of 128: of two signed numbers, of a signed and an unsigned one, of two unsigned ones
abbrev pub mulh_of : ℕ → ℕ → ℕ
mulh_of a b = register (int_shr (signed a *ℤ signed b) 64)

abbrev pub mulhsu_of : ℕ → ℕ → ℕ
mulhsu_of a b = register (int_shr (signed a *ℤ pos b) 64)

abbrev pub mulhu_of : ℕ → ℕ → ℕ
mulhu_of a b = a * b / 2 ^ 64

-- division rounds towards zero; by zero it gives all ones, and the dividend as remainder; the overflow wraps
abbrev pub div_of : ℕ → ℕ → ℕ
div_of a b = cond (b == 0) (2 ^ 64 - 1) (register (int_wrapping_div w64 (signed a) (signed b)))

abbrev pub divu_of : ℕ → ℕ → ℕ
divu_of a b = cond (b == 0) (2 ^ 64 - 1) (a / b)

abbrev pub rem_of : ℕ → ℕ → ℕ
rem_of a b = cond (b == 0) a (register (int_rem (signed a) (signed b)))

abbrev pub remu_of : ℕ → ℕ → ℕ
remu_of a b = cond (b == 0) a (a % b)

-- ---- 32 bits: operations on the low halves, whose results are sign-extended

abbrev pub addw_of : ℕ → ℕ → ℕ
addw_of a b = extended ((a + b) % 2 ^ 32)

abbrev pub subw_of : ℕ → ℕ → ℕ
subw_of a b = extended ((low a + (2 ^ 32 - low b)) % 2 ^ 32)

abbrev pub sllw_of : ℕ → ℕ → ℕ
sllw_of a b = extended (low a * 2 ^ (b % 32) % 2 ^ 32)

abbrev pub srlw_of : ℕ → ℕ → ℕ
srlw_of a b = extended (low a / 2 ^ (b % 32))

abbrev pub sraw_of : ℕ → ℕ → ℕ
sraw_of a b = register (int_shr (signed_word a) (b % 32))

abbrev pub mulw_of : ℕ → ℕ → ℕ
mulw_of a b = extended (low a * low b % 2 ^ 32)

-- division of two words
abbrev pub divw_of : ℕ → ℕ → ℕ
divw_of a b = cond (b == 0) (2 ^ 64 - 1) (register (int_wrapping_div w32 (cast_signed w32 a) (cast_signed w32 b)))

abbrev pub divuw_of : ℕ → ℕ → ℕ
divuw_of a b = cond (b == 0) (2 ^ 64 - 1) (extended (a / b))

abbrev pub remw_of : ℕ → ℕ → ℕ
remw_of a b = cond (b == 0) (extended a) (register (int_rem (cast_signed w32 a) (cast_signed w32 b)))

abbrev pub remuw_of : ℕ → ℕ → ℕ
remuw_of a b = cond (b == 0) (extended a) (extended (a % b))

-- ---- the table

-- what the operation gives for these two operands; 0 for an operation that isn't one on registers or an immediate
abbrev pub alu_of : Op → ℕ → ℕ → ℕ
alu_of op.Addi a b = (a + b) % 2 ^ 64
alu_of op.Slti a b = slt_of a b
alu_of op.Sltiu a b = sltu_of a b
alu_of op.Xori a b = bit_xor a b
alu_of op.Ori a b = bit_or a b
alu_of op.Andi a b = bit_and a b
alu_of op.Slli a b = a * 2 ^ (b % 64) % 2 ^ 64
alu_of op.Srli a b = a / 2 ^ (b % 64)
alu_of op.Srai a b = sra_of a b
alu_of op.Addiw a b = addw_of a b
alu_of op.Slliw a b = sllw_of a b
alu_of op.Srliw a b = srlw_of a b
alu_of op.Sraiw a b = sraw_of a b
alu_of op.Add a b = (a + b) % 2 ^ 64
alu_of op.Sub a b = (a + (2 ^ 64 - b)) % 2 ^ 64
alu_of op.Sll a b = a * 2 ^ (b % 64) % 2 ^ 64
alu_of op.Slt a b = slt_of a b
alu_of op.Sltu a b = sltu_of a b
alu_of op.Xor a b = bit_xor a b
alu_of op.Srl a b = a / 2 ^ (b % 64)
alu_of op.Sra a b = sra_of a b
alu_of op.Or a b = bit_or a b
alu_of op.And a b = bit_and a b
alu_of op.Mul a b = a * b % 2 ^ 64
alu_of op.Mulh a b = mulh_of a b
alu_of op.Mulhsu a b = mulhsu_of a b
alu_of op.Mulhu a b = mulhu_of a b
alu_of op.Div a b = div_of a b
alu_of op.Divu a b = divu_of a b
alu_of op.Rem a b = rem_of a b
alu_of op.Remu a b = remu_of a b
alu_of op.Addw a b = addw_of a b
alu_of op.Subw a b = subw_of a b
alu_of op.Sllw a b = sllw_of a b
alu_of op.Srlw a b = srlw_of a b
alu_of op.Sraw a b = sraw_of a b
alu_of op.Mulw a b = mulw_of a b
alu_of op.Divw a b = divw_of (low a) (low b)
alu_of op.Divuw a b = divuw_of (low a) (low b)
alu_of op.Remw a b = remw_of (low a) (low b)
alu_of op.Remuw a b = remuw_of (low a) (low b)
alu_of _ a b = 0
