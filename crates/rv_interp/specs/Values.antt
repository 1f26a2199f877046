-- What instructions decide and compute besides the operations on registers: whether a branch is taken, what a load
-- gives, and what an atomic instruction writes. A register is a number below 2^64; where an operation is signed, it is
-- looked at in two's complement.
use Rattle.std.specs.Prelude.{ℕ, ◌+◌, ◌%◌, ◌^◌, ◌==◌, Bool, not, cond, nat_lt, ℤ, int_lt, bit_and, bit_or}
use Rattle.std.specs.Int.{w8, w16, w32, cast_signed}
use Rattle.std.specs.Int.Bits.{bit_xor}
use Rattle.rv_code.specs.declared.instr.Op.{Op}
use Rattle.rv_code.specs.declared.instr.Op.TheVariants as op
use Rattle.rv_code.specs.Operations.{signed, register as bits_of}
use Rattle.rv_interp.specs.declared.values.Condition.{Condition}
use Rattle.rv_interp.specs.declared.values.Condition.TheVariants as condition
use Rattle.rv_interp.specs.declared.values.AtomicOperation.{AtomicOperation}
use Rattle.rv_interp.specs.declared.values.AtomicOperation.TheVariants as operation

abbrev pub signed_word : ℕ → ℤ
signed_word a = cast_signed w32 a

-- whether a branch of this condition is taken ("Conditional Branches")
abbrev pub is_taken : Condition → ℕ → ℕ → Bool
is_taken condition.Equal a b = a == b
is_taken condition.NotEqual a b = not (a == b)
is_taken condition.Less a b = int_lt (signed a) (signed b)
is_taken condition.GreaterOrEqual a b = not (int_lt (signed a) (signed b))
is_taken condition.LessUnsigned a b = nat_lt a b
is_taken condition.GreaterOrEqualUnsigned a b = not (nat_lt a b)

-- a byte, a half word and a word, sign-extended to 64 bits
abbrev pub extended_byte : ℕ → ℕ
extended_byte v = bits_of (cast_signed w8 (v % 2 ^ 8))

abbrev pub extended_half : ℕ → ℕ
extended_half v = bits_of (cast_signed w16 (v % 2 ^ 16))

abbrev pub extended_word : ℕ → ℕ
extended_word v = bits_of (cast_signed w32 (v % 2 ^ 32))

-- what a load or an atomic instruction writes to its register, where this number was read: LB, LH, LW and atomic
-- instructions on words sign-extend it ("Load and Store Instructions", "A" Extension)
abbrev pub loaded_value : Op → ℕ → ℕ
loaded_value op.Lui v = v
loaded_value op.Auipc v = v
loaded_value op.Jal v = v
loaded_value op.Jalr v = v
loaded_value op.Beq v = v
loaded_value op.Bne v = v
loaded_value op.Blt v = v
loaded_value op.Bge v = v
loaded_value op.Bltu v = v
loaded_value op.Bgeu v = v
loaded_value op.Lb v = extended_byte v
loaded_value op.Lh v = extended_half v
loaded_value op.Lw v = extended_word v
loaded_value op.Ld v = v
loaded_value op.Lbu v = v
loaded_value op.Lhu v = v
loaded_value op.Lwu v = v
loaded_value op.Sb v = v
loaded_value op.Sh v = v
loaded_value op.Sw v = v
loaded_value op.Sd v = v
loaded_value op.Addi v = v
loaded_value op.Slti v = v
loaded_value op.Sltiu v = v
loaded_value op.Xori v = v
loaded_value op.Ori v = v
loaded_value op.Andi v = v
loaded_value op.Slli v = v
loaded_value op.Srli v = v
loaded_value op.Srai v = v
loaded_value op.Addiw v = v
loaded_value op.Slliw v = v
loaded_value op.Srliw v = v
loaded_value op.Sraiw v = v
loaded_value op.Add v = v
loaded_value op.Sub v = v
loaded_value op.Sll v = v
loaded_value op.Slt v = v
loaded_value op.Sltu v = v
loaded_value op.Xor v = v
loaded_value op.Srl v = v
loaded_value op.Sra v = v
loaded_value op.Or v = v
loaded_value op.And v = v
loaded_value op.Mul v = v
loaded_value op.Mulh v = v
loaded_value op.Mulhsu v = v
loaded_value op.Mulhu v = v
loaded_value op.Div v = v
loaded_value op.Divu v = v
loaded_value op.Rem v = v
loaded_value op.Remu v = v
loaded_value op.Addw v = v
loaded_value op.Subw v = v
loaded_value op.Sllw v = v
loaded_value op.Srlw v = v
loaded_value op.Sraw v = v
loaded_value op.Mulw v = v
loaded_value op.Divw v = v
loaded_value op.Divuw v = v
loaded_value op.Remw v = v
loaded_value op.Remuw v = v
loaded_value op.LrW v = extended_word v
loaded_value op.LrD v = v
loaded_value op.ScW v = v
loaded_value op.ScD v = v
loaded_value op.AmoswapW v = extended_word v
loaded_value op.AmoswapD v = v
loaded_value op.AmoaddW v = extended_word v
loaded_value op.AmoaddD v = v
loaded_value op.AmoxorW v = extended_word v
loaded_value op.AmoxorD v = v
loaded_value op.AmoandW v = extended_word v
loaded_value op.AmoandD v = v
loaded_value op.AmoorW v = extended_word v
loaded_value op.AmoorD v = v
loaded_value op.AmominW v = extended_word v
loaded_value op.AmominD v = v
loaded_value op.AmomaxW v = extended_word v
loaded_value op.AmomaxD v = v
loaded_value op.AmominuW v = extended_word v
loaded_value op.AmominuD v = v
loaded_value op.AmomaxuW v = extended_word v
loaded_value op.AmomaxuD v = v
loaded_value op.Fence v = v
loaded_value op.FenceI v = v
loaded_value op.Ecall v = v
loaded_value op.Ebreak v = v

-- what an atomic instruction writes to memory, where a was read and b is the second register's number, of which those on
-- words use the low words ("Atomic Memory Operations")
abbrev pub double_value : AtomicOperation → ℕ → ℕ → ℕ
double_value operation.Swap a b = b
double_value operation.Add a b = (a + b) % 2 ^ 64
double_value operation.Xor a b = bit_xor a b
double_value operation.And a b = bit_and a b
double_value operation.Or a b = bit_or a b
double_value operation.Min a b = cond (int_lt (signed a) (signed b)) a b
double_value operation.Max a b = cond (int_lt (signed a) (signed b)) b a
double_value operation.MinUnsigned a b = cond (nat_lt a b) a b
double_value operation.MaxUnsigned a b = cond (nat_lt a b) b a

abbrev pub word_value : AtomicOperation → ℕ → ℕ → ℕ
word_value operation.Swap a b = b
word_value operation.Add a b = (a + b) % 2 ^ 32
word_value operation.Xor a b = bit_xor a b
word_value operation.And a b = bit_and a b
word_value operation.Or a b = bit_or a b
word_value operation.Min a b = cond (int_lt (signed_word a) (signed_word b)) a b
word_value operation.Max a b = cond (int_lt (signed_word a) (signed_word b)) b a
word_value operation.MinUnsigned a b = cond (nat_lt a b) a b
word_value operation.MaxUnsigned a b = cond (nat_lt a b) b a

-- the number that an atomic instruction of this width writes
abbrev pub atomic_value : ℕ → AtomicOperation → ℕ → ℕ → ℕ
atomic_value n x a b = cond (n == 4) (word_value x (a % 2 ^ 32) (b % 2 ^ 32)) (double_value x a b)
