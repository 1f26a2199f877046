-- The instruction that each form makes of its operands; nothing, where the operands are not the form's.
use Rattle.std.specs.Prelude.{ℕ, ◌*◌, ◌^◌, ◌==◌, cond, List, length, Option, None, Some, ℤ, pos, negsuc, unsigned_abs}
use Rattle.rv_code.specs.declared.instr.Op.{Op}
use Rattle.rv_code.specs.declared.instr.Op.TheVariants.{Jal}
use Rattle.rv_code.specs.Immediates.{signed_at}
use Rattle.rv_syntax.specs.declared.form.Form.{Form}
use Rattle.rv_syntax.specs.declared.form.Form.TheVariants.{Registers, Immediate, Shift, WordShift, Offset, Store, Upper, Branch, Jump, Reserve, Atomic, Plain, La}
use Rattle.rv_words.specs.declared.order.Order.{Order}
use Rattle.rv_syntax.specs.Chain.{◌>>=◌}
use Rattle.rv_words.specs.Words.{instr}
use Rattle.rv_asm.specs.Items.{Item, Instruction, Address, Nothing, Bits, Whole}
use Rattle.rv_words.specs.Words.{order_bits, plain_word}
use Rattle.rv_syntax.specs.Numbers.{number_within}
use Rattle.rv_syntax.specs.Operands.{pair_of, triple_of, memory_of, address_register_of, target_of, label_distance_of}
use Rattle.rv_syntax.specs.Registers.{register_of}

-- an instruction of which decoding sees all
abbrev pub plain : Op → ℕ → ℕ → ℕ → ℤ → Option Item
plain op rd rs1 rs2 imm = Some (Instruction (instr op rd rs1 rs2 imm) Nothing)

-- `rd, rs1, rs2`
unfoldable pub registers_of : Op → List ℕ → Option Item
registers_of op text = do
  parts ← triple_of text
  rd ← register_of parts.0
  rs1 ← register_of parts.1
  rs2 ← register_of parts.2
  plain op rd rs1 rs2 (pos 0)

-- `rd, rs1, N`, where N is from the first bound to the second
unfoldable pub immediate_of : ℤ → ℤ → Op → List ℕ → Option Item
immediate_of low high op text = do
  parts ← triple_of text
  rd ← register_of parts.0
  rs1 ← register_of parts.1
  n ← number_within low high parts.2
  plain op rd rs1 0 n

-- `rd, N(rs1)`
unfoldable pub offset_of : Op → List ℕ → Option Item
offset_of op text = do
  parts ← pair_of text
  rd ← register_of parts.0
  place ← memory_of parts.1
  plain op rd place.1 0 place.0

-- `rs2, N(rs1)`
unfoldable pub store_of : Op → List ℕ → Option Item
store_of op text = do
  parts ← pair_of text
  rs2 ← register_of parts.0
  place ← memory_of parts.1
  plain op 0 place.1 rs2 place.0

-- bits 31 to 12 of a word as a signed number of 32 bits
abbrev pub upper : ℤ → ℤ
upper n = signed_at (2 ^ 31) (unsigned_abs n * 2 ^ 12)

-- `rd, N`
unfoldable pub upper_of : Op → List ℕ → Option Item
upper_of op text = do
  parts ← pair_of text
  rd ← register_of parts.0
  n ← number_within (pos 0) (pos 0xfffff) parts.1
  plain op rd 0 0 (upper n)

-- `rs1, rs2, T`
unfoldable pub branch_of : Op → List (List ℕ × Option ℕ) → ℕ → List ℕ → Option Item
branch_of op labels here text = do
  parts ← triple_of text
  rs1 ← register_of parts.0
  rs2 ← register_of parts.1
  distance ← target_of (negsuc 4095) (pos 4094) labels here parts.2
  plain op 0 rs1 rs2 distance

-- `rd, T`
unfoldable pub jump_of : List (List ℕ × Option ℕ) → ℕ → List ℕ → Option Item
jump_of labels here text = do
  parts ← pair_of text
  rd ← register_of parts.0
  distance ← target_of (negsuc 0xfffff) (pos 0xffffe) labels here parts.1
  plain Jal rd 0 0 distance

-- an atomic instruction, which has an order besides
abbrev pub ordered : Op → Order → ℕ → ℕ → ℕ → Option Item
ordered op order rd rs1 rs2 = Some (Instruction (instr op rd rs1 rs2 (pos 0)) (Bits (order_bits order)))

-- `rd, (rs1)`
unfoldable pub reserve_of : Op → Order → List ℕ → Option Item
reserve_of op order text = do
  parts ← pair_of text
  rd ← register_of parts.0
  rs1 ← address_register_of parts.1
  ordered op order rd rs1 0

-- `rd, rs2, (rs1)`
unfoldable pub atomic_of : Op → Order → List ℕ → Option Item
atomic_of op order text = do
  parts ← triple_of text
  rd ← register_of parts.0
  rs2 ← register_of parts.1
  rs1 ← address_register_of parts.2
  ordered op order rd rs1 rs2

-- no operand
unfoldable pub plain_of : Op → List ℕ → Option Item
plain_of op text = cond (length text == 0) (Some (Instruction (instr op 0 0 0 (pos 0)) (Whole (plain_word op)))) None

-- `rd, LABEL`
unfoldable pub address_of : List (List ℕ × Option ℕ) → ℕ → List ℕ → Option Item
address_of labels here text = do
  parts ← pair_of text
  rd ← register_of parts.0
  distance ← label_distance_of labels here parts.1
  Some (Address rd distance)

-- the instruction of a form; nothing for a form that is no single instruction
abbrev pub instruction_of : Form → List (List ℕ × Option ℕ) → ℕ → List ℕ → Option Item
instruction_of (Registers op) labels here text = registers_of op text
instruction_of (Immediate op) labels here text = immediate_of (negsuc 2047) (pos 2047) op text
instruction_of (Shift op) labels here text = immediate_of (pos 0) (pos 63) op text
instruction_of (WordShift op) labels here text = immediate_of (pos 0) (pos 31) op text
instruction_of (Offset op) labels here text = offset_of op text
instruction_of (Store op) labels here text = store_of op text
instruction_of (Upper op) labels here text = upper_of op text
instruction_of (Branch op) labels here text = branch_of op labels here text
instruction_of Jump labels here text = jump_of labels here text
instruction_of (Reserve op order) labels here text = reserve_of op order text
instruction_of (Atomic op order) labels here text = atomic_of op order text
instruction_of (Plain op) labels here text = plain_of op text
instruction_of _ labels here text = None

-- what a form stands for that must be placed at a multiple of 4: an instruction, or the two of `la`
abbrev pub code_of : Form → List (List ℕ × Option ℕ) → ℕ → List ℕ → Option Item
code_of La labels here text = address_of labels here text
code_of form labels here text = instruction_of form labels here text
