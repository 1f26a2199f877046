-- The groups of operations whose operands are alike.
use Rattle.std.specs.Prelude.{Bool, true, false}
use Rattle.rv_code.specs.declared.instr.Op.{Op}
use Rattle.rv_code.specs.declared.instr.Op.TheVariants as op

-- operations on two registers: opcodes 0x33 and 0x3b
abbrev pub is_register : Op → Bool
is_register op.Add = true
is_register op.Sub = true
is_register op.Sll = true
is_register op.Slt = true
is_register op.Sltu = true
is_register op.Xor = true
is_register op.Srl = true
is_register op.Sra = true
is_register op.Or = true
is_register op.And = true
is_register op.Mul = true
is_register op.Mulh = true
is_register op.Mulhsu = true
is_register op.Mulhu = true
is_register op.Div = true
is_register op.Divu = true
is_register op.Rem = true
is_register op.Remu = true
is_register op.Addw = true
is_register op.Subw = true
is_register op.Sllw = true
is_register op.Srlw = true
is_register op.Sraw = true
is_register op.Mulw = true
is_register op.Divw = true
is_register op.Divuw = true
is_register op.Remw = true
is_register op.Remuw = true
is_register _ = false

-- operations on a register and an immediate, but shifts; loads; and JALR
abbrev pub is_immediate : Op → Bool
is_immediate op.Addi = true
is_immediate op.Slti = true
is_immediate op.Sltiu = true
is_immediate op.Xori = true
is_immediate op.Ori = true
is_immediate op.Andi = true
is_immediate op.Addiw = true
is_immediate op.Lb = true
is_immediate op.Lh = true
is_immediate op.Lw = true
is_immediate op.Ld = true
is_immediate op.Lbu = true
is_immediate op.Lhu = true
is_immediate op.Lwu = true
is_immediate op.Jalr = true
is_immediate _ = false

-- shifts of 64 bits by an amount
abbrev pub is_shift : Op → Bool
is_shift op.Slli = true
is_shift op.Srli = true
is_shift op.Srai = true
is_shift _ = false

-- shifts of 32 bits by an amount
abbrev pub is_word_shift : Op → Bool
is_word_shift op.Slliw = true
is_word_shift op.Srliw = true
is_word_shift op.Sraiw = true
is_word_shift _ = false

-- stores
abbrev pub is_store : Op → Bool
is_store op.Sb = true
is_store op.Sh = true
is_store op.Sw = true
is_store op.Sd = true
is_store _ = false

-- LUI and AUIPC
abbrev pub is_upper : Op → Bool
is_upper op.Lui = true
is_upper op.Auipc = true
is_upper _ = false

-- branches
abbrev pub is_branch : Op → Bool
is_branch op.Beq = true
is_branch op.Bne = true
is_branch op.Blt = true
is_branch op.Bge = true
is_branch op.Bltu = true
is_branch op.Bgeu = true
is_branch _ = false

-- atomic instructions, but LR
abbrev pub is_atomic : Op → Bool
is_atomic op.ScW = true
is_atomic op.AmoswapW = true
is_atomic op.AmoaddW = true
is_atomic op.AmoxorW = true
is_atomic op.AmoandW = true
is_atomic op.AmoorW = true
is_atomic op.AmominW = true
is_atomic op.AmomaxW = true
is_atomic op.AmominuW = true
is_atomic op.AmomaxuW = true
is_atomic op.ScD = true
is_atomic op.AmoswapD = true
is_atomic op.AmoaddD = true
is_atomic op.AmoxorD = true
is_atomic op.AmoandD = true
is_atomic op.AmoorD = true
is_atomic op.AmominD = true
is_atomic op.AmomaxD = true
is_atomic op.AmominuD = true
is_atomic op.AmomaxuD = true
is_atomic _ = false

-- LR
abbrev pub is_reserve : Op → Bool
is_reserve op.LrW = true
is_reserve op.LrD = true
is_reserve _ = false

-- instructions without an operand
abbrev pub is_plain : Op → Bool
is_plain op.Ecall = true
is_plain op.Ebreak = true
is_plain op.Fence = true
is_plain op.FenceI = true
is_plain _ = false
