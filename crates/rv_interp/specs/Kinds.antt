-- Which kind of instruction each operation is of, and how many bytes of memory it reads or writes.
use Rattle.std.specs.Prelude.{ℕ}
use Rattle.rv_code.specs.declared.instr.Op.{Op}
use Rattle.rv_code.specs.declared.instr.Op.TheVariants as op
use Rattle.rv_interp.specs.declared.values.Condition.{Condition}
use Rattle.rv_interp.specs.declared.values.Condition.TheVariants as condition
use Rattle.rv_interp.specs.declared.values.AtomicOperation.{AtomicOperation}
use Rattle.rv_interp.specs.declared.values.AtomicOperation.TheVariants as operation

-- what an instruction does, but for an operation on registers, and the width and sign of what is read or written
pub data Kind : Type 0 where
  -- an operation on two registers
  Registers : Kind
  -- an operation on a register and the immediate
  Immediate : Kind
  -- LUI
  LoadUpper : Kind
  -- AUIPC
  AddUpper : Kind
  -- JAL
  Jump : Kind
  -- JALR
  JumpRegister : Kind
  -- BEQ, BNE, BLT, BGE, BLTU and BGEU
  Branch : Condition → Kind
  Load : Kind
  Store : Kind
  -- LR
  LoadReserved : Kind
  -- SC
  StoreConditional : Kind
  -- AMO
  Atomic : AtomicOperation → Kind
  -- FENCE and FENCE.I, which are nothing here
  Fence : Kind
  Ecall : Kind
  Ebreak : Kind

-- (RISC-V unprivileged manual, "RV32/64G Instruction Set Listings")
abbrev pub kind_of : Op → Kind
kind_of op.Lui = LoadUpper
kind_of op.Auipc = AddUpper
kind_of op.Jal = Jump
kind_of op.Jalr = JumpRegister
kind_of op.Beq = Branch condition.Equal
kind_of op.Bne = Branch condition.NotEqual
kind_of op.Blt = Branch condition.Less
kind_of op.Bge = Branch condition.GreaterOrEqual
kind_of op.Bltu = Branch condition.LessUnsigned
kind_of op.Bgeu = Branch condition.GreaterOrEqualUnsigned
kind_of op.Lb = Load
kind_of op.Lh = Load
kind_of op.Lw = Load
kind_of op.Ld = Load
kind_of op.Lbu = Load
kind_of op.Lhu = Load
kind_of op.Lwu = Load
kind_of op.Sb = Store
kind_of op.Sh = Store
kind_of op.Sw = Store
kind_of op.Sd = Store
kind_of op.Addi = Immediate
kind_of op.Slti = Immediate
kind_of op.Sltiu = Immediate
kind_of op.Xori = Immediate
kind_of op.Ori = Immediate
kind_of op.Andi = Immediate
kind_of op.Slli = Immediate
kind_of op.Srli = Immediate
kind_of op.Srai = Immediate
kind_of op.Addiw = Immediate
kind_of op.Slliw = Immediate
kind_of op.Srliw = Immediate
kind_of op.Sraiw = Immediate
kind_of op.Add = Registers
kind_of op.Sub = Registers
kind_of op.Sll = Registers
kind_of op.Slt = Registers
kind_of op.Sltu = Registers
kind_of op.Xor = Registers
kind_of op.Srl = Registers
kind_of op.Sra = Registers
kind_of op.Or = Registers
kind_of op.And = Registers
kind_of op.Mul = Registers
kind_of op.Mulh = Registers
kind_of op.Mulhsu = Registers
kind_of op.Mulhu = Registers
kind_of op.Div = Registers
kind_of op.Divu = Registers
kind_of op.Rem = Registers
kind_of op.Remu = Registers
kind_of op.Addw = Registers
kind_of op.Subw = Registers
kind_of op.Sllw = Registers
kind_of op.Srlw = Registers
kind_of op.Sraw = Registers
kind_of op.Mulw = Registers
kind_of op.Divw = Registers
kind_of op.Divuw = Registers
kind_of op.Remw = Registers
kind_of op.Remuw = Registers
kind_of op.LrW = LoadReserved
kind_of op.LrD = LoadReserved
kind_of op.ScW = StoreConditional
kind_of op.ScD = StoreConditional
kind_of op.AmoswapW = Atomic operation.Swap
kind_of op.AmoswapD = Atomic operation.Swap
kind_of op.AmoaddW = Atomic operation.Add
kind_of op.AmoaddD = Atomic operation.Add
kind_of op.AmoxorW = Atomic operation.Xor
kind_of op.AmoxorD = Atomic operation.Xor
kind_of op.AmoandW = Atomic operation.And
kind_of op.AmoandD = Atomic operation.And
kind_of op.AmoorW = Atomic operation.Or
kind_of op.AmoorD = Atomic operation.Or
kind_of op.AmominW = Atomic operation.Min
kind_of op.AmominD = Atomic operation.Min
kind_of op.AmomaxW = Atomic operation.Max
kind_of op.AmomaxD = Atomic operation.Max
kind_of op.AmominuW = Atomic operation.MinUnsigned
kind_of op.AmominuD = Atomic operation.MinUnsigned
kind_of op.AmomaxuW = Atomic operation.MaxUnsigned
kind_of op.AmomaxuD = Atomic operation.MaxUnsigned
kind_of op.Fence = Fence
kind_of op.FenceI = Fence
kind_of op.Ecall = Ecall
kind_of op.Ebreak = Ebreak

-- how many bytes a load, a store or an atomic instruction reads or writes; 8 for the operations that do neither
abbrev pub width_of : Op → ℕ
width_of op.Lui = 8
width_of op.Auipc = 8
width_of op.Jal = 8
width_of op.Jalr = 8
width_of op.Beq = 8
width_of op.Bne = 8
width_of op.Blt = 8
width_of op.Bge = 8
width_of op.Bltu = 8
width_of op.Bgeu = 8
width_of op.Lb = 1
width_of op.Lh = 2
width_of op.Lw = 4
width_of op.Ld = 8
width_of op.Lbu = 1
width_of op.Lhu = 2
width_of op.Lwu = 4
width_of op.Sb = 1
width_of op.Sh = 2
width_of op.Sw = 4
width_of op.Sd = 8
width_of op.Addi = 8
width_of op.Slti = 8
width_of op.Sltiu = 8
width_of op.Xori = 8
width_of op.Ori = 8
width_of op.Andi = 8
width_of op.Slli = 8
width_of op.Srli = 8
width_of op.Srai = 8
width_of op.Addiw = 8
width_of op.Slliw = 8
width_of op.Srliw = 8
width_of op.Sraiw = 8
width_of op.Add = 8
width_of op.Sub = 8
width_of op.Sll = 8
width_of op.Slt = 8
width_of op.Sltu = 8
width_of op.Xor = 8
width_of op.Srl = 8
width_of op.Sra = 8
width_of op.Or = 8
width_of op.And = 8
width_of op.Mul = 8
width_of op.Mulh = 8
width_of op.Mulhsu = 8
width_of op.Mulhu = 8
width_of op.Div = 8
width_of op.Divu = 8
width_of op.Rem = 8
width_of op.Remu = 8
width_of op.Addw = 8
width_of op.Subw = 8
width_of op.Sllw = 8
width_of op.Srlw = 8
width_of op.Sraw = 8
width_of op.Mulw = 8
width_of op.Divw = 8
width_of op.Divuw = 8
width_of op.Remw = 8
width_of op.Remuw = 8
width_of op.LrW = 4
width_of op.LrD = 8
width_of op.ScW = 4
width_of op.ScD = 8
width_of op.AmoswapW = 4
width_of op.AmoswapD = 8
width_of op.AmoaddW = 4
width_of op.AmoaddD = 8
width_of op.AmoxorW = 4
width_of op.AmoxorD = 8
width_of op.AmoandW = 4
width_of op.AmoandD = 8
width_of op.AmoorW = 4
width_of op.AmoorD = 8
width_of op.AmominW = 4
width_of op.AmominD = 8
width_of op.AmomaxW = 4
width_of op.AmomaxD = 8
width_of op.AmominuW = 4
width_of op.AmominuD = 8
width_of op.AmomaxuW = 4
width_of op.AmomaxuD = 8
width_of op.Fence = 8
width_of op.FenceI = 8
width_of op.Ecall = 8
width_of op.Ebreak = 8
