-- The operation of each row of the listings (RISC-V unprivileged manual, "RV32/64G Instruction Set Listings"). f3 is bits 14
-- to 12 of the word, f5 bits 31 to 27, f6 bits 31 to 26 and f7 bits 31 to 25.
use Rattle.std.specs.Prelude.{ℕ, ◌==◌, cond, Option, Some, None}
use Rattle.rv_code.specs.declared.instr.Op.{Op}
use Rattle.rv_code.specs.declared.instr.Op.TheVariants as op

-- opcode 0x67, the jump to a register
abbrev pub jump_row_of : ℕ → Option Op
jump_row_of f3 =
    cond (f3 == 0) (Some op.Jalr)
    None

-- opcode 0x63, branches
abbrev pub branch_row_of : ℕ → Option Op
branch_row_of f3 =
    cond (f3 == 0) (Some op.Beq)
    (cond (f3 == 1) (Some op.Bne)
    (cond (f3 == 4) (Some op.Blt)
    (cond (f3 == 5) (Some op.Bge)
    (cond (f3 == 6) (Some op.Bltu)
    (cond (f3 == 7) (Some op.Bgeu)
    None)))))

-- opcode 0x03, loads
abbrev pub load_row_of : ℕ → Option Op
load_row_of f3 =
    cond (f3 == 0) (Some op.Lb)
    (cond (f3 == 1) (Some op.Lh)
    (cond (f3 == 2) (Some op.Lw)
    (cond (f3 == 3) (Some op.Ld)
    (cond (f3 == 4) (Some op.Lbu)
    (cond (f3 == 5) (Some op.Lhu)
    (cond (f3 == 6) (Some op.Lwu)
    None))))))

-- opcode 0x23, stores
abbrev pub store_row_of : ℕ → Option Op
store_row_of f3 =
    cond (f3 == 0) (Some op.Sb)
    (cond (f3 == 1) (Some op.Sh)
    (cond (f3 == 2) (Some op.Sw)
    (cond (f3 == 3) (Some op.Sd)
    None)))

-- opcode 0x13 with an immediate
abbrev pub immediate_row_of : ℕ → Option Op
immediate_row_of f3 =
    cond (f3 == 0) (Some op.Addi)
    (cond (f3 == 2) (Some op.Slti)
    (cond (f3 == 3) (Some op.Sltiu)
    (cond (f3 == 4) (Some op.Xori)
    (cond (f3 == 6) (Some op.Ori)
    (cond (f3 == 7) (Some op.Andi)
    None)))))

-- opcode 0x13, shifts
abbrev pub shift_row_of : ℕ → ℕ → Option Op
shift_row_of f6 f3 =
    cond (f6 == 0)
    (cond (f3 == 1) (Some op.Slli)
    (cond (f3 == 5) (Some op.Srli)
    None))
    (cond (f6 == 16)
    (cond (f3 == 5) (Some op.Srai)
    None)
    None)

-- opcode 0x1b with an immediate
abbrev pub word_immediate_row_of : ℕ → Option Op
word_immediate_row_of f3 =
    cond (f3 == 0) (Some op.Addiw)
    None

-- opcode 0x1b, shifts of words
abbrev pub word_shift_row_of : ℕ → ℕ → Option Op
word_shift_row_of f7 f3 =
    cond (f7 == 0)
    (cond (f3 == 1) (Some op.Slliw)
    (cond (f3 == 5) (Some op.Srliw)
    None))
    (cond (f7 == 32)
    (cond (f3 == 5) (Some op.Sraiw)
    None)
    None)

-- opcode 0x33, operations on two registers
abbrev pub register_row_of : ℕ → ℕ → Option Op
register_row_of f7 f3 =
    cond (f7 == 0)
    (cond (f3 == 0) (Some op.Add)
    (cond (f3 == 1) (Some op.Sll)
    (cond (f3 == 2) (Some op.Slt)
    (cond (f3 == 3) (Some op.Sltu)
    (cond (f3 == 4) (Some op.Xor)
    (cond (f3 == 5) (Some op.Srl)
    (cond (f3 == 6) (Some op.Or)
    (cond (f3 == 7) (Some op.And)
    None))))))))
    (cond (f7 == 32)
    (cond (f3 == 0) (Some op.Sub)
    (cond (f3 == 5) (Some op.Sra)
    None))
    (cond (f7 == 1)
    (cond (f3 == 0) (Some op.Mul)
    (cond (f3 == 1) (Some op.Mulh)
    (cond (f3 == 2) (Some op.Mulhsu)
    (cond (f3 == 3) (Some op.Mulhu)
    (cond (f3 == 4) (Some op.Div)
    (cond (f3 == 5) (Some op.Divu)
    (cond (f3 == 6) (Some op.Rem)
    (cond (f3 == 7) (Some op.Remu)
    None))))))))
    None))

-- opcode 0x3b, operations on the words of two registers
abbrev pub word_row_of : ℕ → ℕ → Option Op
word_row_of f7 f3 =
    cond (f7 == 0)
    (cond (f3 == 0) (Some op.Addw)
    (cond (f3 == 1) (Some op.Sllw)
    (cond (f3 == 5) (Some op.Srlw)
    None)))
    (cond (f7 == 32)
    (cond (f3 == 0) (Some op.Subw)
    (cond (f3 == 5) (Some op.Sraw)
    None))
    (cond (f7 == 1)
    (cond (f3 == 0) (Some op.Mulw)
    (cond (f3 == 4) (Some op.Divw)
    (cond (f3 == 5) (Some op.Divuw)
    (cond (f3 == 6) (Some op.Remw)
    (cond (f3 == 7) (Some op.Remuw)
    None)))))
    None))

-- opcode 0x0f, fences
abbrev pub fence_row_of : ℕ → Option Op
fence_row_of f3 =
    cond (f3 == 0) (Some op.Fence)
    (cond (f3 == 1) (Some op.FenceI)
    None)

-- opcode 0x2f with f3 2, on words, but for LR
abbrev pub atomic_word_row_of : ℕ → Option Op
atomic_word_row_of f5 =
    cond (f5 == 3) (Some op.ScW)
    (cond (f5 == 1) (Some op.AmoswapW)
    (cond (f5 == 0) (Some op.AmoaddW)
    (cond (f5 == 4) (Some op.AmoxorW)
    (cond (f5 == 12) (Some op.AmoandW)
    (cond (f5 == 8) (Some op.AmoorW)
    (cond (f5 == 16) (Some op.AmominW)
    (cond (f5 == 20) (Some op.AmomaxW)
    (cond (f5 == 24) (Some op.AmominuW)
    (cond (f5 == 28) (Some op.AmomaxuW)
    None)))))))))

-- opcode 0x2f with f3 3, on double words, but for LR
abbrev pub atomic_double_row_of : ℕ → Option Op
atomic_double_row_of f5 =
    cond (f5 == 3) (Some op.ScD)
    (cond (f5 == 1) (Some op.AmoswapD)
    (cond (f5 == 0) (Some op.AmoaddD)
    (cond (f5 == 4) (Some op.AmoxorD)
    (cond (f5 == 12) (Some op.AmoandD)
    (cond (f5 == 8) (Some op.AmoorD)
    (cond (f5 == 16) (Some op.AmominD)
    (cond (f5 == 20) (Some op.AmomaxD)
    (cond (f5 == 24) (Some op.AmominuD)
    (cond (f5 == 28) (Some op.AmomaxuD)
    None)))))))))

-- opcode 0x2f with f3 2, on words; LR names no second register
abbrev pub word_atomic_of : ℕ → ℕ → Option Op
word_atomic_of f5 rs2 = cond (f5 == 2) (cond (rs2 == 0) (Some op.LrW) None) (atomic_word_row_of f5)

-- opcode 0x2f with f3 3, on double words
abbrev pub double_atomic_of : ℕ → ℕ → Option Op
double_atomic_of f5 rs2 = cond (f5 == 2) (cond (rs2 == 0) (Some op.LrD) None) (atomic_double_row_of f5)

-- opcode 0x2f, atomics
abbrev pub atomic_row_of : ℕ → ℕ → ℕ → Option Op
atomic_row_of f3 f5 rs2 =
    cond (f3 == 2) (word_atomic_of f5 rs2)
    (cond (f3 == 3) (double_atomic_of f5 rs2)
    None)

-- opcode 0x73, whose instructions are whole words
abbrev pub system_row_of : ℕ → Option Op
system_row_of w =
    cond (w == 0x73) (Some op.Ecall)
    (cond (w == 0x100073) (Some op.Ebreak)
    None)
