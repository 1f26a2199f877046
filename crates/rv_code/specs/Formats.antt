-- Instructions of each format (RISC-V unprivileged manual, "Base Instruction Formats"): rd is bits 11 to 7, rs1 bits 19 to
-- 15, rs2 bits 24 to 20.
use Rattle.std.specs.Prelude.{ℕ, ◌/◌, ◌%◌, ◌^◌, ◌<◌, pos, Option, Some, None}
use Rattle.rv_code.specs.declared.instr.Instr.{Instr}
use Rattle.rv_code.specs.declared.instr.Op.{Op}
use Rattle.rv_code.specs.Immediates.{immediate_i_of, immediate_s_of, immediate_b_of, immediate_u_of, immediate_j_of}

abbrev pub rd_of : ℕ → ℕ
rd_of w = w / 2 ^ 7 % 32

abbrev pub rs1_of : ℕ → ℕ
rs1_of w = w / 2 ^ 15 % 32

abbrev pub rs2_of : ℕ → ℕ
rs2_of w = w / 2 ^ 20 % 32

-- two registers, and no immediate; atomics, whose aq and rl are nothing here, are of it too
abbrev pub format_r_of : ℕ → Op → Instr
format_r_of w op = record { op = op; rd = rd_of w; rs1 = rs1_of w; rs2 = rs2_of w; imm = pos 0 }

abbrev pub format_i_of : ℕ → Op → Instr
format_i_of w op = record { op = op; rd = rd_of w; rs1 = rs1_of w; rs2 = 0; imm = immediate_i_of w }

-- a shift of 64 bits by an amount: bits 25 to 20
abbrev pub shift_of : ℕ → Op → Instr
shift_of w op = record { op = op; rd = rd_of w; rs1 = rs1_of w; rs2 = 0; imm = pos (w / 2 ^ 20 % 64) }

-- a shift of 32 bits by an amount: bits 24 to 20
abbrev pub word_shift_of : ℕ → Op → Instr
word_shift_of w op = record { op = op; rd = rd_of w; rs1 = rs1_of w; rs2 = 0; imm = pos (w / 2 ^ 20 % 32) }

abbrev pub format_s_of : ℕ → Op → Instr
format_s_of w op = record { op = op; rd = 0; rs1 = rs1_of w; rs2 = rs2_of w; imm = immediate_s_of w }

abbrev pub format_b_of : ℕ → Op → Instr
format_b_of w op = record { op = op; rd = 0; rs1 = rs1_of w; rs2 = rs2_of w; imm = immediate_b_of w }

abbrev pub format_u_of : ℕ → Op → Instr
format_u_of w op = record { op = op; rd = rd_of w; rs1 = 0; rs2 = 0; imm = immediate_u_of w }

abbrev pub format_j_of : ℕ → Op → Instr
format_j_of w op = record { op = op; rd = rd_of w; rs1 = 0; rs2 = 0; imm = immediate_j_of w }

-- fences and the two whole words, whose fields are nothing
abbrev pub bare_of : Op → Instr
bare_of op = record { op = op; rd = 0; rs1 = 0; rs2 = 0; imm = pos 0 }

-- the instruction that the operation makes, if there is one
abbrev pub each : (Op → Instr) → Option Op → Option Instr
each format None = None
each format (Some op) = Some (format op)

-- an instruction that names registers, which are 32
abbrev pub NamesRegisters : Instr → Type 0
NamesRegisters i = (i.rd < 32) × (i.rs1 < 32) × (i.rs2 < 32)
