-- The instruction of a word (RISC-V unprivileged manual, "RV32/64G Instruction Set Listings").
use Rattle.std.specs.Prelude.{ℕ, ◌/◌, ◌%◌, ◌^◌, ◌==◌, ◌||◌, cond, Option, Some, None}
use Rattle.rv_code.specs.declared.instr.Instr.{Instr}
use Rattle.rv_code.specs.declared.instr.Op.TheVariants.{Lui, Auipc, Jal}
use Rattle.rv_code.specs.Formats.{rs2_of, format_r_of, format_i_of, shift_of, word_shift_of, format_s_of, format_b_of, format_u_of, format_j_of, bare_of, each}
use Rattle.rv_code.specs.Rows.{jump_row_of, branch_row_of, load_row_of, store_row_of, immediate_row_of, shift_row_of, word_immediate_row_of, word_shift_row_of, register_row_of, word_row_of, fence_row_of, atomic_row_of, system_row_of}

-- bits 14 to 12
abbrev pub funct3_of : ℕ → ℕ
funct3_of w = w / 2 ^ 12 % 8

-- bits 31 to 25
abbrev pub funct7_of : ℕ → ℕ
funct7_of w = w / 2 ^ 25

-- opcode 0x13: funct3 1 and 5 are shifts, with bits 31 to 26
abbrev pub immediate_of : ℕ → Option Instr
immediate_of w =
    cond (funct3_of w == 1 || funct3_of w == 5)
    (each (shift_of w) (shift_row_of (w / 2 ^ 26) (funct3_of w)))
    (each (format_i_of w) (immediate_row_of (funct3_of w)))

-- opcode 0x1b: funct3 1 and 5 are shifts
abbrev pub word_immediate_of : ℕ → Option Instr
word_immediate_of w =
    cond (funct3_of w == 1 || funct3_of w == 5)
    (each (word_shift_of w) (word_shift_row_of (funct7_of w) (funct3_of w)))
    (each (format_i_of w) (word_immediate_row_of (funct3_of w)))

-- the instruction of a word, by its opcode, bits 6 to 0; None for a word that has none
unfoldable pub decode_of : ℕ → Option Instr
decode_of w =
    cond (w % 128 == 0x37) (Some (format_u_of w Lui))
    (cond (w % 128 == 0x17) (Some (format_u_of w Auipc))
    (cond (w % 128 == 0x6f) (Some (format_j_of w Jal))
    (cond (w % 128 == 0x67) (each (format_i_of w) (jump_row_of (funct3_of w)))
    (cond (w % 128 == 0x63) (each (format_b_of w) (branch_row_of (funct3_of w)))
    (cond (w % 128 == 0x03) (each (format_i_of w) (load_row_of (funct3_of w)))
    (cond (w % 128 == 0x23) (each (format_s_of w) (store_row_of (funct3_of w)))
    (cond (w % 128 == 0x13) (immediate_of w)
    (cond (w % 128 == 0x1b) (word_immediate_of w)
    (cond (w % 128 == 0x33) (each (format_r_of w) (register_row_of (funct7_of w) (funct3_of w)))
    (cond (w % 128 == 0x3b) (each (format_r_of w) (word_row_of (funct7_of w) (funct3_of w)))
    (cond (w % 128 == 0x2f) (each (format_r_of w) (atomic_row_of (funct3_of w) (w / 2 ^ 27) (rs2_of w)))
    (cond (w % 128 == 0x0f) (each bare_of (fence_row_of (funct3_of w)))
    (cond (w % 128 == 0x73) (each bare_of (system_row_of w))
    None)))))))))))))
