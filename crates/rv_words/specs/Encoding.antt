-- The operation that decoding finds by the fields of a word.
use Rattle.std.specs.Prelude.{ℕ, ◌==◌, ◌||◌, cond, Option, None, Some}
use Rattle.rv_code.specs.declared.instr.Op.{Op}
use Rattle.rv_code.specs.declared.instr.Op.TheVariants.{Lui, Auipc}
use Rattle.rv_code.specs.Rows.{register_row_of, word_row_of, immediate_row_of, word_immediate_row_of, load_row_of, jump_row_of}

-- of two registers
abbrev pub register_operation : ℕ → ℕ → ℕ → Option Op
register_operation opcode f3 f7 =
    cond (opcode == 0x33) (register_row_of f7 f3)
    (cond (opcode == 0x3b) (word_row_of f7 f3)
    None)

-- of a register and an immediate of 12 bits
abbrev pub immediate_operation : ℕ → ℕ → Option Op
immediate_operation opcode f3 =
    cond (opcode == 0x13) (cond (f3 == 1 || f3 == 5) None (immediate_row_of f3))
    (cond (opcode == 0x1b) (cond (f3 == 1 || f3 == 5) None (word_immediate_row_of f3))
    (cond (opcode == 0x03) (load_row_of f3)
    (cond (opcode == 0x67) (jump_row_of f3)
    None)))

-- of a register and an immediate of 20 bits
abbrev pub upper_operation : ℕ → Option Op
upper_operation opcode =
    cond (opcode == 0x37) (Some Lui)
    (cond (opcode == 0x17) (Some Auipc)
    None)
