-- A call's arguments, which are in a0 and the registers after it (x10 on: RISC-V ELF psABI, integer register convention).
use Rattle.std.specs.Prelude.{ℕ, ◌+◌, ◌/◌, ◌%◌, ◌^◌, slice_index}
use Rattle.abi_base.specs.Registers.{Registers}

-- the argument with this number, from 0
abbrev pub argument : Registers → ℕ → ℕ
argument r n = slice_index r.x (10 + n)

-- the low half of a register, which an argument of 32 bits is
abbrev pub low : ℕ → ℕ
low n = n % 2 ^ 32

-- the high half of a register
abbrev pub high : ℕ → ℕ
high n = n / 2 ^ 32
