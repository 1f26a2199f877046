use Rattle.std.specs.Prelude.{ℕ, ◌==◌, List, replicate, slice_set, if◌then◌else◌}

-- a thread's pc and its registers x0 to x31
pub record Registers : Type 0 where
  pub pc : ℕ
  pub x : List ℕ

-- the pc given, and 0 in every register
abbrev pub start_registers : ℕ → Registers
start_registers pc = record { pc = pc; x = replicate 32 0 }

-- the same registers, at another pc
abbrev pub with_pc : Registers → ℕ → Registers
with_pc r pc = record r { pc = pc }

-- the same with register n written, where x0 stays 0
abbrev pub with_x : Registers → ℕ → ℕ → Registers
with_x r n value = record r { x = if n == 0 then r.x else slice_set r.x n value }
