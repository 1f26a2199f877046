-- The fields of a word (RISC-V unprivileged manual, "Base Instruction Formats").
use Rattle.std.specs.Prelude.{ℕ, ◌≡◌, ◌<◌, ◌/◌, ◌%◌, ◌^◌}
use Rattle.rv_words.specs.declared.fields.Fields.{Fields}

-- numbers that fit their fields
pub record AreFields (f : Fields) : Type 0 where
  pub opcode : f.opcode < 2 ^ 7
  pub rd : f.rd < 2 ^ 5
  pub funct3 : f.funct3 < 2 ^ 3
  pub rs1 : f.rs1 < 2 ^ 5
  pub rs2 : f.rs2 < 2 ^ 5
  pub funct7 : f.funct7 < 2 ^ 7

-- a word with these fields
pub record HasFields (w : ℕ) (f : Fields) : Type 0 where
  pub opcode : w % 128 ≡ f.opcode
  pub rd : w / 2 ^ 7 % 32 ≡ f.rd
  pub funct3 : w / 2 ^ 12 % 8 ≡ f.funct3
  pub rs1 : w / 2 ^ 15 % 32 ≡ f.rs1
  pub rs2 : w / 2 ^ 20 % 32 ≡ f.rs2
  pub funct7 : w / 2 ^ 25 ≡ f.funct7
