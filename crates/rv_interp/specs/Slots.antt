-- Decoded instructions by their places.
use Rattle.std.specs.Prelude.{ℕ, ◌+◌, ◌*◌, ◌%◌, ◌^◌}
use Rattle.abi_base.specs.declared.address_space.TheConstants.{INSTRUCTION_ALIGNMENT}
use Rattle.rv_code.specs.declared.instr.Instr.{Instr}
use Rattle.rv_interp.specs.declared.slot.Slot.{Slot}

-- the instruction of a slot
abbrev pub instr_of : Slot → Instr
instr_of slot = record { op = slot.op; rd = slot.rd; rs1 = slot.rs1; rs2 = slot.rs2; imm = slot.imm }

-- the address of the place, where the first one is at `base`
abbrev pub address_at : ℕ → ℕ → ℕ
address_at base at = (base + INSTRUCTION_ALIGNMENT * at) % 2 ^ 64
