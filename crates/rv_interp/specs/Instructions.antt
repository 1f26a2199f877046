-- What each instruction does (RISC-V unprivileged manual, "RV32I Base Integer Instruction Set", "RV64I", "A" Extension for
-- Atomic Instructions and "Zifencei").
use Rattle.std.specs.Prelude.{ℕ, ◌+◌, ◌-◌, ◌%◌, ◌^◌, ◌==◌, cond, slice_index, Option, Some, None, Result, Ok, Err}
use Rattle.abi_base.specs.declared.address_space.TheConstants.{INSTRUCTION_ALIGNMENT}
use Rattle.abi_base.specs.Registers.{Registers, with_pc, with_x}
use Rattle.abi_base.specs.declared.signal.Signal.{Signal}
use Rattle.abi_base.specs.declared.signal.Signal.TheVariants as signal
use Rattle.guest_memory.specs.declared.fault.MemFault.{MemFault}
use Rattle.guest_memory.specs.Page.{Pages}
use Rattle.guest_memory.specs.Words.{load_of, store_of, fetch_of}
use Rattle.rv_code.specs.declared.instr.Instr.{Instr}
use Rattle.rv_code.specs.Decoding.{decode_of}
use Rattle.rv_code.specs.Operations.{alu_of, register as bits_of}
use Rattle.rv_interp.specs.declared.execution.Outcome.TheVariants as outcome
use Rattle.rv_interp.specs.declared.values.Condition.{Condition}
use Rattle.rv_interp.specs.declared.values.AtomicOperation.{AtomicOperation}
use Rattle.rv_interp.specs.Kinds as kind
use Rattle.rv_interp.specs.Kinds.{Kind, kind_of, width_of}
use Rattle.rv_interp.specs.Machine.{Machine, Step, RegistersStep, MemoryStep, machine, in_registers, in_memory, nothing_held, holding, holds}
use Rattle.rv_interp.specs.Values.{is_taken, loaded_value, atomic_value}

-- ---- registers

-- the number in a register
abbrev pub register : Registers → ℕ → ℕ
register r n = slice_index r.x n

-- the address after the instruction at the pc
abbrev pub next : Registers → ℕ
next r = (r.pc + 4) % 2 ^ 64

-- a sum of a number and the immediate, modulo 2^64
abbrev pub plus_immediate : ℕ → Instr → ℕ
plus_immediate a i = (a + bits_of i.imm) % 2 ^ 64

-- the address that a load, a store or a jump names
abbrev pub address : Registers → Instr → ℕ
address r i = plus_immediate (register r i.rs1) i

-- an instruction that wrote a register, after which the next one in memory is next
abbrev pub done_of : Registers → ℕ → ℕ → RegistersStep
done_of r rd value = record { outcome = outcome.Done; regs = with_pc (with_x r rd value) (next r) }

-- an instruction that can't be done changes nothing
abbrev pub trapped : Registers → Signal → RegistersStep
trapped r s = record { outcome = outcome.Trap s; regs = r }

-- a jump that writes a register: a target that isn't a multiple of 4 is a bus error
abbrev pub jumped_of : Registers → ℕ → ℕ → ℕ → RegistersStep
jumped_of r rd value target =
    cond (target % INSTRUCTION_ALIGNMENT == 0) (record { outcome = outcome.Done; regs = with_pc (with_x r rd value) target }) (trapped r signal.Bus)

-- a jump to a register's number and an immediate, whose lowest bit is cleared
abbrev pub jump_register_of : Registers → Instr → RegistersStep
jump_register_of r i = jumped_of r i.rd (next r) (address r i - address r i % 2)

-- a branch; register x0 isn't changed
abbrev pub branch_of : Registers → Condition → Instr → RegistersStep
branch_of r c i =
    cond (is_taken c (register r i.rs1) (register r i.rs2)) (jumped_of r 0 0 (plus_immediate r.pc i)) (done_of r 0 0)

-- ---- memory

-- an instruction that can't be done changes nothing
abbrev pub memory_trapped : Registers → Pages → Signal → MemoryStep
memory_trapped r m s = record { outcome = outcome.Trap s; regs = r; memory = m }

-- an instruction that changed the memory and wrote a register
abbrev pub memory_done : Registers → Pages → ℕ → ℕ → MemoryStep
memory_done r m rd value = record { outcome = outcome.Done; regs = (done_of r rd value).regs; memory = m }

-- a load that read this, or is a segmentation fault
abbrev pub loaded_of : Registers → Instr → Result ℕ MemFault → RegistersStep
loaded_of r i (Ok v) = done_of r i.rd (loaded_value i.op v)
loaded_of r i (Err fault) = trapped r signal.Segv

abbrev pub load_step : Registers → Pages → Instr → RegistersStep
load_step r m i = loaded_of r i (load_of m (address r i) (width_of i.op))

-- a store that left the memory so, or is a segmentation fault
abbrev pub stored_of : Registers → Pages → Result Pages MemFault → MemoryStep
stored_of r m (Ok n) = memory_done r n 0 0
stored_of r m (Err fault) = memory_trapped r m signal.Segv

abbrev pub store_step : Registers → Pages → Instr → MemoryStep
store_step r m i = stored_of r m (store_of m (address r i) (width_of i.op) (register r i.rs2))

-- an atomic instruction that read v and left the memory so, or is a segmentation fault
abbrev pub exchanged_of : Registers → Pages → Instr → ℕ → Result Pages MemFault → MemoryStep
exchanged_of r m i v (Ok n) = memory_done r n i.rd (loaded_value i.op v)
exchanged_of r m i v (Err fault) = memory_trapped r m signal.Segv

-- an atomic instruction at an address that read this, or is a segmentation fault
abbrev pub exchange_of : Registers → Pages → AtomicOperation → Instr → ℕ → Result ℕ MemFault → MemoryStep
exchange_of r m x i a (Ok v) =
    exchanged_of r m i v (store_of m a (width_of i.op) (atomic_value (width_of i.op) x v (register r i.rs2)))
exchange_of r m x i a (Err fault) = memory_trapped r m signal.Segv

-- an atomic instruction at an address; one that isn't a multiple of the width is a bus error
abbrev pub atomic_at : Registers → Pages → AtomicOperation → Instr → ℕ → MemoryStep
atomic_at r m x i a = cond (a % width_of i.op == 0) (exchange_of r m x i a (load_of m a (width_of i.op))) (memory_trapped r m signal.Bus)

abbrev pub atomic_step : Registers → Pages → AtomicOperation → Instr → MemoryStep
atomic_step r m x i = atomic_at r m x i (register r i.rs1)

-- ---- reservations ("Load-Reserved/Store-Conditional Instructions")

abbrev pub step_trapped : Machine → Signal → Step
step_trapped s why = record { outcome = outcome.Trap why; after = s }

-- a load that reserves its address and width, and read this, or is a segmentation fault
abbrev pub reserved_of : Machine → Instr → ℕ → Result ℕ MemFault → Step
reserved_of s i a (Ok v) =
    record { outcome = outcome.Done; after = machine (done_of s.regs i.rd (loaded_value i.op v)).regs s.memory (holding a (width_of i.op)) }
reserved_of s i a (Err fault) = step_trapped s signal.Segv

abbrev pub reserve_at : Machine → Instr → ℕ → Step
reserve_at s i a = cond (a % width_of i.op == 0) (reserved_of s i a (load_of s.memory a (width_of i.op))) (step_trapped s signal.Bus)

abbrev pub reserve_step : Machine → Instr → Step
reserve_step s i = reserve_at s i (register s.regs i.rs1)

-- a conditional store that wrote 0 or 1 and left the memory so: no address is reserved after it
abbrev pub ended_of : Machine → Instr → Pages → ℕ → Step
ended_of s i m value = record { outcome = outcome.Done; after = machine (done_of s.regs i.rd value).regs m nothing_held }

-- a conditional store that would leave the memory so, or is a segmentation fault: it stores where the address and the
-- width are those reserved
abbrev pub conditional_of : Machine → Instr → ℕ → Result Pages MemFault → Step
conditional_of s i a (Ok m) = cond (holds s.held a (width_of i.op)) (ended_of s i m 0) (ended_of s i s.memory 1)
conditional_of s i a (Err fault) = step_trapped s signal.Segv

abbrev pub conditional_at : Machine → Instr → ℕ → Step
conditional_at s i a =
    cond (a % width_of i.op == 0) (conditional_of s i a (store_of s.memory a (width_of i.op) (register s.regs i.rs2))) (step_trapped s signal.Bus)

abbrev pub conditional_step : Machine → Instr → Step
conditional_step s i = conditional_at s i (register s.regs i.rs1)

-- ---- every instruction

-- what an instruction of each kind does
abbrev pub meaning_of : Kind → Instr → Machine → Step
meaning_of kind.Registers i s = in_registers s (done_of s.regs i.rd (alu_of i.op (register s.regs i.rs1) (register s.regs i.rs2)))
meaning_of kind.Immediate i s = in_registers s (done_of s.regs i.rd (alu_of i.op (register s.regs i.rs1) (bits_of i.imm)))
meaning_of kind.LoadUpper i s = in_registers s (done_of s.regs i.rd (bits_of i.imm))
meaning_of kind.AddUpper i s = in_registers s (done_of s.regs i.rd (plus_immediate s.regs.pc i))
meaning_of kind.Jump i s = in_registers s (jumped_of s.regs i.rd (next s.regs) (plus_immediate s.regs.pc i))
meaning_of kind.JumpRegister i s = in_registers s (jump_register_of s.regs i)
meaning_of (kind.Branch c) i s = in_registers s (branch_of s.regs c i)
meaning_of kind.Load i s = in_registers s (load_step s.regs s.memory i)
meaning_of kind.Store i s = in_memory s (store_step s.regs s.memory i)
meaning_of (kind.Atomic x) i s = in_memory s (atomic_step s.regs s.memory x i)
meaning_of kind.LoadReserved i s = reserve_step s i
meaning_of kind.StoreConditional i s = conditional_step s i
meaning_of kind.Fence i s = in_registers s (done_of s.regs 0 0)
meaning_of kind.Ecall i s = record { outcome = outcome.Ecall; after = s }
meaning_of kind.Ebreak i s = step_trapped s signal.Trap

-- what an instruction does
unfoldable pub execute_of : Instr → Machine → Step
execute_of i s = meaning_of (kind_of i.op) i s

-- the instruction of a word; a word that is none is illegal
abbrev pub decoded_in : Option Instr → Result Instr Signal
decoded_in (Some i) = Ok i
decoded_in None = Err signal.Ill

-- the instruction of what was fetched; a fetch that fails is a segmentation fault
abbrev pub fetched_in : Result ℕ MemFault → Result Instr Signal
fetched_in (Ok word) = decoded_in (decode_of word)
fetched_in (Err fault) = Err signal.Segv

-- the instruction at an address, or why there is none
unfoldable pub instruction_at : Pages → ℕ → Result Instr Signal
instruction_at m pc = fetched_in (fetch_of m pc)

-- what an instruction does, or a trap where there is none
abbrev pub begun_of : Machine → Result Instr Signal → Step
begun_of s (Ok i) = execute_of i s
begun_of s (Err why) = step_trapped s why

-- what the instruction at the pc does
unfoldable pub step_of : Machine → Step
step_of s = begun_of s (instruction_at s.memory s.regs.pc)
