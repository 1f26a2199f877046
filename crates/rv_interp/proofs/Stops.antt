-- An instruction that isn't done changes nothing.
use Rattle.std.proofs.Common.{◌≡◌, ℕ, ◌%◌, ◌==◌, Bool, true, false, cond, Result, Ok, Err, refl, sym, ap, ◌∙◌}
use Rattle.abi_base.specs.Registers.{Registers}
use Rattle.abi_base.specs.declared.signal.Signal.{Signal}
use Rattle.abi_base.specs.declared.signal.Signal.TheVariants as signal
use Rattle.guest_memory.specs.declared.fault.MemFault.{MemFault}
use Rattle.guest_memory.specs.Page.{Pages}
use Rattle.guest_memory.specs.Words.{load_of, store_of}
use Rattle.rv_code.specs.declared.instr.Instr.{Instr}
use Rattle.rv_interp.specs.declared.execution.Outcome.{Outcome}
use Rattle.rv_interp.specs.declared.execution.Outcome.TheVariants as outcome
use Rattle.rv_interp.specs.declared.values.AtomicOperation.{AtomicOperation}
use Rattle.rv_interp.specs.Kinds as kind
use Rattle.rv_interp.specs.declared.reservation.Reservation.{Reservation}
use Rattle.rv_interp.specs.Kinds.{Kind, kind_of, width_of}
use Rattle.rv_interp.specs.Machine.{Machine, Step, RegistersStep, MemoryStep, machine, in_registers, in_memory, holds}
use Rattle.rv_interp.specs.Values.{is_taken, atomic_value}
use Rattle.rv_interp.specs.Instructions.{register, address, plus_immediate, done_of, trapped, jumped_of, loaded_of, stored_of, memory_trapped, exchanged_of, exchange_of, step_trapped, reserved_of, ended_of, conditional_of, meaning_of, execute_of, instruction_at, begun_of, step_of}

-- where it isn't done, the registers are these; the registers and the memory; the whole thread
abbrev Keeps : RegistersStep → Registers → Type 0
Keeps t r = (t.outcome ≡ outcome.Done → ⊥) → t.regs ≡ r

record KeepsBoth (t : MemoryStep) (r : Registers) (m : Pages) : Type 0 where
  regs : (t.outcome ≡ outcome.Done → ⊥) → t.regs ≡ r
  memory : (t.outcome ≡ outcome.Done → ⊥) → t.memory ≡ m

abbrev KeepsAll : Step → Machine → Type 0
KeepsAll t s = (t.outcome ≡ outcome.Done → ⊥) → t.after ≡ s

jump_keeps : (b : Bool) (r x : Registers) (why : Signal) → Keeps (cond b (record { outcome = outcome.Done; regs = x }) (trapped r why)) r
jump_keeps true r x why = λ n. absurd (n refl)
jump_keeps false r x why = λ n. refl

branch_keeps : (b : Bool) (r : Registers) (target : ℕ) → Keeps (cond b (jumped_of r 0 0 target) (done_of r 0 0)) r
branch_keeps true r target = jump_keeps (target % 4 == 0) r _ signal.Bus
branch_keeps false r target = λ n. absurd (n refl)

load_keeps : (r : Registers) (i : Instr) (read : Result ℕ MemFault) → Keeps (loaded_of r i read) r
load_keeps r i (Ok v) = λ n. absurd (n refl)
load_keeps r i (Err fault) = λ n. refl

store_keeps : (r : Registers) (m : Pages) (written : Result Pages MemFault) → KeepsBoth (stored_of r m written) r m
store_keeps r m (Ok after) = record { regs = λ n. absurd (n refl); memory = λ n. absurd (n refl) }
store_keeps r m (Err fault) = record { regs = λ n. refl; memory = λ n. refl }

exchanged_keeps : (r : Registers) (m : Pages) (i : Instr) (v : ℕ) (written : Result Pages MemFault) → KeepsBoth (exchanged_of r m i v written) r m
exchanged_keeps r m i v (Ok after) = record { regs = λ n. absurd (n refl); memory = λ n. absurd (n refl) }
exchanged_keeps r m i v (Err fault) = record { regs = λ n. refl; memory = λ n. refl }

exchange_keeps : (r : Registers) (m : Pages) (x : AtomicOperation) (i : Instr) (a : ℕ) (read : Result ℕ MemFault) → KeepsBoth (exchange_of r m x i a read) r m
exchange_keeps r m x i a (Ok v) = exchanged_keeps r m i v (store_of m a (width_of i.op) (atomic_value (width_of i.op) x v (register r i.rs2)))
exchange_keeps r m x i a (Err fault) = record { regs = λ n. refl; memory = λ n. refl }

atomic_keeps : (b : Bool) (r : Registers) (m : Pages) (x : AtomicOperation) (i : Instr) (a : ℕ) → KeepsBoth (cond b (exchange_of r m x i a (load_of m a (width_of i.op))) (memory_trapped r m signal.Bus)) r m
atomic_keeps true r m x i a = exchange_keeps r m x i a (load_of m a (width_of i.op))
atomic_keeps false r m x i a = record { regs = λ n. refl; memory = λ n. refl }

reserved_keeps : (s : Machine) (i : Instr) (a : ℕ) (read : Result ℕ MemFault) → KeepsAll (reserved_of s i a read) s
reserved_keeps s i a (Ok v) = λ n. absurd (n refl)
reserved_keeps s i a (Err fault) = λ n. refl

reserve_keeps : (b : Bool) (s : Machine) (i : Instr) (a : ℕ) → KeepsAll (cond b (reserved_of s i a (load_of s.memory a (width_of i.op))) (step_trapped s signal.Bus)) s
reserve_keeps true s i a = reserved_keeps s i a (load_of s.memory a (width_of i.op))
reserve_keeps false s i a = λ n. refl

ended_keeps : (b : Bool) (s : Machine) (i : Instr) (m : Pages) → KeepsAll (cond b (ended_of s i m 0) (ended_of s i s.memory 1)) s
ended_keeps true s i m = λ n. absurd (n refl)
ended_keeps false s i m = λ n. absurd (n refl)

stored_keeps : (s : Machine) (i : Instr) (a : ℕ) (written : Result Pages MemFault) → KeepsAll (conditional_of s i a written) s
stored_keeps s i a (Ok m) = ended_keeps (holds s.held a (width_of i.op)) s i m
stored_keeps s i a (Err fault) = λ n. refl

conditional_keeps : (b : Bool) (s : Machine) (i : Instr) (a : ℕ) → KeepsAll (cond b (conditional_of s i a (store_of s.memory a (width_of i.op) (register s.regs i.rs2))) (step_trapped s signal.Bus)) s
conditional_keeps true s i a = stored_keeps s i a (store_of s.memory a (width_of i.op) (register s.regs i.rs2))
conditional_keeps false s i a = λ n. refl

in_registers_keeps : (s : Machine) (t : RegistersStep) → Keeps t s.regs → KeepsAll (in_registers s t) s
in_registers_keeps s t h = λ n. ap (λ r. machine r s.memory s.held) (h n)

in_memory_keeps : (s : Machine) (t : MemoryStep) → KeepsBoth t s.regs s.memory → KeepsAll (in_memory s t) s
in_memory_keeps s t h = λ n. ap (λ r. machine r t.memory s.held) (h.regs n) ∙ ap (λ m. machine s.regs m s.held) (h.memory n)

meaning_keeps : (k : Kind) (i : Instr) (s : Machine) → KeepsAll (meaning_of k i s) s
meaning_keeps kind.Registers i s = λ n. absurd (n refl)
meaning_keeps kind.Immediate i s = λ n. absurd (n refl)
meaning_keeps kind.LoadUpper i s = λ n. absurd (n refl)
meaning_keeps kind.AddUpper i s = λ n. absurd (n refl)
meaning_keeps kind.Jump i s = in_registers_keeps s _ (jump_keeps (plus_immediate s.regs.pc i % 4 == 0) s.regs _ signal.Bus)
meaning_keeps kind.JumpRegister i s = in_registers_keeps s _ (jump_keeps _ s.regs _ signal.Bus)
meaning_keeps (kind.Branch c) i s = in_registers_keeps s _ (branch_keeps (is_taken c (register s.regs i.rs1) (register s.regs i.rs2)) s.regs (plus_immediate s.regs.pc i))
meaning_keeps kind.Load i s = in_registers_keeps s _ (load_keeps s.regs i (load_of s.memory (address s.regs i) (width_of i.op)))
meaning_keeps kind.Store i s = in_memory_keeps s _ (store_keeps s.regs s.memory (store_of s.memory (address s.regs i) (width_of i.op) (register s.regs i.rs2)))
meaning_keeps (kind.Atomic x) i s = in_memory_keeps s _ (atomic_keeps (register s.regs i.rs1 % width_of i.op == 0) s.regs s.memory x i (register s.regs i.rs1))
meaning_keeps kind.LoadReserved i s = reserve_keeps (register s.regs i.rs1 % width_of i.op == 0) s i (register s.regs i.rs1)
meaning_keeps kind.StoreConditional i s = conditional_keeps (register s.regs i.rs1 % width_of i.op == 0) s i (register s.regs i.rs1)
meaning_keeps kind.Fence i s = λ n. absurd (n refl)
meaning_keeps kind.Ecall i s = λ n. refl
meaning_keeps kind.Ebreak i s = λ n. refl

begun_keeps : (s : Machine) (instruction : Result Instr Signal) → KeepsAll (begun_of s instruction) s
unfolding execute_of
begun_keeps s (Ok i) = meaning_keeps (kind_of i.op) i s
begun_keeps s (Err why) = λ n. refl

step_keeps : (s : Machine) → KeepsAll (step_of s) s
unfolding step_of
step_keeps s = begun_keeps s (instruction_at s.memory s.regs.pc)

pub stop_unchanged : (s : Machine) (o : Outcome) (t : Machine) → step_of s ≡ record { outcome = o; after = t } → (o ≡ outcome.Done → ⊥) → s ≡ t
stop_unchanged s o t e n = sym (step_keeps s (λ d. n (sym (ap (λ (u : Step). u.outcome) e) ∙ d))) ∙ ap (λ (u : Step). u.after) e

-- the parts of a thread that an instruction left as it was
pub parts_unchanged : (i : Instr) (s : Machine) (o : Outcome) (r : Registers) (m : Pages) (h : Reservation) → execute_of i s ≡ record { outcome = o; after = machine r m h } → (o ≡ outcome.Done → ⊥) → (r ≡ s.regs) × (m ≡ s.memory) × (h ≡ s.held)
unfolding execute_of
parts_unchanged i s o r m h e n =
    let same : machine r m h ≡ s = sym (ap (λ (u : Step). u.after) e) ∙ meaning_keeps (kind_of i.op) i s (λ d. n (sym (ap (λ (u : Step). u.outcome) e) ∙ d)) in
    (ap (λ (t : Machine). t.regs) same, ap (λ (t : Machine). t.memory) same, ap (λ (t : Machine). t.held) same)

pub execute_unchanged : (i : Instr) (s : Machine) (o : Outcome) (t : Machine) → execute_of i s ≡ record { outcome = o; after = t } → (o ≡ outcome.Done → ⊥) → t ≡ s
unfolding execute_of
execute_unchanged i s o t e n = sym (ap (λ (u : Step). u.after) e) ∙ meaning_keeps (kind_of i.op) i s (λ d. n (sym (ap (λ (u : Step). u.outcome) e) ∙ d))
