-- A thread as it runs, and what an instruction did to it.
use Rattle.std.specs.Prelude.{ℕ, None, Some, Option, Bool, false, ◌&&◌, ◌==◌}
use Rattle.abi_base.specs.Registers.{Registers}
use Rattle.guest_memory.specs.Page.{Pages}
use Rattle.rv_interp.specs.declared.execution.Outcome.{Outcome}
use Rattle.rv_interp.specs.declared.reservation.Reservation.{Reservation}

-- a thread as it runs: its registers, its process's memory, and the reservation of its turn
pub record Machine : Type 0 where
  pub regs : Registers
  pub memory : Pages
  pub held : Reservation

abbrev pub machine : Registers → Pages → Reservation → Machine
machine r m h = record { regs = r; memory = m; held = h }

-- what an instruction did: its outcome, and the thread after it
pub record Step : Type 0 where
  pub outcome : Outcome
  pub after : Machine

-- what an instruction did to the registers, where it changes nothing else
pub record RegistersStep : Type 0 where
  pub outcome : Outcome
  pub regs : Registers

-- what an instruction did to the registers and the memory, where it changes nothing else
pub record MemoryStep : Type 0 where
  pub outcome : Outcome
  pub regs : Registers
  pub memory : Pages

abbrev pub in_registers : Machine → RegistersStep → Step
in_registers s t = record { outcome = t.outcome; after = machine t.regs s.memory s.held }

abbrev pub in_memory : Machine → MemoryStep → Step
in_memory s t = record { outcome = t.outcome; after = machine t.regs t.memory s.held }

-- no reservation
abbrev pub nothing_held : Reservation
nothing_held = record { held = None }

-- a reservation of an address and a width
abbrev pub holding : ℕ → ℕ → Reservation
holding a n = record { held = Some (a, n) }

abbrev pub is_of : Option (ℕ × ℕ) → ℕ → ℕ → Bool
is_of None a n = false
is_of (Some place) a n = place.0 == a && place.1 == n

-- whether the reservation is of this address and width
abbrev pub holds : Reservation → ℕ → ℕ → Bool
holds h a n = is_of h.held a n
