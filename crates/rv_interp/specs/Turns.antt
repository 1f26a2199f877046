-- What a turn of instructions does.
use Rattle.std.specs.Prelude.{◌≡◌, ℕ, zero, suc, ◌<◌, Option, Some, None}
use Rattle.abi_base.specs.Registers.{Registers}
use Rattle.guest_memory.specs.Page.{Pages}
use Rattle.rv_interp.specs.declared.execution.Outcome.{Outcome}
use Rattle.rv_interp.specs.declared.execution.Outcome.TheVariants as outcome
use Rattle.rv_interp.specs.declared.reservation.Reservation.{Reservation}
use Rattle.rv_interp.specs.declared.turns.TheConstants.{QUANTUM}
use Rattle.rv_interp.specs.declared.turns.TurnEnd.{TurnEnd}
use Rattle.rv_interp.specs.declared.turns.TurnEnd.TheVariants as turn_end
use Rattle.rv_interp.specs.Machine.{Machine, machine, nothing_held}
use Rattle.rv_interp.specs.Instructions.{step_of}

-- n instructions in a row, each of them done, lead from the first to the second
unfoldable pub Does : ℕ → Machine → Machine → Type 0
Does zero s t = s ≡ t
Does (suc n) s t = (u : Machine) × (step_of s ≡ record { outcome = outcome.Done; after = u }) × Does n u t

-- after fewer than `QUANTUM` instructions that were done, one comes with this outcome and changes nothing
abbrev pub StopsAt : Machine → Outcome → Machine → Type 0
StopsAt s end t = (n : ℕ) × (n < QUANTUM) × Does n s t × (step_of t ≡ record { outcome = end; after = t })

-- the outcome of an instruction that ends a turn so, if an instruction ends it
abbrev pub stop_of : TurnEnd → Option Outcome
stop_of turn_end.Quantum = None
stop_of turn_end.Ecall = Some outcome.Ecall
stop_of (turn_end.Trap signal) = Some (outcome.Trap signal)

-- a turn that starts so may end so with the thread so
pub record IsTurn (s : Machine) (end : TurnEnd) (t : Machine) : Type 0 where
  pub quantum : end ≡ turn_end.Quantum → Does QUANTUM s t
  pub stops : (o : Outcome) → stop_of end ≡ Some o → StopsAt s o t

-- a thread at the beginning of a turn: no address is reserved
abbrev pub fresh : Pages → Registers → Machine
fresh m r = machine r m nothing_held

-- a turn over this memory may lead from the first registers to this end, and the second memory and registers
abbrev pub Turns : Pages → Registers → TurnEnd → Pages → Registers → Type 0
Turns m r end n s = (held : Reservation) × IsTurn (fresh m r) end (machine s n held)

-- what instructions did: how they ended, and the thread after them
pub record Course : Type 0 where
  pub end : TurnEnd
  pub after : Machine

-- goes on from here after an instruction that was done, and else ends as it says
abbrev pub go_on : (Machine → Course) → Outcome → Machine → Course
go_on rest outcome.Done s = rest s
go_on rest outcome.Ecall s = record { end = turn_end.Ecall; after = s }
go_on rest (outcome.Trap signal) s = record { end = turn_end.Trap signal; after = s }

-- what at most n instructions do
unfoldable pub turn_within : ℕ → Machine → Course
turn_within zero s = record { end = turn_end.Quantum; after = s }
turn_within (suc n) s = go_on (turn_within n) (step_of s).outcome (step_of s).after

-- what a turn did: how it ended, and the registers and the memory after it
pub record Turn : Type 0 where
  pub end : TurnEnd
  pub regs : Registers
  pub memory : Pages

-- the reservation ends with the turn
abbrev pub without_reservation : Course → Turn
without_reservation c = record { end = c.end; regs = c.after.regs; memory = c.after.memory }

-- what a turn does
unfoldable pub turn_of : Pages → Registers → Turn
turn_of m r = without_reservation (turn_within QUANTUM (fresh m r))

-- `turn_of` is a turn
abbrev pub TurnOfIsTurn : Type 0
TurnOfIsTurn = (m : Pages) (r : Registers) → Turns m r (turn_of m r).end (turn_of m r).memory (turn_of m r).regs

-- there is no other turn
abbrev pub TurnIsOne : Type 0
TurnIsOne =
    (m : Pages) (r : Registers) (end : TurnEnd) (n : Pages) (s : Registers) → Turns m r end n s
    → turn_of m r ≡ record { end = end; regs = s; memory = n }
