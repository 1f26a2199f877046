-- Tickets of threads, those that are ready and those that are parked, and the processes that workers have.
use Rattle.std.specs.Prelude.{◌≡◌, ℕ, ◌+◌, ◌*◌, ◌^◌, ◌<◌, true, false, cond, List, [], ◌∷◌, ◌++◌, All, Option, None, Some}
use Rattle.std.specs.FinMap as map
use Rattle.std.specs.Ordering.{nat_cmp}
use Rattle.turn_queue.specs.Numbered.{Numbers, is_free}

-- Those that are ready stand in the order in which they came, and those that are parked each under the number of its thread.
pub record Tickets (T : Type 0) : Type 0 where
  pub ready : List T
  pub parked : map.FinMap nat_cmp T
  pub busy : Numbers

abbrev pub none : {T : Type 0} → Tickets T
none = record { ready = []; parked = map.empty; busy = map.empty }

-- ---- whose a ticket is

-- the number of thread t of process p
abbrev pub number_of : ℕ → ℕ → ℕ
number_of p t = p * 2 ^ 32 + t

-- The number is that of the ticket's thread, where process and thread say whose a ticket is.
pub record StandsUnder {T : Type 0} (process thread : T → ℕ) (number : ℕ) (ticket : T) : Type 0 where
  pub is : number ≡ number_of (process ticket) (thread ticket)
  pub small : thread ticket < 2 ^ 32

-- Each parked ticket stands under the number of its thread. Those processes are idle that have a parked ticket and that no worker has.
pub record IsQueue {T : Type 0} (process thread : T → ℕ) (parked : map.FinMap nat_cmp T) (busy idle : Numbers) : Type 0 where
  pub under : (number : ℕ) (ticket : T) → map.get parked number ≡ Some ticket → StandsUnder process thread number ticket
  pub free : (p : ℕ) → map.contains_key idle p ≡ true → map.contains_key busy p ≡ false
  pub some : (p : ℕ) → map.contains_key idle p ≡ true → (number : ℕ) × (ticket : T) × (map.get parked number ≡ Some ticket) × (process ticket ≡ p)
  pub all : (number : ℕ) (ticket : T) → map.get parked number ≡ Some ticket → is_free process busy ticket ≡ true → map.contains_key idle (process ticket) ≡ true

-- the ticket is of thread t of process p
abbrev pub IsTicketOf : {T : Type 0} → (T → ℕ) → (T → ℕ) → ℕ → ℕ → T → Type 0
IsTicketOf process thread p t ticket = (process ticket ≡ p) × (thread ticket ≡ t)

-- ---- one ticket

-- It is the last of those that are ready.
abbrev pub with_ready : {T : Type 0} → T → Tickets T → Tickets T
with_ready ticket old = record { ready = old.ready ++ ticket ∷ []; parked = old.parked; busy = old.busy }

-- It is parked under this number.
abbrev pub with_parked : {T : Type 0} → ℕ → T → Tickets T → Tickets T
with_parked number ticket old = record { ready = old.ready; parked = map.insert old.parked number ticket; busy = old.busy }

-- It is parked where none is under this number, and else is the last of those that are ready.
abbrev pub put_or_parked : {T : Type 0} → ℕ → T → Tickets T → Tickets T
put_or_parked number ticket old = cond (map.contains_key old.parked number) (with_ready ticket old) (with_parked number ticket old)

-- The parked ticket of the thread with this number, if there is one, is with who took it.
abbrev pub without : {T : Type 0} → ℕ → Tickets T → Tickets T
without number old = record { ready = old.ready; parked = map.remove old.parked number; busy = old.busy }

-- ---- one process

-- A worker has it.
abbrev pub held : {T : Type 0} → ℕ → Tickets T → Tickets T
held p old = record { ready = old.ready; parked = old.parked; busy = map.insert old.busy p tt }

-- Nobody has it.
abbrev pub released : {T : Type 0} → ℕ → Tickets T → Tickets T
released p old = record { ready = old.ready; parked = old.parked; busy = map.remove old.busy p }

-- each of these tickets is of a process that a worker has
abbrev pub NoneFree : {T : Type 0} → (T → ℕ) → Numbers → List T → Type 0
NoneFree process busy tickets = All (λ ticket. is_free process busy ticket ≡ false) tickets

-- a ticket is parked of a process that nobody has
abbrev pub SomeParked : {T : Type 0} → (T → ℕ) → Numbers → map.FinMap nat_cmp T → Type 0
SomeParked {T} process busy parked = (number : ℕ) × (ticket : T) × (map.get parked number ≡ Some ticket) × (is_free process busy ticket ≡ true)

-- none is
abbrev pub NoneParked : {T : Type 0} → (T → ℕ) → Numbers → map.FinMap nat_cmp T → Type 0
NoneParked {T} process busy parked = (number : ℕ) (ticket : T) → map.get parked number ≡ Some ticket → is_free process busy ticket ≡ false

-- This ticket was the first of a process that nobody had, and was taken. Its process is busy then, and the others are what they were.
pub record TakesFree {T : Type 0} (process : T → ℕ) (ticket : T) (old new : Tickets T) : Type 0 where
  pub front : List T
  pub back : List T
  pub was : old.ready ≡ front ++ ticket ∷ back
  pub is : is_free process old.busy ticket ≡ true
  pub first : NoneFree process old.busy front
  pub ready : new.ready ≡ front ++ back
  pub parked : new.parked ≡ old.parked
  pub busy : new.busy ≡ map.insert old.busy (process ticket) tt

-- What take_free did: it took that ticket, or nothing where none is ready of a process that nobody has.
abbrev pub MayTake : {T : Type 0} → (T → ℕ) → Option T → Tickets T → Tickets T → Type 0
MayTake process None old new = NoneFree process old.busy old.ready × (new ≡ old)
MayTake process (Some ticket) old new = TakesFree process ticket old new
