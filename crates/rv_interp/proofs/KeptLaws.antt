-- Instructions of slots, one after another.
--     more_at      one more that was done
--     none_since, more_since      none, and one more, counted from a number on
--     next_within      one that was done has a slot behind it
--     ended_at, call_at      one that isn't done, and an ECALL
--     kept_on      what is kept over two changes
--     found_at      the place of an address in its region
--     both_since      some, and then others from where they ended
use Rattle.std.proofs.Common.{◌≡◌, ℕ, suc, ◌+◌, ◌-◌, ◌<◌, ◌≤◌, List, get_or, refl, sym, ap, subst, ◌∙◌, arith}
use Rattle.abi_base.specs.Registers.{Registers, with_pc}
use Rattle.guest_memory.specs.Page.{Pages}
use Rattle.guest_memory.specs.Written.{KeepsUnwritable}
use Rattle.rv_code.specs.declared.instr.Op.TheVariants as op
use Rattle.rv_interp.specs.declared.execution.Outcome.{Outcome}
use Rattle.rv_interp.specs.declared.execution.Outcome.TheVariants as outcome
use Rattle.rv_interp.specs.declared.reservation.Reservation.{Reservation}
use Rattle.rv_interp.specs.declared.slot.Slot.{Slot}
use Rattle.rv_interp.specs.declared.regions.Region.{Region}
use Rattle.rv_interp.specs.declared.runs.Place.{Place}
use Rattle.rv_interp.specs.Cache.{IsFound, IsPlaceOf, IsTrueAt}
use Rattle.rv_interp.specs.Instructions.{execute_of, step_of}
use Rattle.rv_interp.specs.Machine.{Machine, machine}
use Rattle.rv_interp.specs.Slots.{address_at, instr_of}
use Rattle.rv_interp.specs.Turns.{Does}
use Rattle.rv_interp.proofs.Slots.{is_full, step_at}
use Rattle.rv_interp.proofs.Stops.{execute_unchanged}
use Rattle.rv_interp.proofs.TurnLaws.{does-both, does-more, does-none}

-- a thread whose next instruction is at a place
abbrev pub at_place : Registers → ℕ → ℕ → Pages → Reservation → Machine
at_place r base place m held = machine (with_pc r (address_at base place)) m held

pub more_at : (n : ℕ) (s : Machine) (r : Registers) (base place : ℕ) (m : Pages) (held : Reservation) (slot : Slot) (t : Machine)
    → Does n s (at_place r base place m held) → IsTrueAt m (address_at base place) slot
    → execute_of (instr_of slot) (at_place r base place m held) ≡ record { outcome = outcome.Done; after = t } → Does (n + 1) s t
more_at n s r base place m held slot t d kept e =
    let one : suc n ≡ n + 1 = omega arith in
    subst (λ k. Does k s t) one
    (does-more n s (at_place r base place m held) t d (step_at m base place slot (with_pc r (address_at base place)) held outcome.Done t kept refl e (λ x. absurd (cc))))

-- the same, counted from a number on
pub none_since : (from : ℕ) (s : Machine) → Does (from - from) s s
none_since from s =
    let none : 0 ≡ from - from = omega arith in
    subst (λ k. Does k s s) none (does-none s)

pub more_since : (n from : ℕ) (s : Machine) (r : Registers) (base place : ℕ) (m : Pages) (held : Reservation) (slot : Slot) (t : Machine)
    → from ≤ n → Does (n - from) s (at_place r base place m held) → IsTrueAt m (address_at base place) slot
    → execute_of (instr_of slot) (at_place r base place m held) ≡ record { outcome = outcome.Done; after = t } → Does (n + 1 - from) s t
more_since n from s r base place m held slot t within d kept e =
    let count : n - from + 1 ≡ n + 1 - from = omega (arith, within) in
    subst (λ k. Does k s t) count (more_at (n - from) s r base place m held slot t d kept e)

pub next_within : (place length : ℕ) (s : Machine) (slot : Slot) (t : Machine) → place < length → (place + 1 ≡ length → slot.op ≡ op.Ebreak)
    → execute_of (instr_of slot) s ≡ record { outcome = outcome.Done; after = t } → place + 1 < length
next_within place length s slot t within last e =
    let apart : place + 1 ≡ length → ⊥ = λ end. is_full slot s outcome.Done t e (λ x. absurd (cc)) (last end) in
    omega (arith, within, apart)

pub ended_at : (n : ℕ) (s before : Machine) (slot : Slot) (o : Outcome) (t : Machine) → Does n s before → execute_of (instr_of slot) before ≡ record { outcome = o; after = t } → (o ≡ outcome.Done → ⊥) → Does n s t
ended_at n s before slot o t d e stops = subst (Does n s) (sym (execute_unchanged (instr_of slot) before o t e stops)) d

pub call_at : (r : Registers) (base place : ℕ) (m : Pages) (held : Reservation) (slot : Slot) (t : Machine) → IsTrueAt m (address_at base place) slot
    → execute_of (instr_of slot) (at_place r base place m held) ≡ record { outcome = outcome.Ecall; after = t } → step_of t ≡ record { outcome = outcome.Ecall; after = t }
call_at r base place m held slot t kept e =
    let same : t ≡ at_place r base place m held = execute_unchanged (instr_of slot) (at_place r base place m held) outcome.Ecall t e (λ x. absurd (cc)) in
    ap step_of same ∙ step_at m base place slot (with_pc r (address_at base place)) held outcome.Ecall t kept refl e (λ x. absurd (cc))

pub kept_on : (a b c : Pages) → KeepsUnwritable a b → KeepsUnwritable b c → KeepsUnwritable a c
kept_on a b c f g number p there locked = g number p (f number p there locked) locked

pub found_at : (regions : List Region) (pc : ℕ) (place : Place) (region : Region) → region ≡ get_or regions place.region region → IsFound regions pc place → IsPlaceOf region pc place.at
found_at regions pc place region e found = subst (λ r. IsPlaceOf r pc place.at) (sym e) (found.is_place region)

pub both_since : (a b : ℕ) (s : Machine) (r x y : Registers) (m n : Pages) (h g : Reservation) (p : ℕ) → a ≤ b → p ≡ r.pc → x ≡ y → Does a s (machine r m h)
    → Does (b - a) (machine (with_pc r p) m h) (machine y n g) → Does b s (machine x n g)
both_since a b s r x y m n h g p within e f d more =
    let count : a + (b - a) ≡ b = omega (arith, within) in
    let rest : Does (b - a) (machine r m h) (machine x n g) =
    subst (λ z. Does (b - a) (machine r m h) (machine z n g)) (sym f) (subst (λ q. Does (b - a) (machine (with_pc r q) m h) (machine y n g)) e more) in
    subst (λ k. Does k s (machine x n g)) count (does-both a (b - a) s (machine r m h) (machine x n g) d rest)
