-- Slots of decoded instructions.
--     code_kept      a page that can't be written stays, so one that can be executed too
--     from_kept, all_kept      what is true stays true where pages that can be executed and not written stay
--     all_aligned      regions begin at multiples of 4
--     kept_instruction      an instruction of a page that can't be written makes a true slot
--     all_empty, set_true, slot_true      slots with no instruction, with one more, and one of them
--     is_full      the slot of an instruction that was done
--     decoded, step_at      the instruction that is next
use Rattle.std.proofs.Common.{◌≡◌, ℕ, zero, suc, ◌+◌, ◌/◌, ◌%◌, ◌^◌, ◌<◌, ◌≤◌, Bool, true, false, List, [], ◌∷◌, ◌++◌, if◌then◌else◌, Option, Some, None, Result, Ok, Err, IfErr, IfSome, length, get_or, replicate, set, pos, inl, inr, refl, sym, ap, subst, ◌∙◌, arith}
use Rattle.std.proofs.lemmas.Bool.Decides.{eqb_tells}
use Rattle.std.proofs.lemmas.List.Elements.{All-push, All-weaker}
use Rattle.std.proofs.lemmas.List.{get_or-replicate, get_or-set_same, get_or-set_other, length-replicate, length-set}
use Rattle.std.specs.FinMap.{get}
use Rattle.std.specs.Result.{is_err}
use Rattle.abi_base.specs.Registers.{Registers}
use Rattle.abi_base.specs.declared.signal.Signal.TheVariants as signal
use Rattle.guest_memory.specs.declared.access.Access.{Access}
use Rattle.guest_memory.specs.declared.access.Access.TheVariants.{Write, Exec}
use Rattle.guest_memory.specs.declared.fault.MemFault.{MemFault}
use Rattle.guest_memory.specs.Bytes.{byte_in, in_front, bytes_from}
use Rattle.guest_memory.specs.Page.{Page, Pages}
use Rattle.guest_memory.specs.Words.{number_in}
use Rattle.guest_memory.specs.Written.{KeepsCode, KeepsUnwritable}
use Rattle.rv_code.specs.declared.instr.Instr.{Instr}
use Rattle.rv_code.specs.declared.instr.Op.TheVariants as op
use Rattle.rv_code.specs.Formats.{NamesRegisters}
use Rattle.rv_interp.specs.declared.regions.Region.{Region}
use Rattle.rv_interp.specs.declared.slot.Slot.{Slot}
use Rattle.rv_interp.specs.declared.execution.Outcome.{Outcome}
use Rattle.rv_interp.specs.declared.execution.Outcome.TheVariants as outcome
use Rattle.rv_interp.specs.declared.reservation.Reservation.{Reservation}
use Rattle.rv_interp.specs.Cache.{IsFixedAt, IsTrueAt, AreTrueFrom, RegionIsTrue, AreTrue, AreAligned}
use Rattle.rv_interp.specs.Slots.{address_at, instr_of}
use Rattle.rv_interp.specs.Kinds.{kind_of}
use Rattle.rv_interp.proofs.PlaceLaws.{aligned_place}
use Rattle.rv_interp.specs.Machine.{Machine, Step, machine}
use Rattle.rv_interp.specs.Instructions.{fetched_in, instruction_at, begun_of, execute_of, meaning_of, step_of}

-- ---- bytes of one page

-- bytes that lie in a page are the same where the page is
same_bytes : (x : Access) (m n : Pages) (k a : ℕ) → get m (a / 4096) ≡ get n (a / 4096) → a < 2 ^ 64 → a % 4096 + k ≤ 4096 → bytes_from x m a k ≡ bytes_from x n a k
unfolding bytes_from
same_bytes x m n zero a e small fits = refl
same_bytes x m n (suc zero) a e small fits = ap (λ o. in_front (byte_in x a o) (Ok [])) e
same_bytes x m n (suc (suc k)) a e small fits =
    let next : (a + 1) % 2 ^ 64 ≡ a + 1 = omega arith in
    let page : (a + 1) / 4096 ≡ a / 4096 = omega arith in
    let rest : bytes_from x m (a + 1) (suc k) ≡ bytes_from x n (a + 1) (suc k) =
    same_bytes x m n (suc k) (a + 1) (ap (get m) page ∙ e ∙ sym (ap (get n) page)) (omega arith) (omega arith) in
    ap (λ o. in_front (byte_in x a o) (bytes_from x m ((a + 1) % 2 ^ 64) (suc k))) e
    ∙ ap (λ b. in_front (byte_in x a (get n (a / 4096))) (bytes_from x m b (suc k))) next
    ∙ ap (in_front (byte_in x a (get n (a / 4096)))) rest
    ∙ ap (λ b. in_front (byte_in x a (get n (a / 4096))) (bytes_from x n b (suc k))) (sym next)

-- the instruction at a multiple of 4 is the same where its page is
same_instruction : (m n : Pages) (pc : ℕ) → get m (pc / 4096) ≡ get n (pc / 4096) → pc < 2 ^ 64 → pc % 4 ≡ 0 → instruction_at m pc ≡ instruction_at n pc
unfolding instruction_at
same_instruction m n pc e small place = ap (λ bytes. fetched_in (number_in bytes)) (same_bytes Exec m n 4 pc e small (omega arith))

-- ---- slots

-- a page from which an instruction was fetched can be executed
executable_in : (p : Page) (a : ℕ) (b : Bool) (i : Instr) (rest : Result (List ℕ) MemFault) → p.prot.exec ≡ b
    → fetched_in (number_in (in_front (byte_in Exec a (Some p)) rest)) ≡ Ok i → p.prot.exec ≡ true
executable_in p a true i rest e had = e
executable_in p a false i rest e had = absurd (cc)

executable_page : (m : Pages) (pc : ℕ) (p : Page) (i : Instr) → get m (pc / 4096) ≡ Some p → instruction_at m pc ≡ Ok i → p.prot.exec ≡ true
unfolding instruction_at bytes_from
executable_page m pc p i there had =
    let rest = bytes_from Exec m ((pc + 1) % 2 ^ 64) 3 in
    executable_in p pc p.prot.exec i rest refl (ap (λ o. fetched_in (number_in (in_front (byte_in Exec pc o) rest))) (sym there) ∙ had)

-- pages that can't be written are those that can be executed and not written, and others
pub code_kept : (m n : Pages) → KeepsUnwritable m n → KeepsCode m n
code_kept m n keeps q p there locked exec = keeps q p there locked

kept_fixed : (m n : Pages) (pc : ℕ) (i : Instr) → KeepsCode m n → pc % 4 ≡ 0 → IsFixedAt m pc i → IsFixedAt n pc i
kept_fixed m n pc i keeps place h =
    let exec = executable_page m pc h.page i h.there h.instruction in
    let there : get n (pc / 4096) ≡ Some h.page = keeps (pc / 4096) h.page h.there h.unwritable exec in
    record {
      small = h.small;
      page = h.page;
      there = there;
      unwritable = h.unwritable;
      instruction = same_instruction n m pc (there ∙ sym h.there) h.small place ∙ h.instruction;
    }

kept_true : (m n : Pages) (pc : ℕ) → KeepsCode m n → pc % 4 ≡ 0 → (slot : Slot) → IsTrueAt m pc slot → IsTrueAt n pc slot
kept_true m n pc keeps multiple slot h =
    record { registers = h.registers; fixed = λ full. kept_fixed m n pc (instr_of slot) keeps multiple (h.fixed full) }

pub from_kept : (m n : Pages) (base : ℕ) (slots : List Slot) → KeepsCode m n → AreTrueFrom m base slots → AreTrueFrom n base slots
from_kept m n base slots keeps h =
    record {
      aligned = h.aligned;
      each = λ place d within. kept_true m n (address_at base place) keeps (aligned_place base place h.aligned) (get_or slots place d) (h.each place d within);
      last = h.last;
    }

pub all_kept : (m n : Pages) (regions : List Region) → KeepsCode m n → AreTrue m regions → AreTrue n regions
all_kept m n regions keeps h =
    All-weaker (RegionIsTrue m) (RegionIsTrue n) (λ region. from_kept m n region.base region.slots.items keeps) regions h

pub all_aligned : (m : Pages) (regions : List Region) → AreTrue m regions → AreAligned regions
all_aligned m regions h = All-weaker (RegionIsTrue m) (λ region. region.base % 4 ≡ 0) (λ region true. true.aligned) regions h

-- ---- a page that can't be written

-- a page whose byte can't be written
refused_write : (p : Page) (a : ℕ) (b : Bool) → p.prot.write ≡ b → (fault : MemFault) → in_front (byte_in Write a (Some p)) (Ok []) ≡ Err fault → p.prot.write ≡ false
refused_write p a true e fault refused = absurd (cc)
refused_write p a false e fault refused = e

-- a page that can be executed, as what was read of it says, and can't be written
unwritable_page : (m : Pages) (a : ℕ) (o : Option Page) (i : Instr) (rest : Result (List ℕ) MemFault) (fault : MemFault) → get m (a / 4096) ≡ o
    → fetched_in (number_in (in_front (byte_in Exec a o) rest)) ≡ Ok i
    → in_front (byte_in Write a o) (Ok []) ≡ Err fault → (p : Page) × (get m (a / 4096) ≡ Some p) × (p.prot.write ≡ false)
unwritable_page m a None i rest fault e had refused = absurd (cc)
unwritable_page m a (Some p) i rest fault e had refused = (p, e, refused_write p a p.prot.write refl fault refused)

-- an instruction that was fetched from a page that can't be written
fixed_by : (m : Pages) (pc : ℕ) (i : Instr) (fault : MemFault) → instruction_at m pc ≡ Ok i → bytes_from Write m pc 1 ≡ Err fault → pc < 2 ^ 64 → IsFixedAt m pc i
unfolding instruction_at bytes_from
fixed_by m pc i fault had refused small =
    let page = unwritable_page m pc (get m (pc / 4096)) i (bytes_from Exec m ((pc + 1) % 2 ^ 64) 3) fault refl had refused in
    record { small = small; page = page.0; there = page.1; unwritable = page.2; instruction = had }

-- ---- the cache

-- the fault of a check that failed
failure : {A : Type 0} (b : Result (List ℕ) MemFault) (r : Result A MemFault) → IfErr r (λ fault. b ≡ Err fault) → is_err r ≡ true → (fault : MemFault) × (b ≡ Err fault)
failure b (Ok x) h e = absurd (cc)
failure b (Err fault) h e = (fault, h)

-- the instruction at an address makes a true slot, where the check says that its page can't be written
pub kept_instruction : {A : Type 0} (m : Pages) (pc : ℕ) (slot : Slot) (i : Instr) (r : Result A MemFault) → IfErr r (λ fault. bytes_from Write m pc 1 ≡ Err fault) → is_err r ≡ true → pc < 2 ^ 64
    → instruction_at m pc ≡ Ok i → instr_of slot ≡ i → NamesRegisters i → IsTrueAt m pc slot
kept_instruction m pc slot i r refused e small had same names =
    let fault : (fault : MemFault) × (bytes_from Write m pc 1 ≡ Err fault) = failure (bytes_from Write m pc 1) r refused e in
    record {
      registers = subst NamesRegisters (sym same) names;
      fixed = λ full. subst (IsFixedAt m pc) (sym same) (fixed_by m pc i fault.0 had fault.1 small);
    }

-- an empty slot is true of every memory
abbrev empty_slot : Slot
empty_slot = record { op = op.Ebreak; rd = 0; rs1 = 0; rs2 = 0; imm = pos 0 }

empty_true : (m : Pages) (pc : ℕ) (slot : Slot) → slot ≡ empty_slot → IsTrueAt m pc slot
empty_true m pc slot e =
    subst (IsTrueAt m pc) (sym e) (record { registers = (omega arith, omega arith, omega arith); fixed = λ full. absurd (full refl) })

-- slots with no instruction
pub all_empty : (m : Pages) (base : ℕ) (slots : List Slot) (n : ℕ) → base % 4 ≡ 0 → slots ≡ replicate n empty_slot → AreTrueFrom m base slots
all_empty m base slots n multiple e =
    let long : length slots ≡ n = ap length e ∙ length-replicate n empty_slot in
    record {
      aligned = multiple;
      each = λ place d within. empty_true m (address_at base place) (get_or slots place d)
          (ap (λ xs. get_or xs place d) e ∙ get_or-replicate n place empty_slot d (omega (arith, within, long)));
      last = λ place d end. ap (λ (s : Slot). s.op) (ap (λ xs. get_or xs place d) e ∙ get_or-replicate n place empty_slot d (omega (arith, end, long)));
    }

each_set : (m : Pages) (base : ℕ) (slots : List Slot) (place : ℕ) (slot : Slot) → AreTrueFrom m base slots → IsTrueAt m (address_at base place) slot → place < length slots
    → (k : ℕ) (d : Slot) → k < length slots → IsTrueAt m (address_at base k) (get_or (set slots place slot) k d)
each_set m base slots place slot h kept within k d small =
    elim (eqb_tells k place) [
      | inl same ↦
          subst (λ x. IsTrueAt m (address_at base x) (get_or (set slots place slot) x d)) (sym same.1)
          (subst (IsTrueAt m (address_at base place)) (sym (get_or-set_same slots place slot d within)) kept)
      | inr apart ↦ subst (IsTrueAt m (address_at base k)) (sym (get_or-set_other slots place k slot d apart.1)) (h.each k d small)
    ]

-- the slots with one filled that isn't the last
pub set_true : (m : Pages) (base : ℕ) (slots : List Slot) (place : ℕ) (slot : Slot) → AreTrueFrom m base slots → IsTrueAt m (address_at base place) slot → place + 1 < length slots → AreTrueFrom m base (set slots place slot)
set_true m base slots place slot h kept within =
    let long = length-set slots place slot in
    record {
      aligned = h.aligned;
      each = λ k d small. each_set m base slots place slot h kept (omega (arith, within)) k d (omega (arith, small, long));
      last = λ k d end. ap (λ (s : Slot). s.op) (get_or-set_other slots place k slot d (λ same. omega (arith, same, end, long, within))) ∙ h.last k d (omega (arith, end, long));
    }

-- the instruction of a slot, which names registers
pub slot_true : (m : Pages) (base : ℕ) (slots : List Slot) (place : ℕ) (slot : Slot) → AreTrueFrom m base slots → place < length slots → slot ≡ get_or slots place slot → IsTrueAt m (address_at base place) slot
slot_true m base slots place slot h within read = subst (IsTrueAt m (address_at base place)) (sym read) (h.each place slot within)

-- the instruction that is next, decoded
pub decoded : (m : Pages) (r : Registers) (held : Reservation) (pc : ℕ) (i : Instr) (step : Step) → r.pc ≡ pc → instruction_at m pc ≡ Ok i → execute_of i (machine r m held) ≡ step → step_of (machine r m held) ≡ step
unfolding step_of
decoded m r held pc i step same had e = ap (begun_of (machine r m held)) (ap (instruction_at m) same ∙ had) ∙ e

-- an empty slot's instruction traps
traps : (i : Instr) (s : Machine) → i.op ≡ op.Ebreak → (execute_of i s).outcome ≡ outcome.Trap signal.Trap
unfolding execute_of
traps i s e = ap (λ o. (meaning_of (kind_of o) i s).outcome) e

-- a slot whose instruction ended otherwise than an empty one's isn't empty
pub is_full : (slot : Slot) (s : Machine) (o : Outcome) (t : Machine) → execute_of (instr_of slot) s ≡ record { outcome = o; after = t } → (o ≡ outcome.Trap signal.Trap → ⊥) → slot.op ≡ op.Ebreak → ⊥
is_full slot s o t e n empty = n (sym (ap (λ (u : Step). u.outcome) e) ∙ traps (instr_of slot) s empty)

-- what a slot's instruction does is what the instruction at its place does, unless it traps
pub step_at : (m : Pages) (base place : ℕ) (slot : Slot) (r : Registers) (held : Reservation) (o : Outcome) (t : Machine) → IsTrueAt m (address_at base place) slot → r.pc ≡ address_at base place
    → execute_of (instr_of slot) (machine r m held) ≡ record { outcome = o; after = t } → (o ≡ outcome.Trap signal.Trap → ⊥) → step_of (machine r m held) ≡ record { outcome = o; after = t }
step_at m base place slot r held o t kept same e n =
    let fixed : IsFixedAt m (address_at base place) (instr_of slot) =
    kept.fixed (is_full slot (machine r m held) o t e n) in
    decoded m r held (address_at base place) (instr_of slot) _ same fixed.instruction e

-- what holds of what there is
pub if_some : {A : Type 0} (P Q : A → Type 0) (o : Option A) → ((x : A) → P x → Q x) → IfSome o P → IfSome o Q
if_some P Q None f h = h
if_some P Q (Some x) f h = f x h

-- regions with one more, if there was memory for it
pub pushed_true : (m : Pages) (b : Bool) (regions : List Region) (region : Region) → AreTrue m regions → RegionIsTrue m region → AreTrue m (if b then regions ++ region ∷ [] else regions)
pushed_true m true regions region h new = All-push (RegionIsTrue m) regions region h new
pushed_true m false regions region h new = h
