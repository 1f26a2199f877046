-- Tests, and the write that passes them.
use Rattle.std.proofs.Common.{◌≡◌, ◌⊎◌, ℕ, zero, suc, ◌+◌, ◌-◌, ◌<◌, ◌≤◌, min, Bool, true, false, not, ◌&&◌, eqb, leb, ltb, List, length, take, inl, inr, refl, sym, ◌∙◌, arith, lt-ltb, le-ltb, false-eqb}
use lib.Dec.{eqb-suc-zero}
use Rattle.std.proofs.lemmas.Bool.{cases_lt, leb-true, le-leb, lt-leb}
use Rattle.std.proofs.lemmas.Bool.Decides.{leb_tells}
use Rattle.abi_types.specs.declared.descriptor.Descriptor.{Descriptor}
use Rattle.channels.specs.Channels.{Channel, carried_of, is_open, is_hung, has_room, room, most_carried, push, push_if, pushed, sends}

pub ltb_cases : (a b : ℕ) → ((ltb a b ≡ true) × (a < b)) ⊎ ((ltb a b ≡ false) × (b ≤ a))
ltb_cases a b = elim (cases_lt a b) [ inl less ↦ inl (lt-ltb a b less, less) | inr more ↦ inr (le-ltb a b more, more) ]

pub bool_cases : (t : Bool) → (t ≡ true) ⊎ (t ≡ false)
bool_cases true = inl refl
bool_cases false = inr refl

not_false : (t : Bool) → not t ≡ false → t ≡ true
not_false true e = refl
not_false false e = cc

not_true : (t : Bool) → not t ≡ true → t ≡ false
not_true true e = cc
not_true false e = refl

and_parts : (a b : Bool) → (a && b) ≡ true → (a ≡ true) × (b ≡ true)
and_parts true b e = (refl, e)
and_parts false b e = cc

-- both sides are open, and there is room
pub record IsTaken (carried : List Descriptor) (channel : Channel) : Type 0 where
  pub reader_there : is_open channel.reader ≡ true
  pub room_left : 0 < room channel
  pub fit : length (carried_of channel.waiting) + length carried ≤ most_carried

pub may_take : (carried : List Descriptor) (channel : Channel) → is_hung channel ≡ false → has_room (length carried) channel ≡ true → IsTaken carried channel
may_take carried channel lives fits =
    let sides = and_parts (is_open channel.reader) (is_open channel.writer) (not_false (is_open channel.reader && is_open channel.writer) lives) in
    let rooms = and_parts (not (eqb (room channel) 0)) (leb (length (carried_of channel.waiting) + length carried) most_carried) fits in
    let left = false-eqb (room channel) 0 (sym (not_true (eqb (room channel) 0) rooms.0)) in
    record {
      reader_there = sides.0;
      room_left = omega (arith, left);
      fit = leb-true (length (carried_of channel.waiting) + length carried) most_carried rooms.1;
    }

-- what it comes to
pub pushes : (bytes : List ℕ) (carried : List Descriptor) (channel : Channel) → is_hung channel ≡ false → has_room (length carried) channel ≡ true
    → push bytes carried channel ≡ sends (min (length bytes) (room channel)) (pushed (take (room channel) bytes) carried channel)
pushes bytes carried channel lives fits = λ i. push_if (lives i) (fits i) bytes carried channel

pub would_push : (bytes : List ℕ) (carried : List Descriptor) (channel : Channel) → is_hung channel ≡ false → has_room (length carried) channel ≡ true
    → (count : ℕ) × (after : Channel) × (push bytes carried channel ≡ sends count after)
would_push bytes carried channel lives fits =
    (min (length bytes) (room channel), pushed (take (room channel) bytes) carried channel, pushes bytes carried channel lives fits)

-- where there is room for a byte, there is for so many descriptors if they are no more than is left
pub has_rest : (left waits count : ℕ) → 0 < left → waits ≤ most_carried
    → leb count (most_carried - waits) ≡ (not (eqb left 0) && leb (waits + count) most_carried)
has_rest zero waits count some few = absurd (omega arith)
has_rest (suc left) waits count some few =
    rw (eqb-suc-zero left)
    (elim (leb_tells count (most_carried - waits)) [
      | inl fits ↦ fits.0 ∙ sym (le-leb (waits + count) most_carried (omega (arith, fits.1)))
      | inr past ↦ past.0 ∙ sym (lt-leb (waits + count) most_carried (omega (arith, past.1)))
    ])
