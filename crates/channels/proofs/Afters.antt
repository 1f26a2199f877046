-- The sends that are left after a read, in one case and the other: it ends in the first of them, or goes on behind it.
--     after_inside, after_past
--     gone_after      each send has left or is left
--     coming_within, first_few, bounded_by      the descriptors that come with the next byte, and those that wait behind
use Rattle.std.proofs.Common.{◌≡◌, ℕ, zero, suc, ◌+◌, ◌-◌, ◌<◌, ◌≤◌, min, Bool, cond, not, ◌||◌, eqb, List, [], ◌∷◌, ◌++◌, length, inl, inr, refl, sym, ap, ◌∙◌, arith, lt-ltb, le-ltb}
use lib.Dec.{eqb-suc-zero}
use Rattle.std.specs.List.{AllByRecursion}
use Rattle.std.proofs.lemmas.Bool.{eq-eqb, ne_eqb}
use Rattle.std.proofs.lemmas.Bool.Decides.{eqb_tells}
use Rattle.std.proofs.lemmas.List.{length-append}
use Rattle.abi_types.specs.declared.descriptor.Descriptor.{Descriptor}
use Rattle.channels.specs.Channels.{Send, HasByte, carried_of, coming, is_bounded, is_none, reach, sends_after, sends_gone, some_carries}
use Rattle.channels.specs.ChannelLaws.{rest_of}
use Rattle.channels.proofs.Takes.{ltb_cases}

pub after_inside : (n : ℕ) (send : Send) (rest : List Send) → n < length send.bytes → sends_after n (send ∷ rest) ≡ rest_of n send ∷ rest
after_inside zero send rest inside = refl
after_inside (suc n) send rest inside =
    ap (λ (less : Bool). cond less (rest_of (suc n) send ∷ rest) (sends_after (suc n - length send.bytes) rest)) (lt-ltb (suc n) (length send.bytes) inside)

pub after_past : (n : ℕ) (send : Send) (rest : List Send) → 0 < length send.bytes → length send.bytes ≤ n
    → sends_after n (send ∷ rest) ≡ sends_after (n - length send.bytes) rest
after_past zero send rest some past = absurd (omega arith)
after_past (suc n) send rest some past =
    ap (λ (less : Bool). cond less (rest_of (suc n) send ∷ rest) (sends_after (suc n - length send.bytes) rest)) (le-ltb (suc n) (length send.bytes) past)

comes_none : (n : ℕ) → coming n [] ≡ []
comes_none zero = refl
comes_none (suc n) = refl

comes_some : (n : ℕ) (send : Send) (rest : List Send) → 0 < n → coming n (send ∷ rest) ≡ send.carried
comes_some zero send rest some = absurd (omega arith)
comes_some (suc n) send rest some = refl

pub gone_after : (n : ℕ) (sends : List Send) → sends_gone n sends + length (sends_after n sends) ≡ length sends
gone_after zero sends = omega arith
gone_after (suc n) [] = refl
gone_after (suc n) (send ∷ rest) =
    elim (ltb_cases (suc n) (length send.bytes)) [
      | inl inside ↦ rw inside.0 (omega arith)
      | inr past ↦ rw past.0 (omega (arith, gone_after (suc n - length send.bytes) rest))
    ]

-- ---- the descriptors that come

-- they come with the first byte
pub coming_within : (asked : ℕ) (sends : List Send) → AllByRecursion HasByte sends → coming (min asked (reach sends)) sends ≡ coming asked sends
coming_within zero sends whole = ap (λ (n : ℕ). coming n sends) (let none : min zero (reach sends) ≡ zero = omega arith in none)
coming_within (suc asked) [] whole = comes_none (min (suc asked) zero)
coming_within (suc asked) (send ∷ rest) whole = comes_some (min (suc asked) (reach (send ∷ rest))) send rest (omega (arith, whole.0))

-- and are the first of all that wait
pub first_few : (asked : ℕ) (sends : List Send) → length (coming asked sends) ≤ length (carried_of sends)
first_few zero sends = omega arith
first_few (suc asked) [] = omega arith
first_few (suc asked) (send ∷ rest) = omega (arith, length-append send.carried (carried_of rest))

-- no more come with some bytes than with one
pub first_of_all : (asked : ℕ) (sends : List Send) → length (coming asked sends) ≤ length (coming 1 sends)
first_of_all zero sends = omega arith
first_of_all (suc asked) [] = omega arith
first_of_all (suc asked) (send ∷ rest) = omega arith

-- ---- whether a send behind the first carries some

carry_some : (ds : List Descriptor) (rest : List Send) → some_carries rest ≡ not (eqb (length (carried_of rest)) 0)
    → (not (is_none ds) || some_carries rest) ≡ not (eqb (length (ds ++ carried_of rest)) 0)
carry_some [] rest h = h
carry_some (d ∷ ds) rest h = ap not (sym (eqb-suc-zero (length (ds ++ carried_of rest))))

some_carry : (sends : List Send) → some_carries sends ≡ not (eqb (length (carried_of sends)) 0)
some_carry [] = refl
some_carry (send ∷ rest) = carry_some send.carried rest (some_carry rest)

same_less : (a b : ℕ) → eqb (a + b) a ≡ eqb b 0
same_less a b =
    elim (eqb_tells b 0) [
      | inl none ↦ eq-eqb (a + b) a (omega (arith, none.1)) ∙ sym none.0
      | inr some ↦ ne_eqb (a + b) a (λ same. some.1 (omega (arith, same))) ∙ sym some.0
    ]

-- exactly where more wait than come with the next byte
pub bounded_by : (sends : List Send) → is_bounded sends ≡ not (eqb (length (carried_of sends)) (length (coming 1 sends)))
bounded_by [] = refl
bounded_by (send ∷ rest) =
    some_carry rest
    ∙ ap not (sym (same_less (length send.carried) (length (carried_of rest))))
    ∙ ap (λ (n : ℕ). not (eqb n (length send.carried))) (sym (length-append send.carried (carried_of rest)))
