-- Which bytes are an integer's: by the first two bytes and by how many there are.
use Rattle.std.proofs.Common.{◌≡◌, ℕ, zero, suc, ◌+◌, ◌-◌, ◌*◌, ◌^◌, ◌<◌, ◌≤◌, ◌⊎◌, inl, inr, Bool, true, false, not, cond, eqb, ltb, ◌&&◌, ◌||◌, List, [], ◌∷◌, length, refl, sym, ap, subst, ◌∙◌, arith, ℤ, pos, negsuc, pow-suc, mul_comm}
use Rattle.std.proofs.Math.Nat.{mul-le-mul_right}
use Rattle.std.proofs.lemmas.Bool.{cases_lt, cases_eq, lt-ltb, le-ltb, ltb-true, ltb-false, eqb-true, eq-eqb, true≢false, and_parts, not-true, false_from_ne_true}
use Rattle.argdata_codec.specs.Encoding.{steps, IsInRange, IsWithin}
use Rattle.argdata_codec.specs.Writing.{width_of}
use Rattle.argdata_codec.specs.Reading.{number_after, signed, is_in_range, integer_at}
use Rattle.lists.proofs.Chosen.{chosen, none_some}
use Rattle.argdata_codec.proofs.Fields.{AreBytes}
use Rattle.argdata_codec.proofs.Groups.{width_within, width_least}
use Rattle.argdata_codec.proofs.Numbers.{range_is, range_test, number_below, power_small, power_some}
use Rattle.argdata_codec.proofs.Begins.{IsRead}
use Rattle.argdata_codec.proofs.Outcomes.{or_cases, nonzero}

-- the first byte isn't needed before the second
abbrev pub is_idle : ℕ → ℕ → Bool
is_idle b c = (eqb b 0 && ltb c 128) || (eqb b 255 && not (ltb c 128))

-- how many bytes may follow the second
abbrev pub most : ℕ → ℕ
most b = cond (eqb b 0) 7 6

abbrev pub Integers : List ℕ → Type 0
Integers [] = Unit {0}
Integers (b ∷ []) = 0 < b
Integers (b ∷ c ∷ rest) = (is_idle b c ≡ false) × (length rest ≤ most b)

-- the number that bytes are
abbrev integer_of : List ℕ → ℤ
integer_of body = signed (256 ^ length body) (number_after 0 body)

-- what an integer has to be
record IsShortest (i : ℤ) (count : ℕ) : Type 0 where
  few : count ≤ 9
  range : IsInRange i
  holds : IsWithin count i
  shortest : (fewer : ℕ) → fewer < count → IsWithin fewer i → ⊥

read_when : (body : List ℕ) → IsShortest (integer_of body) (length body) → IsRead (integer_at body)
unfolding integer_at
read_when body h =
    let i = integer_of body in
    let k = length body in
    let width : width_of i ≡ k = least (cases_lt (width_of i) k) (width_least k i h.holds) in
    (i, rw (le-ltb 9 k h.few, range_test i h.range, eq-eqb (width_of i) k width) refl)
  where
    least : (width_of (integer_of body) < length body) ⊎ (length body ≤ width_of (integer_of body)) → width_of (integer_of body) ≤ length body → width_of (integer_of body) ≡ length body
    least (inl lt) le = absurd (h.shortest (width_of (integer_of body)) lt (width_within (integer_of body)))
    least (inr ge) le = omega arith

read_only : (body : List ℕ) → IsRead (integer_at body) → IsShortest (integer_of body) (length body)
unfolding integer_at
read_only body h =
    let i = integer_of body in
    let k = length body in
    elim (chosen (ltb 9 k) _ _ _ h.1) [
      | inl p ↦ absurd (none_some h.0 p.1)
      | inr p ↦ elim (chosen (is_in_range i && eqb (width_of i) k) _ _ _ p.1) [
        | inr q ↦ absurd (none_some h.0 q.1)
        | inl q ↦
            let tests = and_parts (is_in_range i) (eqb (width_of i) k) q.0 in
            let width : width_of i ≡ k = eqb-true (width_of i) k tests.1 in
            record {
              few = ltb-false 9 k p.0;
              range = range_is i tests.0;
              holds = subst (λ (w : ℕ). IsWithin w i) width (width_within i);
              shortest = λ fewer lt within. absurd (omega (arith, width, lt, width_least fewer i within));
            }
      ]
    ]

-- ---- the number from its first two bytes

number_above : (body : List ℕ) (high : ℕ) → high * 256 ^ length body ≤ number_after high body
number_above [] high = omega arith
number_above (b ∷ bs) high =
    let unit = 256 ^ length bs in
    let r : (256 * high + b) * unit ≤ number_after high (b ∷ bs) = number_above bs (256 * high + b) in
    let wider : 256 ^ length (b ∷ bs) ≡ 256 * unit = pow-suc 256 (length bs) ∙ mul_comm unit 256 in
    let less : (256 * high) * unit ≤ (256 * high + b) * unit = mul-le-mul_right unit (omega arith) in
    let total : high * 256 ^ length (b ∷ bs) ≡ high * (256 * unit) = ap (λ (n : ℕ). high * n) wider in
    omega (arith, r, total, less)

-- what is known of a number by its first two bytes, where r bytes follow
record Leads (b c r n : ℕ) : Type 0 where
  above : (256 * b + c) * 256 ^ r ≤ n
  below : n < (256 * b + c + 1) * 256 ^ r

leads : (b c : ℕ) (rest : List ℕ) → AreBytes rest → Leads b c (length rest) (number_after 0 (b ∷ c ∷ rest))
leads b c rest all =
    let first : 256 * (256 * 0 + b) + c ≡ 256 * b + c = omega arith in
    record {
      above = subst (λ (x : ℕ). x * 256 ^ length rest ≤ number_after 0 (b ∷ c ∷ rest)) first (number_above rest (256 * (256 * 0 + b) + c));
      below = subst (λ (x : ℕ). number_after 0 (b ∷ c ∷ rest) < (x + 1) * 256 ^ length rest) first (number_below rest (256 * (256 * 0 + b) + c) all);
    }

-- the two signs
low_is : (r n : ℕ) → n < 32768 * 256 ^ r → signed (256 ^ suc (suc r)) n ≡ pos n
low_is r n lt = rw (lt-ltb (2 * n) (256 ^ suc (suc r)) (omega (arith, lt, pow-suc 256 (suc r), pow-suc 256 r))) refl

high_is : (r n : ℕ) → 32768 * 256 ^ r ≤ n → signed (256 ^ suc (suc r)) n ≡ negsuc (65536 * 256 ^ r - suc n)
high_is r n le =
    let wide : 256 ^ suc (suc r) ≡ 65536 * 256 ^ r = omega (arith, pow-suc 256 (suc r), pow-suc 256 r) in
    rw (le-ltb (2 * n) (256 ^ suc (suc r)) (omega (arith, le, wide)), wide) refl

pos_zero : (n : ℕ) → pos n ≡ pos 0 → n ≡ 0
pos_zero n e = cc

within_more : (r steps : ℕ) → steps < 32768 * 256 ^ r → steps < 128 * 256 ^ suc r
within_more r steps lt = omega (arith, lt, pow-suc 256 r)

none_fewer : (r steps fewer : ℕ) → fewer ≤ r → 128 * 256 ^ r ≤ steps → steps < 128 * 256 ^ fewer → ⊥
none_fewer r steps fewer le least lt = omega (arith, least, lt, power_small fewer r le)

shortest_low : (r n : ℕ) → r ≤ 7 → n < 2 ^ 64 → 128 * 256 ^ r ≤ n → n < 32768 * 256 ^ r → IsShortest (pos n) (suc (suc r))
shortest_low r n few range least most = record {
  few = omega (arith, few);
  range = range;
  holds = within_more r n most;
  shortest = shortest;
}
  where
    shortest : (fewer : ℕ) → fewer < suc (suc r) → IsWithin fewer (pos n) → ⊥
    shortest zero lt h = omega (arith, least, power_some r, pos_zero n h)
    shortest (suc fewer) lt h = none_fewer r n fewer (omega (arith, lt)) least h

shortest_high : (r n : ℕ) → r ≤ 7 → n < 2 ^ 63 → 128 * 256 ^ r ≤ n → n < 32768 * 256 ^ r → IsShortest (negsuc n) (suc (suc r))
shortest_high r n few range least most = record {
  few = omega (arith, few);
  range = range;
  holds = within_more r n most;
  shortest = shortest;
}
  where
    shortest : (fewer : ℕ) → fewer < suc (suc r) → IsWithin fewer (negsuc n) → ⊥
    shortest zero lt h = absurd cc
    shortest (suc fewer) lt h = none_fewer r n fewer (omega (arith, lt)) least h

-- ---- the tests of the first two bytes

idle_is : (b c : ℕ) → is_idle b c ≡ true → ((b ≡ 0) × (c < 128)) ⊎ ((b ≡ 255) × (128 ≤ c))
idle_is b c e =
    elim (or_cases (eqb b 0 && ltb c 128) (eqb b 255 && not (ltb c 128)) e) [
      | inl h ↦ let p = and_parts (eqb b 0) (ltb c 128) h in inl (eqb-true b 0 p.0, ltb-true c 128 p.1)
      | inr h ↦ let p = and_parts (eqb b 255) (not (ltb c 128)) h in inr (eqb-true b 255 p.0, ltb-false c 128 (not-true (ltb c 128) p.1))
    ]

not_idle : (b c : ℕ) → (((b ≡ 0) × (c < 128)) ⊎ ((b ≡ 255) × (128 ≤ c)) → ⊥) → is_idle b c ≡ false
not_idle b c none = false_from_ne_true (is_idle b c) (λ e. none (idle_is b c e))

low_second : (c : ℕ) → is_idle 0 c ≡ false → 128 ≤ c
low_second c e = elim (cases_lt c 128) [ inl lt ↦ absurd (true≢false (sym (rw (lt-ltb c 128 lt) refl) ∙ e)) | inr le ↦ le ]

high_second : (c : ℕ) → is_idle 255 c ≡ false → c < 128
high_second c e = elim (cases_lt c 128) [ inl lt ↦ lt | inr le ↦ absurd (true≢false (sym (rw (le-ltb c 128 le) refl) ∙ e)) ]

pub most_zero : (b : ℕ) → b ≡ 0 → most b ≡ 7
most_zero b e = rw e refl

pub most_more : (b : ℕ) → 0 < b → most b ≡ 6
most_more b lt = rw (nonzero b lt) refl

-- ---- both directions

low_there : (b c r n : ℕ) → b < 128 → c < 256 → Leads b c r n → IsShortest (pos n) (suc (suc r)) → (is_idle b c ≡ false) × (r ≤ most b)
low_there b c r n low byte lead h = (
  not_idle b c idle,
  elim (cases_eq b 0) [
    | inl none ↦ omega (arith, h.few, most_zero b none)
    | inr some ↦ elim (cases_lt r 7) [
      | inl small ↦ omega (arith, small, most_more b (omega (arith, some)))
      | inr large ↦ absurd (omega (arith, h.range, lead.above, power_small 7 r large, more 256 (omega (arith, some))))
    ]
  ],
)
  where
    more : (x : ℕ) → x ≤ 256 * b + c → x * 256 ^ r ≤ (256 * b + c) * 256 ^ r
    more x le = mul-le-mul_right (256 ^ r) le

    least : 128 * 256 ^ r ≤ n
    least = elim (cases_lt n (128 * 256 ^ r)) [ inl lt ↦ absurd (h.shortest (suc r) (omega arith) lt) | inr le ↦ le ]

    idle : ((b ≡ 0) × (c < 128)) ⊎ ((b ≡ 255) × (128 ≤ c)) → ⊥
    idle (inl p) =
        let few : (256 * b + c + 1) * 256 ^ r ≤ 128 * 256 ^ r = mul-le-mul_right (256 ^ r) (omega (arith, p.0, p.1)) in
        omega (arith, few, least, lead.below)
    idle (inr p) = omega (arith, low, p.0)

low_back : (b c r n : ℕ) → b < 128 → c < 256 → Leads b c r n → is_idle b c ≡ false → r ≤ most b → IsShortest (pos n) (suc (suc r))
low_back b c r n low byte lead idle few = shortest_low r n short range least top
  where
    first : 128 ≤ 256 * b + c
    first = elim (cases_eq b 0) [
      | inl none ↦ omega (arith, low_second c (subst (λ (x : ℕ). is_idle x c ≡ false) none idle))
      | inr some ↦ omega (arith, some)
    ]

    least : 128 * 256 ^ r ≤ n
    least =
        let some : 128 * 256 ^ r ≤ (256 * b + c) * 256 ^ r = mul-le-mul_right (256 ^ r) first in
        omega (arith, some, lead.above)

    top : n < 32768 * 256 ^ r
    top =
        let some : (256 * b + c + 1) * 256 ^ r ≤ 32768 * 256 ^ r = mul-le-mul_right (256 ^ r) (omega (arith, low, byte)) in
        omega (arith, some, lead.below)

    short : r ≤ 7
    short = elim (cases_eq b 0) [ inl none ↦ omega (arith, few, most_zero b none) | inr some ↦ omega (arith, few, most_more b (omega (arith, some))) ]

    range : n < 2 ^ 64
    range = elim (cases_eq b 0) [
      | inl none ↦
          let some : (256 * b + c + 1) * 256 ^ r ≤ 256 * 256 ^ r = mul-le-mul_right (256 ^ r) (omega (arith, none, byte)) in
          omega (arith, some, lead.below, power_small r 7 short)
      | inr some ↦ omega (arith, top, power_small r 6 (omega (arith, few, most_more b (omega (arith, some)))))
    ]

-- the steps from -1
record Below (b c r n : ℕ) : Type 0 where
  high : 32768 * 256 ^ r ≤ n
  inside : n < 65536 * 256 ^ r

below_zero : (b c r n : ℕ) → 128 ≤ b → b < 256 → c < 256 → Leads b c r n → Below b c r n
below_zero b c r n large all byte lead =
    let least : 32768 * 256 ^ r ≤ (256 * b + c) * 256 ^ r = mul-le-mul_right (256 ^ r) (omega (arith, large)) in
    let top : (256 * b + c + 1) * 256 ^ r ≤ 65536 * 256 ^ r = mul-le-mul_right (256 ^ r) (omega (arith, all, byte)) in
    record {
      high = omega (arith, least, lead.above);
      inside = omega (arith, top, lead.below);
    }

high_there : (b c r n : ℕ) → 128 ≤ b → b < 256 → c < 256 → Leads b c r n → IsShortest (negsuc (65536 * 256 ^ r - suc n)) (suc (suc r)) → (is_idle b c ≡ false) × (r ≤ most b)
high_there b c r n large all byte lead h = (
  not_idle b c idle,
  elim (cases_lt r 7) [
    | inl small ↦ omega (arith, small, most_more b (omega (arith, large)))
    | inr wide ↦ absurd (omega (arith, h.range, least, power_small 7 r wide))
  ],
)
  where
    least : 128 * 256 ^ r ≤ 65536 * 256 ^ r - suc n
    least = elim (cases_lt (65536 * 256 ^ r - suc n) (128 * 256 ^ r)) [ inl lt ↦ absurd (h.shortest (suc r) (omega arith) lt) | inr le ↦ le ]

    idle : ((b ≡ 0) × (c < 128)) ⊎ ((b ≡ 255) × (128 ≤ c)) → ⊥
    idle (inl p) = omega (arith, large, p.0)
    idle (inr p) =
        let many : 65408 * 256 ^ r ≤ (256 * b + c) * 256 ^ r = mul-le-mul_right (256 ^ r) (omega (arith, p.0, p.1)) in
        omega (arith, many, least, lead.above, power_some r)

high_back : (b c r n : ℕ) → 128 ≤ b → b < 256 → c < 256 → Leads b c r n → is_idle b c ≡ false → r ≤ most b → IsShortest (negsuc (65536 * 256 ^ r - suc n)) (suc (suc r))
high_back b c r n large all byte lead idle few = shortest_high r (65536 * 256 ^ r - suc n) (omega (arith, short)) range least top
  where
    bounds : Below b c r n
    bounds = below_zero b c r n large all byte lead

    first : 256 * b + c + 1 ≤ 65408
    first = elim (cases_eq b 255) [
      | inl last ↦ omega (arith, last, high_second c (subst (λ (x : ℕ). is_idle x c ≡ false) last idle))
      | inr other ↦ omega (arith, other, all, byte)
    ]

    least : 128 * 256 ^ r ≤ 65536 * 256 ^ r - suc n
    least =
        let some : (256 * b + c + 1) * 256 ^ r ≤ 65408 * 256 ^ r = mul-le-mul_right (256 ^ r) first in
        omega (arith, some, lead.below, bounds.inside)

    top : 65536 * 256 ^ r - suc n < 32768 * 256 ^ r
    top = omega (arith, bounds.high, bounds.inside)

    short : r ≤ 6
    short = omega (arith, few, most_more b (omega (arith, large)))

    range : 65536 * 256 ^ r - suc n < 2 ^ 63
    range = omega (arith, top, power_small r 6 short)

low_first : (b c r n : ℕ) → b < 128 → c < 256 → Leads b c r n → n < 32768 * 256 ^ r
low_first b c r n low byte lead =
    let some : (256 * b + c + 1) * 256 ^ r ≤ 32768 * 256 ^ r = mul-le-mul_right (256 ^ r) (omega (arith, low, byte)) in
    omega (arith, some, lead.below)

-- one byte alone
one_there : (b : ℕ) → b < 256 → IsShortest (integer_of (b ∷ [])) 1 → 0 < b
one_there zero all h = absurd (h.shortest 0 (omega arith) refl)
one_there (suc b) all h = omega arith

one_back : (b : ℕ) → b < 256 → 0 < b → IsShortest (integer_of (b ∷ [])) 1
one_back b all some =
    elim (cases_lt b 128) [
      | inl low ↦ subst (λ (i : ℤ). IsShortest i 1) (sym (low_signed low)) (record { few = omega arith; range = omega (arith, low); holds = omega (arith, low); shortest = fewest_low })
      | inr high ↦ subst (λ (i : ℤ). IsShortest i 1) (sym (high_signed high)) (record { few = omega arith; range = omega (arith, high); holds = omega (arith, high, all); shortest = fewest_high })
    ]
  where
    alone : 256 * 0 + b ≡ b
    alone = omega arith

    low_signed : b < 128 → integer_of (b ∷ []) ≡ pos b
    low_signed low = ap (signed 256) alone ∙ rw (lt-ltb (2 * b) 256 (omega (arith, low))) refl

    high_signed : 128 ≤ b → integer_of (b ∷ []) ≡ negsuc (256 - suc b)
    high_signed high = ap (signed 256) alone ∙ rw (le-ltb (2 * b) 256 (omega (arith, high))) refl

    fewest_low : (fewer : ℕ) → fewer < 1 → IsWithin fewer (pos b) → ⊥
    fewest_low zero lt h = omega (arith, some, pos_zero b h)
    fewest_low (suc fewer) lt h = omega (arith, lt)

    fewest_high : (fewer : ℕ) → fewer < 1 → IsWithin fewer (negsuc (256 - suc b)) → ⊥
    fewest_high zero lt h = absurd cc
    fewest_high (suc fewer) lt h = omega (arith, lt)

pub integers_there : (body : List ℕ) → AreBytes body → IsRead (integer_at body) → Integers body
integers_there [] all h = tt
integers_there (b ∷ []) all h = one_there b all.0 (read_only (b ∷ []) h)
integers_there (b ∷ c ∷ rest) all h =
    let lead = leads b c rest all.1.1 in
    let n = number_after 0 (b ∷ c ∷ rest) in
    let r = length rest in
    let is = read_only (b ∷ c ∷ rest) h in
    elim (cases_lt b 128) [
      | inl low ↦ low_there b c r n low all.1.0 lead (subst (λ (i : ℤ). IsShortest i (suc (suc r))) (low_is r n (low_first b c r n low all.1.0 lead)) is)
      | inr high ↦
          let bounds = below_zero b c r n high all.0 all.1.0 lead in
          high_there b c r n high all.0 all.1.0 lead (subst (λ (i : ℤ). IsShortest i (suc (suc r))) (high_is r n bounds.high) is)
    ]

pub integers_back : (body : List ℕ) → AreBytes body → Integers body → IsRead (integer_at body)
integers_back [] all h = read_when [] (record { few = omega arith; range = omega arith; holds = refl; shortest = λ fewer lt k. omega (arith, lt) })
integers_back (b ∷ []) all h = read_when (b ∷ []) (one_back b all.0 h)
integers_back (b ∷ c ∷ rest) all h =
    let lead = leads b c rest all.1.1 in
    let n = number_after 0 (b ∷ c ∷ rest) in
    let r = length rest in
    elim (cases_lt b 128) [
      | inl low ↦
          read_when (b ∷ c ∷ rest)
          (subst (λ (i : ℤ). IsShortest i (suc (suc r))) (sym (low_is r n (low_first b c r n low all.1.0 lead))) (low_back b c r n low all.1.0 lead h.0 h.1))
      | inr high ↦
          let bounds = below_zero b c r n high all.0 all.1.0 lead in
          read_when (b ∷ c ∷ rest)
          (subst (λ (i : ℤ). IsShortest i (suc (suc r))) (sym (high_is r n bounds.high)) (high_back b c r n high all.0 all.1.0 lead h.0 h.1))
    ]
