-- How far integers go on.
use Rattle.std.proofs.Common.{◌≡◌, ℕ, zero, suc, ◌-◌, ◌<◌, ◌≤◌, ◌⊎◌, inl, inr, min, Bool, true, false, not, cond, eqb, ◌&&◌, ◌||◌, List, [], ◌∷◌, ◌++◌, length, Option, Some, None, refl, sym, subst, subst₂, ◌∙◌, arith, length-append}
use Rattle.std.proofs.Math.Dec.{eqb-suc-zero}
use Rattle.std.proofs.lemmas.Bool.{cases_eq, cases_Bool, eqb-true, true≢false, and_parts, not-true}
use Rattle.argdata_codec.specs.Reading.{integer_at}
use Rattle.argdata_codec.specs.Places.{at_most, second_place, integer_place}
use Rattle.argdata_codec.proofs.Fields.{AreBytes}
use Rattle.argdata_codec.proofs.Begins.{Begins, Longest, FitsIn, Sized, IsRead, zeros, length_zeros, bytes_zeros, at_end, stops, goes_on, at_most_of, alike}
use Rattle.argdata_codec.proofs.Outcomes.{or_cases, nonzero, positive, few, many}
use Rattle.argdata_codec.proofs.IntegerBytes.{is_idle, most, most_zero, most_more, Integers, integers_there, integers_back}

-- the second byte that may follow a first one
abbrev next_to : ℕ → ℕ
next_to b = cond (eqb b 0) 128 0

next_byte : (b : ℕ) → next_to b < 256
next_byte zero = omega arith
next_byte (suc b) = rw (eqb-suc-zero b) (omega arith)

next_needed : (b : ℕ) → is_idle b (next_to b) ≡ false
next_needed zero = refl
next_needed (suc b) = rw (eqb-suc-zero b) (last (eqb (suc b) 255))
  where
    last : (t : Bool) → (t && false) ≡ false
    last true = refl
    last false = refl

-- a first byte and a length that go together
abbrev Suits : Option ℕ → ℕ → Type 0
Suits None b = Unit {0}
Suits (Some room) b = (0 < room) × (room ≡ 1 → 0 < b) × (room ≤ suc (suc (most b)))

-- what the first byte may be followed by
abbrev Second : Option ℕ → ℕ → List ℕ → Type 0
Second room b rest = Sized Integers room (b ∷ rest)

-- and the second
abbrev Third : Option ℕ → ℕ → ℕ → List ℕ → Type 0
Third room b c rest = Sized Integers room (b ∷ c ∷ rest)

second_begins : (room : Option ℕ) (b : ℕ) → Suits room b → Begins (Second room b) []
second_begins None b h = (next_to b ∷ [], (next_byte b, tt), ((next_needed b, omega arith), tt))
second_begins (Some zero) b h = absurd (omega (arith, h.0))
second_begins (Some (suc zero)) b h = ([], tt, (h.1 refl, refl))
second_begins (Some (suc (suc room))) b h =
    let len : length (zeros room) ≡ room = length_zeros room in
    (next_to b ∷ zeros room, (next_byte b, bytes_zeros room), ((next_needed b, omega (arith, len, h.2)), omega (arith, len)))

third_longest : (room : Option ℕ) (b c : ℕ) (cs : List ℕ) → AreBytes cs → FitsIn room (b ∷ c ∷ cs) → Suits room b → is_idle b c ≡ false → Longest (Third room b c) cs (min (most b) (length cs))
third_longest None b c cs all fits suits needed =
    at_most_of (Third None b c) (most b) cs all (λ p h. h.0.1) (λ p q le. ([], tt, ((needed, omega (arith, le, length-append p [])), tt)))
third_longest (Some room) b c cs all fits suits needed =
    let left = room - 2 in
    let same : min left (length cs) ≡ min (most b) (length cs) = omega (arith, fits, suits.2) in
    subst (Longest (Third (Some room) b c) cs) same
    (at_most_of (Third (Some room) b c) left cs all (λ p h. omega (arith, h.1)) (λ p q le.
    let more = left - length p in
    let len : length (p ++ zeros more) ≡ left = omega (arith, length-append p (zeros more), length_zeros more, le) in
    (zeros more, bytes_zeros more, ((needed, omega (arith, len, suits.2)), omega (arith, len, fits)))))

second_longest : (room : Option ℕ) (b : ℕ) (bs : List ℕ) → AreBytes bs → FitsIn room (b ∷ bs) → Suits room b → Longest (Second room b) bs (second_place b bs)
second_longest room b [] all fits suits = at_end (Second room b) (second_begins room b suits)
second_longest room b (c ∷ cs) all fits suits =
    elim (cases_Bool (is_idle b c)) [
      | inl idle ↦ rw idle (stops (Second room b) c cs (second_begins room b suits) all.1 (λ rest q h. true≢false (sym idle ∙ h.0.0)))
      | inr needed ↦
          rw needed
          (goes_on (Second room b) (Third room b c) c cs (min (most b) (length cs)) all.1 (λ rest q h. h) (λ rest q h. h) (third_longest room b c cs all.1 fits suits needed))
    ]

integers_begin : (room : Option ℕ) → at_most 9 room ≡ true → Begins (Sized Integers room) []
integers_begin None e = ([], tt, (tt, tt))
integers_begin (Some zero) e = ([], tt, (tt, refl))
integers_begin (Some (suc zero)) e = (1 ∷ [], (omega arith, tt), (omega arith, refl))
integers_begin (Some (suc (suc room))) e =
    let len : length (zeros room) ≡ room = length_zeros room in
    (0 ∷ 128 ∷ zeros room, (omega arith, (omega arith, bytes_zeros room)), ((refl, omega (arith, len, few 9 (suc (suc room)) e)), omega (arith, len)))

-- a first byte that doesn't go with the length
abbrev is_bad : ℕ → ℕ → Bool
is_bad room b = (eqb room 1 && eqb b 0) || (eqb room 9 && not (eqb b 0))

bad_is : (room b : ℕ) → is_bad room b ≡ true → ((room ≡ 1) × (b ≡ 0)) ⊎ ((room ≡ 9) × (0 < b))
bad_is room b e =
    elim (or_cases (eqb room 1 && eqb b 0) (eqb room 9 && not (eqb b 0)) e) [
      | inl h ↦ let p = and_parts (eqb room 1) (eqb b 0) h in inl (eqb-true room 1 p.0, eqb-true b 0 p.1)
      | inr h ↦ let p = and_parts (eqb room 9) (not (eqb b 0)) h in inr (eqb-true room 9 p.0, positive b (not-true (eqb b 0) p.1))
    ]

bad_nine : (b : ℕ) → 0 < b → is_bad 9 b ≡ true
bad_nine b lt = rw (nonzero b lt) refl

bad_none : (room b : ℕ) (rest : List ℕ) → ((room ≡ 1) × (b ≡ 0)) ⊎ ((room ≡ 9) × (0 < b)) → Sized Integers (Some room) (b ∷ rest) → ⊥
bad_none room b [] (inl p) h = omega (arith, h.0, p.1)
bad_none room b (c ∷ rest) (inl p) h = omega (arith, h.1, p.0)
bad_none room b [] (inr p) h = omega (arith, h.1, p.0)
bad_none room b (c ∷ rest) (inr p) h = omega (arith, h.0.1, h.1, p.0, most_more b p.1)

suits_if : (room b : ℕ) → 0 < room → room ≤ 9 → is_bad room b ≡ false → Suits (Some room) b
suits_if room b some small good = (
  some,
  λ one. elim (cases_eq b 0) [
    | inl none ↦ absurd (true≢false (subst₂ (λ (r x : ℕ). true ≡ is_bad r x) (sym one) (sym none) refl ∙ good))
    | inr other ↦ omega (arith, other)
  ],
  elim (cases_eq b 0) [
    | inl none ↦ omega (arith, most_zero b none, small)
    | inr other ↦ elim (cases_eq room 9) [
      | inl nine ↦ absurd (true≢false (sym (bad_nine b (omega (arith, other))) ∙ subst (λ (r : ℕ). is_bad r b ≡ false) nine good))
      | inr less ↦ omega (arith, less, small, most_more b (omega (arith, other)))
    ]
  ],
)

integers_longest : (room : Option ℕ) (body : List ℕ) → AreBytes body → FitsIn room body → at_most 9 room ≡ true → Longest (Sized Integers room) body (integer_place room body)
integers_longest room [] all fits small = at_end (Sized Integers room) (integers_begin room small)
integers_longest None (b ∷ bs) all fits small =
    goes_on (Sized Integers None) (Second None b) b bs (second_place b bs) all.1 (λ rest q h. h) (λ rest q h. h) (second_longest None b bs all.1 tt tt)
integers_longest (Some room) (b ∷ bs) all fits small =
    elim (cases_Bool (is_bad room b)) [
      | inl bad ↦ rw bad (stops (Sized Integers (Some room)) b bs (integers_begin (Some room) small) all.1 (λ rest q h. bad_none room b rest (bad_is room b bad) h))
      | inr good ↦
          let suits = suits_if room b (omega (arith, fits)) (few 9 room small) good in
          rw good
          (goes_on (Sized Integers (Some room)) (Second (Some room) b) b bs (second_place b bs) all.1 (λ rest q h. h) (λ rest q h. h) (second_longest (Some room) b bs all.1 fits suits))
    ]

pub integer_longest : (room : Option ℕ) (body : List ℕ) → AreBytes body → FitsIn room body → at_most 9 room ≡ true
    → Longest (Sized (λ bytes. IsRead (integer_at bytes)) room) body (integer_place room body)
integer_longest room body all fits small =
    alike (Sized (λ bytes. IsRead (integer_at bytes)) room) (Sized Integers room) body (integer_place room body) all
    (λ p q h. (integers_there p q h.0, h.1)) (λ p q h. (integers_back p q h.0, h.1)) (integers_longest room body all fits small)

-- ten bytes are too many
pub integer_short : (room : Option ℕ) (body : List ℕ) → AreBytes body → at_most 9 room ≡ false → Sized (λ bytes. IsRead (integer_at bytes)) room body → ⊥
integer_short None body all e h = true≢false e
integer_short (Some room) body all e h = omega (arith, h.1, many 9 room e, short body (integers_there body all h.0))
  where
    most_seven : (b : ℕ) → most b ≤ 7
    most_seven zero = omega arith
    most_seven (suc b) = omega (arith, most_more (suc b) (omega arith))

    short : (p : List ℕ) → Integers p → length p ≤ 9
    short [] k = omega arith
    short (b ∷ []) k = omega arith
    short (b ∷ c ∷ rest) k = omega (arith, k.1, most_seven b)
