-- A text and its zero byte, byte by byte: the bytes that are to come after a character's first one.
use Rattle.std.proofs.Common.{◌≡◌, ℕ, suc, ◌+◌, ◌/◌, ◌%◌, ◌<◌, ◌≤◌, ◌⊎◌, inl, inr, true, false, cond, eqb, ltb, ◌||◌, List, [], ◌∷◌, ◌++◌, Some, None, refl, sym, ap, subst, ◌∙◌, arith}
use Rattle.std.proofs.Math.Dec.{eqb-suc-zero}
use Rattle.std.proofs.lemmas.Bool.{cases_lt, cases_eq, lt-ltb, le-ltb, ltb-false, ne_eqb, true≢false, or_parts}
use Rattle.std.proofs.Math.Utf8.{scalar, encode, scalar_cases}
use Rattle.argdata_codec.specs.Places.{Tail, tail_of, begins_in, text_step, is_end}
use Rattle.lists.proofs.Chosen.{chosen, none_some, some_is}
use Rattle.argdata_codec.proofs.Outcomes.{nonzero}

-- the rest of a text and its zero byte, where a tail is to come first
abbrev pub Texts : Tail → List ℕ → Type 0
Texts tail [] = ⊥
Texts tail (b ∷ bs) = ((is_end tail b ≡ true) × (bs ≡ [])) ⊎ ((is_end tail b ≡ false) × ((next : Tail) × (text_step tail None b ≡ Some next) × Texts next bs))

-- ---- the first bytes of characters

pub low_three : ℕ → ℕ
low_three b = cond (eqb b 0xe0) 0xa0 0x80

pub high_three : ℕ → ℕ
high_three b = cond (eqb b 0xed) 0x9f 0xbf

pub low_four : ℕ → ℕ
low_four b = cond (eqb b 0xf0) 0x90 0x80

pub high_four : ℕ → ℕ
high_four b = cond (eqb b 0xf4) 0x8f 0xbf

pub lead_one : (b : ℕ) → b < 0x80 → tail_of b ≡ Some (0, (0, 0))
lead_one b lt = rw (lt-ltb b 0x80 lt) refl

pub lead_inner : (b : ℕ) → 0x80 ≤ b → b < 0xc2 → tail_of b ≡ None
lead_inner b le lt = rw (le-ltb b 0x80 le, lt-ltb b 0xc2 lt) refl

pub lead_two : (b : ℕ) → 0xc2 ≤ b → b < 0xe0 → tail_of b ≡ Some (1, (0x80, 0xbf))
lead_two b le lt = rw (le-ltb b 0x80 (omega (arith, le)), le-ltb b 0xc2 le, lt-ltb b 0xe0 lt) refl

pub lead_three : (b : ℕ) → 0xe0 ≤ b → b < 0xf0 → tail_of b ≡ Some (2, (low_three b, high_three b))
unfolding low_three high_three
lead_three b le lt =
    elim (cases_eq b 0xe0) [
      | inl first ↦ rw first refl
      | inr one ↦ elim (cases_eq b 0xed) [
        | inl second ↦ rw second refl
        | inr other ↦
            rw (le-ltb b 0x80 (omega (arith, le)), le-ltb b 0xc2 (omega (arith, le)), le-ltb b 0xe0 le, ne_eqb b 0xe0 one, ne_eqb b 0xed other, lt-ltb b 0xf0 lt) refl
      ]
    ]

pub lead_four : (b : ℕ) → 0xf0 ≤ b → b < 0xf5 → tail_of b ≡ Some (3, (low_four b, high_four b))
unfolding low_four high_four
lead_four b le lt =
    elim (cases_eq b 0xf0) [
      | inl first ↦ rw first refl
      | inr one ↦ elim (cases_eq b 0xf4) [
        | inl last ↦ rw last refl
        | inr other ↦
            rw (
              le-ltb b 0x80 (omega (arith, le)),
              le-ltb b 0xc2 (omega (arith, le)),
              le-ltb b 0xe0 (omega (arith, le)),
              ne_eqb b 0xe0 (λ e. omega (arith, e, le)),
              ne_eqb b 0xed (λ e. omega (arith, e, le)),
              le-ltb b 0xf0 le,
              ne_eqb b 0xf0 one,
              ne_eqb b 0xf4 other,
              lt-ltb b 0xf4 (omega (arith, lt, other)),
            ) refl
      ]
    ]

pub lead_none : (b : ℕ) → 0xf5 ≤ b → tail_of b ≡ None
lead_none b le =
    rw (
      le-ltb b 0x80 (omega (arith, le)),
      le-ltb b 0xc2 (omega (arith, le)),
      le-ltb b 0xe0 (omega (arith, le)),
      ne_eqb b 0xe0 (λ e. omega (arith, e, le)),
      ne_eqb b 0xed (λ e. omega (arith, e, le)),
      le-ltb b 0xf0 (omega (arith, le)),
      ne_eqb b 0xf0 (λ e. omega (arith, e, le)),
      le-ltb b 0xf4 (omega (arith, le)),
      ne_eqb b 0xf4 (λ e. omega (arith, e, le)),
    ) refl

-- what the bounds say
pub record ThreeBounds (b : ℕ) : Type 0 where
  pub first : b ≡ 0xe0 → low_three b ≡ 0xa0
  pub others : (b ≡ 0xe0 → ⊥) → low_three b ≡ 0x80
  pub last : b ≡ 0xed → high_three b ≡ 0x9f
  pub rest : (b ≡ 0xed → ⊥) → high_three b ≡ 0xbf

pub three_bounds : (b : ℕ) → ThreeBounds b
unfolding low_three high_three
three_bounds b = record {
  first = λ e. rw e refl;
  others = λ ne. rw (ne_eqb b 0xe0 ne) refl;
  last = λ e. rw e refl;
  rest = λ ne. rw (ne_eqb b 0xed ne) refl;
}

pub record FourBounds (b : ℕ) : Type 0 where
  pub first : b ≡ 0xf0 → low_four b ≡ 0x90
  pub others : (b ≡ 0xf0 → ⊥) → low_four b ≡ 0x80
  pub last : b ≡ 0xf4 → high_four b ≡ 0x8f
  pub rest : (b ≡ 0xf4 → ⊥) → high_four b ≡ 0xbf

pub four_bounds : (b : ℕ) → FourBounds b
unfolding low_four high_four
four_bounds b = record {
  first = λ e. rw e refl;
  others = λ ne. rw (ne_eqb b 0xf0 ne) refl;
  last = λ e. rw e refl;
  rest = λ ne. rw (ne_eqb b 0xf4 ne) refl;
}

-- ---- the bytes behind the first

-- one that is in the bounds
inner_step : (more low high x : ℕ) → low ≤ x → x ≤ high → text_step (suc more, (low, high)) None x ≡ Some (more, (0x80, 0xbf))
inner_step more low high x ge le = rw (le-ltb x low ge, le-ltb high x le) refl

pub inner_text : (more low high x : ℕ) (xs : List ℕ) → low ≤ x → x ≤ high → Texts (more, (0x80, 0xbf)) xs → Texts (suc more, (low, high)) (x ∷ xs)
inner_text more low high x xs ge le h = inr (rw (eqb-suc-zero more) refl, ((more, (0x80, 0xbf)), inner_step more low high x ge le, h))

-- one that a tail has
pub record Inner (more low high : ℕ) (bytes : List ℕ) : Type 0 where
  pub byte : ℕ
  pub rest : List ℕ
  pub whole : bytes ≡ byte ∷ rest
  pub least : low ≤ byte
  pub most : byte ≤ high
  pub texts : Texts (more, (0x80, 0xbf)) rest

pub inner_of : (more low high : ℕ) (bytes : List ℕ) → Texts (suc more, (low, high)) bytes → Inner more low high bytes
inner_of more low high [] h = absurd h
inner_of more low high (x ∷ xs) (inl h) = absurd (true≢false (sym h.0 ∙ rw (eqb-suc-zero more) refl))
inner_of more low high (x ∷ xs) (inr h) =
    let next = h.1.0 in
    let is : cond (ltb x low || ltb high x) None (Some (more, (0x80, 0xbf))) ≡ Some next = h.1.1 in
    elim (chosen (ltb x low || ltb high x) _ _ _ is) [
      | inl p ↦ absurd (none_some next p.1)
      | inr p ↦
          let tests = or_parts (ltb x low) (ltb high x) p.0 in
          record {
            byte = x;
            rest = xs;
            whole = refl;
            least = ltb-false x low tests.0;
            most = ltb-false high x tests.1;
            texts = subst (λ (t : Tail). Texts t xs) (sym (some_is (more, (0x80, 0xbf)) next p.1)) h.1.2;
          }
    ]

-- a first byte
first_text : (b : ℕ) (bounds : ℕ × ℕ) (next : Tail) (bs : List ℕ) → 0 < b → tail_of b ≡ Some next → Texts next bs → Texts (0, bounds) (b ∷ bs)
first_text b bounds next bs lt is h = inr (nonzero b lt, (next, ap (begins_in None) is, h))

-- ---- characters

-- what may stand behind a character
abbrev pub Anywhere : List ℕ → Type 0
Anywhere bytes = (bounds : ℕ × ℕ) → Texts (0, bounds) bytes

pub char_text : (c : ℕ) → scalar c ≡ true → 0 < c → (rest : List ℕ) → Anywhere rest → Anywhere (encode c ++ rest)
unfolding encode
char_text c ok some rest h bounds =
    elim (cases_lt c 128) [
      | inl one ↦ rw (lt-ltb c 128 one) (first_text c bounds (0, (0, 0)) rest some (lead_one c one) (h (0, 0)))
      | inr more ↦ elim (cases_lt c 2048) [
        | inl two ↦
            let b = 192 + c / 64 in
            rw (le-ltb c 128 more, lt-ltb c 2048 two)
            (first_text b bounds (1, (0x80, 0xbf)) ((128 + c % 64) ∷ rest) (omega arith) (lead_two b (omega (arith, more)) (omega (arith, two)))
            (inner_text 0 0x80 0xbf (128 + c % 64) rest (omega arith) (omega arith) (h (0x80, 0xbf))))
        | inr many ↦ elim (cases_lt c 65536) [
          | inl three ↦
              let b = 224 + c / 4096 in
              let x = 128 + (c / 64) % 64 in
              let bounded = three_bounds b in
              let low : low_three b ≤ x = elim (cases_eq b 0xe0) [ inl e ↦ omega (arith, e, bounded.first e, many, three) | inr ne ↦ omega (arith, bounded.others ne) ] in
              let high : x ≤ high_three b = elim (cases_eq b 0xed) [
                | inl e ↦ elim (scalar_cases c ok) [ inl lower ↦ omega (arith, e, bounded.last e, lower) | inr upper ↦ omega (arith, e, upper.0) ]
                | inr ne ↦ omega (arith, bounded.rest ne)
              ] in
              rw (le-ltb c 128 more, le-ltb c 2048 many, lt-ltb c 65536 three)
              (first_text b bounds (2, (low_three b, high_three b)) (x ∷ (128 + c % 64) ∷ rest) (omega arith) (lead_three b (omega arith) (omega (arith, three)))
              (inner_text 1 (low_three b) (high_three b) x ((128 + c % 64) ∷ rest) low high
              (inner_text 0 0x80 0xbf (128 + c % 64) rest (omega arith) (omega arith) (h (0x80, 0xbf)))))
          | inr four ↦
              let b = 240 + c / 262144 in
              let x = 128 + (c / 4096) % 64 in
              let y = 128 + (c / 64) % 64 in
              let z = 128 + c % 64 in
              let top : c < 1114112 = elim (scalar_cases c ok) [ inl lower ↦ omega (arith, lower) | inr upper ↦ upper.1 ] in
              let bounded = four_bounds b in
              let low : low_four b ≤ x = elim (cases_eq b 0xf0) [ inl e ↦ omega (arith, e, bounded.first e, four) | inr ne ↦ omega (arith, bounded.others ne) ] in
              let high : x ≤ high_four b = elim (cases_eq b 0xf4) [ inl e ↦ omega (arith, e, bounded.last e, top) | inr ne ↦ omega (arith, bounded.rest ne) ] in
              rw (le-ltb c 128 more, le-ltb c 2048 many, le-ltb c 65536 four)
              (first_text b bounds (3, (low_four b, high_four b)) (x ∷ y ∷ z ∷ rest) (omega arith) (lead_four b (omega arith) (omega (arith, top)))
              (inner_text 2 (low_four b) (high_four b) x (y ∷ z ∷ rest) low high
              (inner_text 1 0x80 0xbf y (z ∷ rest) (omega arith) (omega arith)
              (inner_text 0 0x80 0xbf z rest (omega arith) (omega arith) (h (0x80, 0xbf))))))
        ]
      ]
    ]
