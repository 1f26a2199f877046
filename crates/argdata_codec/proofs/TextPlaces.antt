-- How far texts go on.
use Rattle.std.proofs.Common.{◌≡◌, ℕ, zero, suc, ◌+◌, ◌-◌, ◌<◌, ◌≤◌, inl, inr, Bool, true, false, cond, ltb, ◌||◌, List, [], ◌∷◌, length, Option, Some, None, refl, sym, ap, subst, ◌∙◌, arith}
use Rattle.std.proofs.Math.Dec.{eqb-suc-zero}
use Rattle.std.proofs.lemmas.Bool.{cases_lt, cases_eq, cases_Bool, ltb-true, ltb-false, eqb-true, eq-eqb, true≢false}
use Rattle.argdata_codec.specs.Reading.{text_at}
use Rattle.argdata_codec.specs.Places.{Tail, tail_of, begins_in, text_step, is_end, text_place, room_after, exactly, more_than, one_more}
use Rattle.lists.proofs.Chosen.{chosen, none_some, some_is}
use Rattle.argdata_codec.proofs.Fields.{AreBytes}
use Rattle.argdata_codec.proofs.Begins.{Begins, Longest, HasLength, FitsIn, Sized, IsRead, rest_fits, rest_length, space_for, whole_length, at_end, stops, goes_on, alike}
use Rattle.argdata_codec.proofs.Outcomes.{cons_nil}
use Rattle.argdata_codec.proofs.TextBytes.{Texts, inner_text, lead_one, lead_inner, lead_two, lead_three, lead_four, lead_none, low_three, high_three, low_four, high_four, three_bounds, four_bounds}
use Rattle.argdata_codec.proofs.TextValues.{text_there, text_back}

-- ---- texts of each length

-- so many bytes of the letter a, and the zero byte
abbrev letters : ℕ → List ℕ
letters zero = 0 ∷ []
letters (suc n) = 97 ∷ letters n

length_letters : (n : ℕ) → length (letters n) ≡ suc n
length_letters zero = refl
length_letters (suc n) = ap suc (length_letters n)

bytes_letters : (n : ℕ) → AreBytes (letters n)
bytes_letters zero = (omega arith, tt)
bytes_letters (suc n) = (omega arith, bytes_letters n)

text_letters : (n : ℕ) (bounds : ℕ × ℕ) → Texts (0, bounds) (letters n)
text_letters zero bounds = inl (refl, refl)
text_letters (suc n) bounds = inr (refl, ((0, (0, 0)), refl, text_letters n (0, 0)))

-- bounds between which there is a byte
abbrev Sane : Tail → Type 0
Sane (zero, bounds) = Unit {0}
Sane (suc more, bounds) = (bounds.0 ≤ bounds.1) × (bounds.1 < 256)

-- a text of some length behind a tail
record Filled (tail : Tail) (n : ℕ) : Type 0 where
  bytes : List ℕ
  fits : AreBytes bytes
  texts : Texts tail bytes
  length : length bytes ≡ suc (tail.0 + n)

fill : (more n : ℕ) (bounds : ℕ × ℕ) → Sane (more, bounds) → Filled (more, bounds) n
fill zero n bounds sane = record {
  bytes = letters n;
  fits = bytes_letters n;
  texts = text_letters n bounds;
  length = omega (arith, length_letters n);
}
fill (suc more) n bounds sane =
    let r = fill more n (0x80, 0xbf) (inner more) in
    record {
      bytes = bounds.0 ∷ r.bytes;
      fits = (omega (arith, sane.0, sane.1), r.fits);
      texts = inner_text more bounds.0 bounds.1 bounds.0 r.bytes (omega arith) sane.0 r.texts;
      length = omega (arith, r.length);
    }
  where
    inner : (more : ℕ) → Sane (more, (0x80, 0xbf))
    inner zero = tt
    inner (suc more) = (omega arith, omega arith)

sane_three : (b : ℕ) → Sane (2, (low_three b, high_three b))
sane_three b =
    let bounds = three_bounds b in
    elim (cases_eq b 0xe0) [
      | inl e ↦ (omega (arith, bounds.first e, bounds.rest (λ other. omega (arith, e, other))), omega (arith, bounds.rest (λ other. omega (arith, e, other))))
      | inr ne ↦ elim (cases_eq b 0xed) [
        | inl e ↦ (omega (arith, bounds.others ne, bounds.last e), omega (arith, bounds.last e))
        | inr other ↦ (omega (arith, bounds.others ne, bounds.rest other), omega (arith, bounds.rest other))
      ]
    ]

sane_four : (b : ℕ) → Sane (3, (low_four b, high_four b))
sane_four b =
    let bounds = four_bounds b in
    elim (cases_eq b 0xf0) [
      | inl e ↦ (omega (arith, bounds.first e, bounds.rest (λ other. omega (arith, e, other))), omega (arith, bounds.rest (λ other. omega (arith, e, other))))
      | inr ne ↦ elim (cases_eq b 0xf4) [
        | inl e ↦ (omega (arith, bounds.others ne, bounds.last e), omega (arith, bounds.last e))
        | inr other ↦ (omega (arith, bounds.others ne, bounds.rest other), omega (arith, bounds.rest other))
      ]
    ]

led_sane : (b : ℕ) (is next : Tail) → Sane is → tail_of b ≡ Some is → tail_of b ≡ Some next → Sane next
led_sane b is next sane e h = subst Sane (some_is is next (sym e ∙ h)) sane

tail_sane : (b : ℕ) (next : Tail) → tail_of b ≡ Some next → Sane next
tail_sane b next h =
    elim (cases_lt b 0x80) [
      | inl one ↦ led_sane b (0, (0, 0)) next tt (lead_one b one) h
      | inr large ↦ elim (cases_lt b 0xc2) [
        | inl inner ↦ absurd (none_some next (sym (lead_inner b large inner) ∙ h))
        | inr larger ↦ elim (cases_lt b 0xe0) [
          | inl two ↦ led_sane b (1, (0x80, 0xbf)) next (omega arith, omega arith) (lead_two b larger two) h
          | inr high ↦ elim (cases_lt b 0xf0) [
            | inl three ↦ led_sane b (2, (low_three b, high_three b)) next (sane_three b) (lead_three b high three) h
            | inr higher ↦ elim (cases_lt b 0xf5) [
              | inl four ↦ led_sane b (3, (low_four b, high_four b)) next (sane_four b) (lead_four b higher four) h
              | inr none ↦ absurd (none_some next (sym (lead_none b none) ∙ h))
            ]
          ]
        ]
      ]
    ]

filled_in : (next : Tail) (room : Option ℕ) → Sane next → more_than (next.0 + 1) room ≡ true → Begins (Sized (Texts next) (room_after room 1)) []
filled_in next None sane e = let p = fill next.0 0 next.1 sane in (p.bytes, p.fits, (p.texts, tt))
filled_in next (Some room) sane e =
    let lt = ltb-true (next.0 + 1) room e in
    let p = fill next.0 (room - 2 - next.0) next.1 sane in
    (p.bytes, p.fits, (p.texts, omega (arith, lt, p.length)))

-- ---- what texts need

-- what a byte behind the first of a character leads to
inner_next : (more : ℕ) (bounds : ℕ × ℕ) (room : Option ℕ) (b : ℕ) (next : Tail) → text_step (suc more, bounds) room b ≡ Some next → (more, (0x80, 0xbf)) ≡ next
inner_next more bounds room b next e =
    elim (chosen (ltb b bounds.0 || ltb bounds.1 b) _ _ _ e) [
      | inl p ↦ absurd (none_some next p.1)
      | inr p ↦ some_is (more, (0x80, 0xbf)) next p.1
    ]

texts_need : (tail : Tail) (bytes : List ℕ) → Texts tail bytes → suc tail.0 ≤ length bytes
texts_need tail [] h = absurd h
texts_need (zero, bounds) (b ∷ bs) h = omega arith
texts_need (suc more, bounds) (b ∷ bs) (inl h) = absurd (true≢false (sym h.0 ∙ rw (eqb-suc-zero more) refl))
texts_need (suc more, bounds) (b ∷ bs) (inr h) =
    let same : more ≡ h.1.0.0 = ap (λ (t : Tail). t.0) (inner_next more bounds None b h.1.0 h.1.1) in
    omega (arith, same, texts_need h.1.0 bs h.1.2)

-- ---- the steps

-- what the next byte does, where it isn't the end: the next tail, or none
abbrev Leads : Tail → Option ℕ → ℕ → Option Tail → Type 0
Leads tail room b None = (rest : List ℕ) → Sized (Texts tail) room (b ∷ rest) → ⊥
Leads tail room b (Some next) = (text_step tail None b ≡ Some next) × Begins (Sized (Texts next) (room_after room 1)) []

first_leads : (bounds : ℕ × ℕ) (room : Option ℕ) (b : ℕ) → is_end (0, bounds) b ≡ false → (next : Option Tail) → tail_of b ≡ next → Leads (0, bounds) room b (begins_in room next)
first_leads bounds room b other None is = none
  where
    none : (rest : List ℕ) → Sized (Texts (0, bounds)) room (b ∷ rest) → ⊥
    none rest ((inl h), size) = true≢false (sym h.0 ∙ other)
    none rest ((inr h), size) = none_some h.1.0 (sym (ap (begins_in None) is) ∙ h.1.1)
first_leads bounds room b other (Some next) is =
    elim (cases_Bool (more_than (next.0 + 1) room)) [
      | inl enough ↦ rw enough (ap (begins_in None) is, filled_in next room (tail_sane b next is) enough)
      | inr less ↦ rw less (λ rest h. none rest less h.0 h.1)
    ]
  where
    small : (bytes : List ℕ) (room : Option ℕ) → HasLength room bytes → more_than (next.0 + 1) room ≡ false → length bytes ≤ next.0 + 1
    small bytes None size less = absurd (true≢false less)
    small bytes (Some room) size less = omega (arith, size, ltb-false (next.0 + 1) room less)

    none : (rest : List ℕ) → more_than (next.0 + 1) room ≡ false → Texts (0, bounds) (b ∷ rest) → HasLength room (b ∷ rest) → ⊥
    none rest less (inl h) size = true≢false (sym h.0 ∙ other)
    none rest less (inr h) size =
        let same : next ≡ h.1.0 = some_is next h.1.0 (sym (ap (begins_in None) is) ∙ h.1.1) in
        omega (arith, small (b ∷ rest) room size less, texts_need h.1.0 rest h.1.2, ap (λ (t : Tail). t.0) same)

-- behind the first byte of a character the room is no question
inner_begins : (more : ℕ) (bounds : ℕ × ℕ) (room : Option ℕ) → Begins (Sized (Texts (suc more, bounds)) room) [] → Begins (Sized (Texts (more, (0x80, 0xbf))) (room_after room 1)) []
inner_begins more bounds room ([], fits, h) = absurd h.0
inner_begins more bounds room (c ∷ cs, fits, ((inl h), size)) = absurd (true≢false (sym h.0 ∙ rw (eqb-suc-zero more) refl))
inner_begins more bounds room (c ∷ cs, fits, ((inr h), size)) =
    (cs, fits.1, (subst (λ (t : Tail). Texts t cs) (sym (inner_next more bounds None c h.1.0 h.1.1)) h.1.2, rest_length room c cs size))

inner_leads : (more : ℕ) (bounds : ℕ × ℕ) (room : Option ℕ) (b : ℕ) → Begins (Sized (Texts (suc more, bounds)) room) [] → (t : Bool) → (ltb b bounds.0 || ltb bounds.1 b) ≡ t
    → Leads (suc more, bounds) room b (cond t None (Some (more, (0x80, 0xbf))))
inner_leads more bounds room b begins false is = (rw is refl, inner_begins more bounds room begins)
inner_leads more bounds room b begins true is = none
  where
    none : (rest : List ℕ) → Sized (Texts (suc more, bounds)) room (b ∷ rest) → ⊥
    none rest ((inl h), size) = true≢false (sym h.0 ∙ rw (eqb-suc-zero more) refl)
    none rest ((inr h), size) = none_some h.1.0 (sym (rw is refl) ∙ h.1.1)

leads : (tail : Tail) (room : Option ℕ) (b : ℕ) → is_end tail b ≡ false → Begins (Sized (Texts tail) room) [] → Leads tail room b (text_step tail room b)
leads (zero, bounds) room b other begins = first_leads bounds room b other (tail_of b) refl
leads (suc more, bounds) room b other begins = inner_leads more bounds room b begins (ltb b bounds.0 || ltb bounds.1 b) refl

-- the zero byte
zero_longest : (tail : Tail) (room : Option ℕ) (b : ℕ) (bs : List ℕ) → AreBytes bs → is_end tail b ≡ true → Begins (Sized (Texts tail) room) []
    → Longest (Sized (Texts tail) room) (b ∷ bs) (cond (exactly 1 room) 1 0)
zero_longest tail room b bs all last begins =
    elim (cases_Bool (exactly 1 room)) [
      | inr other ↦ rw other (stops (Sized (Texts tail) room) b bs begins all (λ rest q h. true≢false (sym (one room rest (ended rest h.0) h.1) ∙ other)))
      | inl whole ↦ rw whole (goes_on (Sized (Texts tail) room) (λ rest. Sized (Texts tail) room (b ∷ rest)) b bs 0 all (λ rest q h. h) (λ rest q h. h) (ends bs all (begun whole)))
    ]
  where
    ended : (rest : List ℕ) → Texts tail (b ∷ rest) → rest ≡ []
    ended rest (inl h) = h.1
    ended rest (inr h) = absurd (true≢false (sym last ∙ h.0))

    one : (room : Option ℕ) (rest : List ℕ) → rest ≡ [] → HasLength room (b ∷ rest) → exactly 1 room ≡ true
    one None rest e size = refl
    one (Some room) rest e size = eq-eqb room 1 (omega (arith, ap length e, size))

    sized : (room : Option ℕ) → exactly 1 room ≡ true → HasLength room (b ∷ [])
    sized None e = tt
    sized (Some room) e = sym (eqb-true room 1 e)

    begun : exactly 1 room ≡ true → Begins (λ rest. Sized (Texts tail) room (b ∷ rest)) []
    begun e = ([], tt, (inl (last, refl), sized room e))

    ends : (bs : List ℕ) → AreBytes bs → Begins (λ rest. Sized (Texts tail) room (b ∷ rest)) [] → Longest (λ rest. Sized (Texts tail) room (b ∷ rest)) bs 0
    ends [] q h = at_end (λ rest. Sized (Texts tail) room (b ∷ rest)) h
    ends (c ∷ cs) q h = stops (λ rest. Sized (Texts tail) room (b ∷ rest)) c cs h q.1 (λ rest r k. cons_nil c rest (ended (c ∷ rest) k.0))

texts_longest : (tail : Tail) (room : Option ℕ) (bytes : List ℕ) → AreBytes bytes → FitsIn room bytes → Begins (Sized (Texts tail) room) [] → Longest (Sized (Texts tail) room) bytes (text_place tail room bytes)
texts_longest tail room [] all fits begins = at_end (Sized (Texts tail) room) begins
texts_longest tail room (b ∷ bs) all fits begins =
    elim (cases_Bool (is_end tail b)) [
      | inl last ↦ rw last (zero_longest tail room b bs all.1 last begins)
      | inr other ↦
          rw other
          (more (text_step tail room b) other (leads tail room b other begins)
          (λ next h. texts_longest next (room_after room 1) bs all.1 (rest_fits room b bs fits) h))
    ]
  where
    there : (next : Tail) → is_end tail b ≡ false → text_step tail None b ≡ Some next → (rest : List ℕ) → Texts tail (b ∷ rest) → Texts next rest
    there next other is rest (inl h) = absurd (true≢false (sym h.0 ∙ other))
    there next other is rest (inr h) = subst (λ (t : Tail). Texts t rest) (sym (some_is next h.1.0 (sym is ∙ h.1.1))) h.1.2

    more : (next : Option Tail) → is_end tail b ≡ false → Leads tail room b next
        → ((t : Tail) → Begins (Sized (Texts t) (room_after room 1)) [] → Longest (Sized (Texts t) (room_after room 1)) bs (text_place t (room_after room 1) bs))
        → Longest (Sized (Texts tail) room) (b ∷ bs) (one_more (λ t. text_place t (room_after room 1) bs) next)
    more None other none again = stops (Sized (Texts tail) room) b bs begins all.1 (λ rest q h. none rest h)
    more (Some next) other h again =
        goes_on (Sized (Texts tail) room) (Sized (Texts next) (room_after room 1)) b bs (text_place next (room_after room 1) bs) all.1
        (λ rest q k. (there next other h.0 rest k.0, rest_length room b rest k.1))
        (λ rest q k. (inr (other, (next, h.0, k.0)), whole_length room b rest (space_for room b bs fits) k.1))
        (again next h.1)

pub text_longest : (room : Option ℕ) (body : List ℕ) → AreBytes body → FitsIn room body → more_than 0 room ≡ true
    → Longest (Sized (λ bytes. IsRead (text_at bytes)) room) body (text_place (0, (0, 0)) room body)
text_longest room body all fits some =
    alike (Sized (λ bytes. IsRead (text_at bytes)) room) (Sized (Texts (0, (0, 0))) room) body (text_place (0, (0, 0)) room body) all
    (λ p q h. (text_there p h.0, h.1)) (λ p q h. (text_back p h.0, h.1)) (texts_longest (0, (0, 0)) room body all fits (texts_begin room some))
  where
    texts_begin : (room : Option ℕ) → more_than 0 room ≡ true → Begins (Sized (Texts (0, (0, 0))) room) []
    texts_begin None e = (letters 0, bytes_letters 0, (text_letters 0 (0, 0), tt))
    texts_begin (Some room) e =
        let n = room - 1 in
        (letters n, bytes_letters n, (text_letters n (0, 0), omega (arith, ltb-true 0 room e, length_letters n)))

-- a text takes a byte at least
pub text_short : (room : Option ℕ) (body : List ℕ) → more_than 0 room ≡ false → Sized (λ bytes. IsRead (text_at bytes)) room body → ⊥
text_short None body e h = true≢false e
text_short (Some room) body e h = omega (arith, h.1, ltb-false 0 room e, texts_need (0, (0, 0)) body (text_there body h.0))
