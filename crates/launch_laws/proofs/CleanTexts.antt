-- Bytes that may stand in a text.
use Rattle.std.proofs.Common.{◌≡◌, ◌≢◌, ℕ, suc, ◌+◌, ◌/◌, ◌%◌, ◌<◌, ◌≤◌, ◌==◌, inl, inr, Bool, true, false, cond, if◌then◌else◌, leb, ltb, ◌&&◌, List, [], ◌∷◌, ◌++◌, length, Option, Some, None, option_map, refl, sym, ap, subst, ◌∙◌, append_assoc, arith}
use Rattle.std.specs.Char.{encode_utf8, IsScalar, is_control}
use Rattle.std.specs.List.{AllByRecursion}
use Rattle.std.specs.Str.{IsUtf8, chars}
use Rattle.std.specs.Str.Lossy.{utf8_valid_len}
use Rattle.std.proofs.Math.Utf8.{encodes, scalars}
use Rattle.std.proofs.lemmas.Bool.{and_parts, cases_eq, cond-false, cond-true, eq-eqb, le-ltb, leb-true, ltb-true, ne_eqb}
use Rattle.std.proofs.lemmas.Bool.Decides.{nat_tests}
use Rattle.std.proofs.lemmas.List.{append-nil}
use Rattle.std.proofs.lemmas.Str.{IsUtf8-append, IsUtf8-encode, IsUtf8-nil, encodes-chars, scalars-chars, utf8_valid_len-IsUtf8}
use Rattle.launch_scalars.specs.Characters.{begins_control, control_at, invalid_at, earlier, bad_at}
use Rattle.launch_scalars.proofs.Escaped.{ascii_utf8}

-- UTF-8 without a control character, whatever stands behind it
pub record IsClean (bytes : List ℕ) : Type 0 where
  pub utf8 : IsUtf8 bytes
  pub calm : (rest : List ℕ) → control_at rest ≡ None → control_at (bytes ++ rest) ≡ None

pub clean_nil : IsClean []
clean_nil = record { utf8 = IsUtf8-nil; calm = λ rest none. none }

pub clean_append : (xs ys : List ℕ) → IsClean xs → IsClean ys → IsClean (xs ++ ys)
clean_append xs ys h k = record {
  utf8 = IsUtf8-append xs ys h.utf8 k.utf8;
  calm = λ rest none. ap control_at (append_assoc xs ys rest) ∙ h.calm (ys ++ rest) (k.calm rest none);
}

-- ---- none of them is bad

pub calm_alone : (bytes : List ℕ) → IsClean bytes → control_at bytes ≡ None
calm_alone bytes h = ap control_at (sym (append-nil bytes)) ∙ h.calm [] refl

abbrev some_place : ℕ → Option ℕ
some_place n = Some n

pub bad_none : (bytes : List ℕ) → IsClean bytes → bad_at bytes ≡ None
unfolding bad_at
bad_none bytes h =
    ap (λ (place : Option ℕ). earlier place (invalid_at bytes)) (calm_alone bytes h)
    ∙ cond-true (utf8_valid_len bytes == length bytes) None (some_place (utf8_valid_len bytes)) (eq-eqb (utf8_valid_len bytes) (length bytes) (utf8_valid_len-IsUtf8 bytes h.utf8))

-- ---- bytes one by one

calm_step : (b : ℕ) (bs : List ℕ) → begins_control b bs ≡ false → control_at bs ≡ None → control_at (b ∷ bs) ≡ None
calm_step b bs h none =
    cond-false (begins_control b bs) (some_place 0) (option_map {U = ℕ} suc (control_at bs)) h ∙ ap (λ (place : Option ℕ). option_map {U = ℕ} suc place) none

pub calm_parts : (b : ℕ) (bs : List ℕ) → control_at (b ∷ bs) ≡ None → (begins_control b bs ≡ false) × (control_at bs ≡ None)
calm_parts b bs e = by_test (begins_control b bs) (control_at bs) e
  where
    by_test : (t : Bool) (o : Option ℕ) → (if t then some_place 0 else option_map {U = ℕ} suc o) ≡ None → (t ≡ false) × (o ≡ None)
    by_test true o h = cc (h)
    by_test false None h = (refl, refl)
    by_test false (Some n) h = cc (h)

no_control : (b : ℕ) (bs : List ℕ) → 32 ≤ b → b ≢ 127 → b ≢ 194 → begins_control b bs ≡ false
no_control b bs low h k =
    let first : ltb b 32 ≡ false = le-ltb b 32 low in
    let second = ne_eqb b 127 h in
    let third = ne_eqb b 194 k in
    rw (first, second, third) refl

-- bytes of which none begins a control character
abbrev AreCalm : List ℕ → Type 0
AreCalm bytes = AllByRecursion (λ b. (32 ≤ b) × (b ≢ 127) × (b ≢ 194)) bytes

all_calm : (bytes rest : List ℕ) → AreCalm bytes → control_at rest ≡ None → control_at (bytes ++ rest) ≡ None
all_calm [] rest h none = none
all_calm (b ∷ bs) rest h none = calm_step b (bs ++ rest) (no_control b (bs ++ rest) h.0.0 h.0.1 h.0.2) (all_calm bs rest h.1 none)

pub clean_byte : (b : ℕ) → 32 ≤ b → b < 127 → IsClean (b ∷ [])
clean_byte b low high = record {
  utf8 = ascii_utf8 b (omega arith);
  calm = λ rest none. calm_step b rest (no_control b rest low (λ e. omega arith) (λ e. omega arith)) none;
}

-- bytes of ASCII without control characters
abbrev pub are_visible : List ℕ → Bool
are_visible [] = true
are_visible (b ∷ bs) = leb 32 b && (ltb b 127 && are_visible bs)

pub clean_visible : (bytes : List ℕ) → are_visible bytes ≡ true → IsClean bytes
clean_visible [] h = clean_nil
clean_visible (b ∷ bs) h =
    let low = and_parts (leb 32 b) (ltb b 127 && are_visible bs) h in
    let high = and_parts (ltb b 127) (are_visible bs) low.1 in
    clean_append (b ∷ []) bs (clean_byte b (leb-true 32 b low.0) (ltb-true b 127 high.0)) (clean_visible bs high.1)

-- ---- characters

-- what holds of both, where the test says which
pub either : (P : List ℕ → Type 0) (t : Bool) (xs ys : List ℕ) → (t ≡ true → P xs) → (t ≡ false → P ys) → P (cond t xs ys)
either P true xs ys h k = h refl
either P false xs ys h k = k refl

abbrev Calm : List ℕ → Type 0
Calm bytes = (rest : List ℕ) → control_at rest ≡ None → control_at (bytes ++ rest) ≡ None

-- a character of two bytes: U+0080 to U+009F begin with the byte 0xc2 too
calm_two : (c : ℕ) → 160 ≤ c → Calm ((192 + c / 64) ∷ (128 + c % 64) ∷ [])
calm_two c high rest none =
    calm_step (192 + c / 64) ((128 + c % 64) ∷ rest) first (all_calm ((128 + c % 64) ∷ []) rest ((omega arith, λ e. omega arith, λ e. omega arith), tt) none)
  where
    first : begins_control (192 + c / 64) ((128 + c % 64) ∷ rest) ≡ false
    first = elim (cases_eq (c / 64) 2) [
      | inl two ↦
          let a : ltb (192 + c / 64) 32 ≡ false = le-ltb (192 + c / 64) 32 (omega arith) in
          let b = ne_eqb (192 + c / 64) 127 (λ e. omega arith) in
          let d : ltb (128 + c % 64) 128 ≡ false = le-ltb (128 + c % 64) 128 (omega arith) in
          let e : ltb (128 + c % 64) 160 ≡ false = le-ltb (128 + c % 64) 160 (omega arith) in
          rw (a, b, d, e) (neither ((192 + c / 64) == 194))
      | inr other ↦ no_control (192 + c / 64) ((128 + c % 64) ∷ rest) (omega arith) (λ e. omega arith) (λ e. other (omega arith))
    ]
      where
        neither : (t : Bool) → (t && false) ≡ false
        neither true = refl
        neither false = refl

calm_character : (c : ℕ) → 32 ≤ c → c ≢ 127 → (128 ≤ c → 160 ≤ c) → Calm (encode_utf8 c)
unfolding encode_utf8
calm_character c low delete high =
    either Calm (ltb c 128) (c ∷ []) _
    (λ small. let is : c < 128 = ltb-true c 128 small in λ rest none. all_calm (c ∷ []) rest ((low, delete, λ e. omega arith), tt) none)
    (λ large. let is : 128 ≤ c = grind (arith, nat_tests, large) in
    either Calm (ltb c 2048) ((192 + c / 64) ∷ (128 + c % 64) ∷ []) _
    (λ two. calm_two c (high is))
    (λ more.
    either Calm (ltb c 65536) ((224 + c / 4096) ∷ (128 + c / 64 % 64) ∷ (128 + c % 64) ∷ []) ((240 + c / 262144) ∷ (128 + c / 4096 % 64) ∷ (128 + c / 64 % 64) ∷ (128 + c % 64) ∷ [])
    (λ three rest none. all_calm ((224 + c / 4096) ∷ (128 + c / 64 % 64) ∷ (128 + c % 64) ∷ []) rest
    ((omega arith, λ e. omega arith, λ e. omega arith), ((omega arith, λ e. omega arith, λ e. omega arith), ((omega arith, λ e. omega arith, λ e. omega arith), tt))) none)
    (λ four rest none. all_calm ((240 + c / 262144) ∷ (128 + c / 4096 % 64) ∷ (128 + c / 64 % 64) ∷ (128 + c % 64) ∷ []) rest
    ((omega arith, λ e. omega arith, λ e. omega arith), ((omega arith, λ e. omega arith, λ e. omega arith), ((omega arith, λ e. omega arith, λ e. omega arith), ((omega arith, λ e. omega arith, λ e. omega arith), tt)))) none)))

pub clean_character : (c : ℕ) → IsScalar c → is_control c ≡ false → IsClean (encode_utf8 c)
clean_character c scalar h = record {
  utf8 = IsUtf8-encode c scalar;
  calm = calm_character c (grind (arith, nat_tests, h)) (λ e. grind (arith, nat_tests, h, e)) (λ high. grind (arith, nat_tests, h, high));
}

clean_characters : (cs : List ℕ) → scalars cs ≡ true → AllByRecursion (λ c. is_control c ≡ false) cs → IsClean (encodes cs)
clean_characters [] e h = clean_nil
clean_characters (c ∷ cs) e h =
    let p = and_parts _ _ e in
    clean_append (encode_utf8 c) (encodes cs) (clean_character c p.0 h.0) (clean_characters cs p.1 h.1)

-- a text without control characters
pub clean_text : (bytes : List ℕ) → IsUtf8 bytes → AllByRecursion (λ c. is_control c ≡ false) (chars bytes) → IsClean bytes
clean_text bytes utf8 h = subst IsClean (encodes-chars bytes utf8) (clean_characters (chars bytes) (scalars-chars bytes utf8) h)
