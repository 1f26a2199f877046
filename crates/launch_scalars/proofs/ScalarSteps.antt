-- The characters of a scalar, and how much it takes.
use Rattle.std.specs.Prelude.{IfSome}
use Rattle.std.proofs.Common.{◌≡◌, ℕ, zero, suc, ◌-◌, ◌<◌, ◌≤◌, min, inl, inr, Bool, true, false, ◌==◌, if◌then◌else◌, List, [], ◌∷◌, ◌++◌, length, take, drop, Option, Some, None, option_map, Result, Ok, Err, refl, sym, ap, subst, ◌∙◌, arith}
use Rattle.std.specs.Prelude.{IfOk}
use Rattle.std.specs.Str.{IsUtf8, is_utf8}
use Rattle.std.specs.Str.Lossy.{utf8_valid_len, valid_len_up_to}
use Rattle.std.proofs.Math.Seq.{take-append_seam, take-length}
use Rattle.std.proofs.lemmas.Bool.Decides.{nat_tests}
use Rattle.std.proofs.lemmas.List.{length-append, length-take, take-append-drop}
use Rattle.std.proofs.lemmas.Str.{IsUtf8-nil, IsUtf8-from_is_utf8, utf8_valid_len_le}
use Rattle.launch_scalars.specs.declared.fault.LineFault.{LineFault}
use Rattle.lists.specs.Results.{◌>>=◌}
use Rattle.lists.proofs.Steps.{on_both}
use Rattle.launch_scalars.specs.Results.{fault}
use Rattle.launch_scalars.specs.Characters.{begins_control, control_at, invalid_at, earlier, bad_at}
use Rattle.launch_scalars.specs.Spaces.{without_last_spaces}
use Rattle.launch_scalars.specs.Plain.{begins_plain, plain_length, wrong_beginning}
use Rattle.launch_scalars.specs.Quoted.{Quoted, quoted, reported, if_right, if_closed, taken_of}
use Rattle.launch_scalars.specs.Scalars.{Scalar, is_quote, unless_at, quoted_scalar, plain_scalar, quoted_at, plain_at, scalar_at}
use Rattle.lists.proofs.Chosen.{chosen, some_is, none_some, ok_is, err_ok}
use Rattle.launch_scalars.proofs.BadBytes.{bad_inside}
use Rattle.launch_scalars.proofs.Escaped.{AreNonzero}
use Rattle.launch_scalars.proofs.Utf8.{around_ascii, trimmed_for, trimmed_nonzero, quoted_read}

-- ---- bytes in which nothing is bad are UTF-8

valid_up_to_le : (bytes : List ℕ) (n : ℕ) → valid_len_up_to bytes n ≤ n
valid_up_to_le bytes zero = omega arith
valid_up_to_le bytes (suc n) = by_test (is_utf8 (take (suc n) bytes)) (valid_up_to_le bytes n)
  where
    by_test : (t : Bool) → valid_len_up_to bytes n ≤ n → (if t then suc n else valid_len_up_to bytes n) ≤ suc n
    by_test true below = omega arith
    by_test false below = omega (arith, below)

all_valid : (bytes : List ℕ) (n : ℕ) → length bytes ≡ n → valid_len_up_to bytes n ≡ n → IsUtf8 bytes
all_valid [] n whole e = IsUtf8-nil
all_valid (b ∷ bs) zero whole e = absurd (omega (arith, whole))
all_valid (b ∷ bs) (suc n) whole e = elim (chosen (is_utf8 (take (suc n) (b ∷ bs))) _ _ _ e) [
  | inl p ↦
      let all : take (suc n) (b ∷ bs) ≡ b ∷ bs = ap (λ (k : ℕ). take k (b ∷ bs)) (sym whole) ∙ take-length (b ∷ bs) in
      subst IsUtf8 all (IsUtf8-from_is_utf8 (take (suc n) (b ∷ bs)) p.0)
  | inr p ↦ absurd (omega (arith, valid_up_to_le (b ∷ bs) n, p.1))
]

valid_utf8 : (bytes : List ℕ) → utf8_valid_len bytes ≡ length bytes → IsUtf8 bytes
unfolding utf8_valid_len
valid_utf8 bytes e = all_valid bytes (length bytes) refl e

both_none : (m n : Option ℕ) → earlier m n ≡ None → n ≡ None
both_none None n e = e
both_none (Some a) None e = absurd (none_some a (sym e))
both_none (Some a) (Some b) e = absurd (none_some (min a b) (sym e))

pub good_utf8 : (bytes : List ℕ) → bad_at bytes ≡ None → IsUtf8 bytes
unfolding bad_at
good_utf8 bytes e = elim (chosen (utf8_valid_len bytes == length bytes) _ _ _ (both_none (control_at bytes) (invalid_at bytes) e)) [
  | inl p ↦ valid_utf8 bytes (grind (arith, nat_tests, p.0))
  | inr p ↦ absurd (none_some (utf8_valid_len bytes) (sym p.1))
]

-- ---- a bad byte stands inside

pub bad_before_inside : (bytes : List ℕ) (count : ℕ) (r : Option ℕ) → r ≡ bad_at (take count bytes) → IfSome r (λ n. n ≤ length bytes)
bad_before_inside bytes count None e = tt
bad_before_inside bytes count (Some n) e =
    let inside = bad_inside (take count bytes) n (sym e) in
    omega (arith, inside, length-take count bytes)

-- ---- what a scalar says has no zero byte

control_none : (m n : Option ℕ) → earlier m n ≡ None → m ≡ None
control_none None n e = refl
control_none (Some a) None e = absurd (none_some a (sym e))
control_none (Some a) (Some b) e = absurd (none_some (min a b) (sym e))

no_control : (bytes : List ℕ) → control_at bytes ≡ None → AreNonzero bytes
no_control [] e = tt
no_control (b ∷ bs) e = elim (chosen (begins_control b bs) _ _ _ e) [
  | inl p ↦ absurd (none_some 0 (sym p.1))
  | inr p ↦ (grind (arith, nat_tests, p.0), behind (no_control bs) (control_at bs) refl p.1)
]
  where
    behind : (control_at bs ≡ None → AreNonzero bs) → (r : Option ℕ) → control_at bs ≡ r → option_map suc r ≡ None → AreNonzero bs
    behind inner None is h = inner is
    behind inner (Some m) is h = absurd (none_some (suc m) (sym h))

pub good_nonzero : (bytes : List ℕ) → bad_at bytes ≡ None → AreNonzero bytes
unfolding bad_at
good_nonzero bytes e = no_control bytes (control_none (control_at bytes) (invalid_at bytes) e)

-- ---- what a scalar says is a text without a zero byte, where each of its bytes may be in a text

-- what is reported of a quoted scalar that is closed and has no wrong escape
pub reported_parts : (q : Quoted) (content rest : List ℕ) → reported q ≡ Ok (content, rest) → (q.wrong ≡ None) × (q.rest ≡ Some rest) × (q.content ≡ content)
reported_parts q content rest e = of_parts q.wrong q.rest e
  where
    of_parts : (wrong : Option ℕ) (behind : Option (List ℕ)) → if_right wrong (if_closed q.content behind) ≡ Ok (content, rest) → (wrong ≡ None) × (behind ≡ Some rest) × (q.content ≡ content)
    of_parts (Some place) behind e = absurd (err_ok _ _ e)
    of_parts None None e = absurd (err_ok _ _ e)
    of_parts None (Some r) e =
        let same = ok_is (q.content, r) (content, rest) e in
        let some_rest : List ℕ → Option (List ℕ) = λ xs. Some xs in
        (refl, ap (λ (p : List ℕ × List ℕ). some_rest p.1) same, ap (λ (p : List ℕ × List ℕ). p.0) same)

-- the bytes of a quoted scalar: its opening quote, and what it takes behind that
taken_is : (quote : ℕ) (bytes taken rest : List ℕ) (behind : Option (List ℕ)) → behind ≡ Some rest → bytes ≡ taken ++ rest
    → take (suc (taken_of (length bytes) behind)) (quote ∷ bytes) ≡ quote ∷ taken
taken_is quote bytes taken rest behind is whole =
    let count : taken_of (length bytes) behind ≡ length taken = ap (taken_of (length bytes)) is ∙ omega (arith, ap length whole, length-append taken rest) in
    ap (λ (n : ℕ). quote ∷ take n bytes) count
    ∙ ap (λ (xs : List ℕ). quote ∷ take (length taken) xs) whole
    ∙ ap (λ (xs : List ℕ). quote ∷ xs) (take-append_seam taken rest)

abbrev pub IsGood : List ℕ → Type 0
IsGood bytes = IsUtf8 bytes × AreNonzero bytes

pub all_good : (bytes : List ℕ) → bad_at bytes ≡ None → IsGood bytes
all_good bytes e = (good_utf8 bytes e, good_nonzero bytes e)

pub quoted_good : (quote : ℕ) (bytes content rest : List ℕ) → quote < 128 → reported (quoted quote bytes) ≡ Ok (content, rest)
    → bad_at (take (suc (taken_of (length bytes) (quoted quote bytes).rest)) (quote ∷ bytes)) ≡ None → IsGood content
quoted_good quote bytes content rest small e good =
    let parts = reported_parts (quoted quote bytes) content rest e in
    let read = quoted_read quote bytes rest parts.1 parts.0 in
    let front = subst IsGood (taken_is quote bytes read.taken rest (quoted quote bytes).rest parts.1 read.whole) (all_good _ good) in
    let inside = (around_ascii [] read.taken quote small front.0).1 in
    subst IsGood parts.2 (read.for [] inside, read.nonzero front.1.1)

pub plain_good : (bytes : List ℕ) → bad_at bytes ≡ None → IsGood (without_last_spaces bytes)
plain_good bytes good = (trimmed_for bytes [] (good_utf8 bytes good), trimmed_nonzero bytes (good_nonzero bytes good))

quoted_text : (quote : ℕ) (bytes : List ℕ) → quote < 128 → IfOk (quoted_at quote bytes) (λ s. IsGood s.content)
quoted_text quote bytes small = by_bad (bad_at (take (suc (taken_of (length bytes) (quoted quote bytes).rest)) (quote ∷ bytes))) refl
  where
    of_reported : (r : Result (List ℕ × List ℕ) LineFault) → reported (quoted quote bytes) ≡ r → bad_at (take (suc (taken_of (length bytes) (quoted quote bytes).rest)) (quote ∷ bytes)) ≡ None
        → IfOk (r >>= λ c. Ok (quoted_scalar c)) (λ s. IsGood s.content)
    of_reported (Err e) is good = tt
    of_reported (Ok c) is good = quoted_good quote bytes c.0 c.1 small is good

    by_bad : (bad : Option ℕ) → bad_at (take (suc (taken_of (length bytes) (quoted quote bytes).rest)) (quote ∷ bytes)) ≡ bad
        → IfOk (unless_at (length (quote ∷ bytes)) bad (reported (quoted quote bytes) >>= λ c. Ok (quoted_scalar c))) (λ s. IsGood s.content)
    by_bad (Some n) is = tt
    by_bad None is = of_reported (reported (quoted quote bytes)) refl is

plain_text : (count : ℕ) (bytes : List ℕ) → IfOk (plain_at count bytes) (λ s. IsGood s.content)
plain_text count bytes = by_bad (bad_at (take count bytes)) refl
  where
    by_bad : (bad : Option ℕ) → bad_at (take count bytes) ≡ bad → IfOk (unless_at (length bytes) bad (Ok (plain_scalar count bytes))) (λ s. IsGood s.content)
    by_bad (Some n) is = tt
    by_bad None is = plain_good (take count bytes) is

-- what a scalar says is a text without a zero byte
pub scalar_text : (in_flow : Bool) (bytes : List ℕ) → IfOk (scalar_at in_flow bytes) (λ s. IsUtf8 s.content × AreNonzero s.content)
unfolding scalar_at
scalar_text in_flow [] = tt
scalar_text in_flow (b ∷ bs) =
    by_quote (is_quote b) refl
  where
    plain_or_fault : Result Scalar LineFault
    plain_or_fault = if begins_plain in_flow b bs then plain_at (plain_length in_flow (b ∷ bs)) (b ∷ bs) else fault (suc (length bs)) (wrong_beginning b)

    by_quote : (q : Bool) → is_quote b ≡ q → IfOk (if q then quoted_at b bs else plain_or_fault) (λ s. IsUtf8 s.content × AreNonzero s.content)
    by_quote true is = quoted_text b bs (grind (arith, nat_tests, is))
    by_quote false is = on_both (λ s. IsGood s.content) (begins_plain in_flow b bs) (plain_at (plain_length in_flow (b ∷ bs)) (b ∷ bs)) (fault (suc (length bs)) (wrong_beginning b)) (plain_text (plain_length in_flow (b ∷ bs)) (b ∷ bs)) tt
