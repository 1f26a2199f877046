-- Numbers in decimal: what is read is encoded so, and what is encoded so is read.
use Rattle.std.proofs.Common.{◌≡◌, ◌≢◌, ℕ, zero, suc, ◌+◌, ◌-◌, ◌*◌, ◌^◌, ◌<◌, ◌≤◌, true, false, eqb, leb, not, ◌&&◌, List, [], ◌∷◌, length, get_or, Option, Some, None, inl, inr, refl, sym, ap, subst, ◌∙◌, arith}
use Rattle.std.proofs.Math.Dec.{eqb-suc-zero}
use Rattle.std.proofs.lemmas.Bool.{and_from, and_left, and_parts, cond-false, cond-true, le-leb, leb-true, ne_eqb}
use Rattle.std.proofs.lemmas.Bool.Decides.{nat_tests}
use Rattle.std.proofs.lemmas.Fmt.{decimal-digits_value, decimal_digit, decimal_is_IsNumeral, decimal_nonempty, first_decimal}
use Rattle.std.proofs.lemmas.Str.{digit_value_digit}
use Rattle.std.proofs.lemmas.Str.Parse.{IsNumeralModel, tells_digits}
use Rattle.std.specs.Char.{digit_value}
use Rattle.std.specs.Fmt.{decimal}
use Rattle.std.specs.Int.{IsInRange}
use Rattle.std.specs.List.{AllByRecursion}
use Rattle.std.specs.Str.Parse.{AllDigits, digits_value, digits_value_after}
use Rattle.lists.proofs.Chosen.{chosen, none_some, some_is}
use Rattle.tree_model.specs.declared.limits.TheConstants.{MOST_FILE_BYTES}
use Rattle.tree_records.specs.Reading.{is_digit, number_at, number_behind}

-- std's words on digits, as a model of numerals
own : IsNumeralModel (AllDigits 10) (digits_value 10)
own = record { to = λ ds h. h; from = λ ds h. h; same = λ ds h. refl }

digit_range : (b : ℕ) → is_digit b ≡ true → IsInRange 48 57 b
digit_range b h = (grind (arith, nat_tests), grind (arith, nat_tests))

is_digit_from : (b : ℕ) → IsInRange 48 57 b → is_digit b ≡ true
is_digit_from b h = grind (arith, nat_tests, h.0, h.1)

step : (m b : ℕ) → IsInRange 48 57 b → 10 * m + (b - 48) ≡ m * 10 + digit_value b
step m b h = let value = digit_value_digit b h in omega arith

-- ---- what is read

behind_found : (n m : ℕ) (ds : List ℕ) → number_behind m ds ≡ Some n → AllDigits 10 ds × (digits_value_after 10 m ds ≡ n)
behind_found n m [] e = (tt, some_is m n e)
behind_found n m (b ∷ bs) e =
    elim (chosen (is_digit b && leb (10 * m + (b - 48)) MOST_FILE_BYTES) (number_behind (10 * m + (b - 48)) bs) None (Some n) e) [
      | inl is ↦
          let range = digit_range b (and_parts (is_digit b) (leb (10 * m + (b - 48)) MOST_FILE_BYTES) is.0).0 in
          let rest = behind_found n (10 * m + (b - 48)) bs is.1 in
          let value = digit_value_digit b range in
          let small : digit_value b < 10 = omega (arith, range.0, range.1) in
          ((small, rest.0), sym (ap (λ (k : ℕ). digits_value_after 10 k bs) (step m b range)) ∙ rest.1)
      | inr other ↦ absurd (none_some n other.1)
    ]

behind_small : (n m : ℕ) (ds : List ℕ) → m ≤ MOST_FILE_BYTES → number_behind m ds ≡ Some n → n ≤ MOST_FILE_BYTES
behind_small n m [] h e = subst (λ (k : ℕ). k ≤ MOST_FILE_BYTES) (some_is m n e) h
behind_small n m (b ∷ bs) h e =
    elim (chosen (is_digit b && leb (10 * m + (b - 48)) MOST_FILE_BYTES) (number_behind (10 * m + (b - 48)) bs) None (Some n) e) [
      | inl is ↦
          behind_small n (10 * m + (b - 48)) bs
          (leb-true (10 * m + (b - 48)) MOST_FILE_BYTES (and_parts (is_digit b) (leb (10 * m + (b - 48)) MOST_FILE_BYTES) is.0).1) is.1
      | inr other ↦ absurd (none_some n other.1)
    ]

-- a number that is read is the one that its digits stand for, which is no more than a file may have
pub number_found : (ds : List ℕ) (n : ℕ) → number_at ds ≡ Some n → (ds ≡ decimal n) × (n ≤ MOST_FILE_BYTES)
number_found [] n e = absurd (none_some n e)
number_found (b ∷ bs) n e =
    elim (chosen ((eqb b 48) && not (eqb (length bs) 0)) None (number_behind 0 (b ∷ bs)) (Some n) e) [
      | inl is ↦ absurd (none_some n is.1)
      | inr other ↦
          let read = behind_found n 0 (b ∷ bs) other.1 in
          let small = behind_small n 0 (b ∷ bs) (omega arith) other.1 in
          let value : digits_value 10 (b ∷ bs) ≡ n = read.1 in
          let limit : MOST_FILE_BYTES < 2 ^ 64 = omega arith in (
            sym (decimal-digits_value own (b ∷ bs) read.0 (omega arith) (λ zero_first. alone b bs zero_first other.0) (omega arith)) ∙ ap decimal value,
            small,
          )
    ]
  where
    alone : (c : ℕ) (cs : List ℕ) → c ≡ 48 → ((eqb c 48) && not (eqb (length cs) 0)) ≡ false → suc (length cs) ≡ 1
    alone c [] is h = refl
    alone c (d ∷ ds) is h = absurd (two_answers (sym h ∙ and_from (eqb c 48) (not (eqb (length (d ∷ ds)) 0)) (ap (λ (k : ℕ). eqb k 48) is) (ap not (eqb-suc-zero (length ds)))))
      where
        two_answers : false ≡ true → ⊥
        two_answers k = cc

-- ---- what is encoded

value_ge : (m : ℕ) (ds : List ℕ) → m ≤ digits_value_after 10 m ds
value_ge m [] = omega arith
value_ge m (b ∷ bs) = omega (arith, value_ge (m * 10 + digit_value b) bs)

behind_again : (m : ℕ) (ds : List ℕ) → AllDigits 10 ds → digits_value_after 10 m ds ≤ MOST_FILE_BYTES → number_behind m ds ≡ Some (digits_value_after 10 m ds)
behind_again m [] h small = refl
behind_again m (b ∷ bs) h small =
    let range = tells_digits.parts b bs h in
    let next = step m b range.0 in
    let most = value_ge (m * 10 + digit_value b) bs in
    cond-true (is_digit b && leb (10 * m + (b - 48)) MOST_FILE_BYTES) (number_behind (10 * m + (b - 48)) bs) None
    (and_from (is_digit b) (leb (10 * m + (b - 48)) MOST_FILE_BYTES) (is_digit_from b range.0) (le-leb (10 * m + (b - 48)) MOST_FILE_BYTES (omega arith)))
    ∙ ap (λ (k : ℕ). number_behind k bs) next ∙ behind_again (m * 10 + digit_value b) bs h.1 small

abbrev some_number : ℕ → Option ℕ
some_number k = Some k

no_zero_first : (ds : List ℕ) (n : ℕ) → 0 < length ds → (get_or ds 0 0 ≡ 48 → ⊥) → number_behind 0 ds ≡ Some n → number_at ds ≡ Some n
no_zero_first [] n some first e = absurd (omega arith)
no_zero_first (b ∷ bs) n some first e =
    cond-false ((eqb b 48) && not (eqb (length bs) 0)) None (number_behind 0 (b ∷ bs)) (and_left (eqb b 48) (not (eqb (length bs) 0)) (ne_eqb b 48 first)) ∙ e

-- a number in decimal is read, if it is no more than a file may have
pub number_again : (n : ℕ) → n ≤ MOST_FILE_BYTES → number_at (decimal n) ≡ Some n
number_again zero small = ap number_at (decimal_digit 0 (omega arith))
number_again (suc n) small =
    let limit : MOST_FILE_BYTES < 2 ^ 64 = omega arith in
    let fits : suc n < 2 ^ 64 = omega arith in
    let numeral = (decimal_is_IsNumeral (suc n) fits) in
    let first = first_decimal (suc n) (omega arith) fits in
    let value : digits_value 10 (decimal (suc n)) ≡ suc n = numeral.1 in
    no_zero_first (decimal (suc n)) (suc n) (decimal_nonempty (suc n) fits) (λ is. omega arith)
    (behind_again 0 (decimal (suc n)) numeral.0.1 (omega arith) ∙ ap some_number value)

-- a byte that is no digit is not in a number
others : (c : ℕ) (ds : List ℕ) → (IsInRange 48 57 c → ⊥) → AllDigits 10 ds → AllByRecursion (λ b. b ≢ c) ds
others c [] other h = tt
others c (b ∷ bs) other h =
    let parts = tells_digits.parts b bs h in
    (λ same. other (subst (IsInRange 48 57) same parts.0), others c bs other parts.1)

pub decimal_without : (c n : ℕ) → (IsInRange 48 57 c → ⊥) → n ≤ MOST_FILE_BYTES → AllByRecursion (λ b. b ≢ c) (decimal n)
decimal_without c n other small =
    let limit : MOST_FILE_BYTES < 2 ^ 64 = omega arith in
    others c (decimal n) other (decimal_is_IsNumeral n (omega arith)).0.1
