-- A number that is cut off at 2^64 stays the same, however its digits are read.
use Rattle.std.proofs.Common.{arith, ℕ, ◌≡◌, ◌<◌, ◌≤◌, ◌+◌, ◌-◌, ◌*◌, ◌^◌, take, drop, get_or, sym, ap, ◌∙◌, Bool, true, false, ◌&&◌, if◌then◌else◌, List, [], ◌∷◌, Option, Some, None, length, refl, inl, inr}
use Rattle.std.proofs.lemmas.Bool.{cases_lt}
use Rattle.std.proofs.Math.Seq.{take-length}
use Rattle.std.proofs.Math.Nat.{le-mul_of_pos_right}
use Rattle.launch_scalars.specs.Quoted.{digit_of}
use Rattle.launch_scalars.specs.Numbers.{is_digit, all_digits, digit_value, number_behind}
use Rattle.launch_scalars.specs.Capped.{capped}

-- numbers that are the same once cut off stay so behind one digit more
same_next : (base m n d : ℕ) → 0 < base → capped m ≡ capped n → capped (base * m + d) ≡ capped (base * n + d)
same_next base m n d positive same =
    elim (cases_lt m (2 ^ 64)) [
      | inl small ↦ let e : m ≡ n = omega (arith, same, small) in ap (λ k. capped (base * k + d)) e
      | inr large ↦ omega (arith, same, large, le-mul_of_pos_right m positive, le-mul_of_pos_right n positive)
    ]

-- numbers that are the same once cut off stay so behind more digits
same_behind : (base : ℕ) → 0 < base → (bytes : List ℕ) (m n : ℕ) → capped m ≡ capped n → capped (number_behind base m bytes) ≡ capped (number_behind base n bytes)
same_behind base positive [] m n same = same
same_behind base positive (b ∷ bs) m n same = same_behind base positive bs _ _ (same_next base m n (digit_value (digit_of b)) positive same)

-- what was read is a digit, and its number
digit_read : (d : ℕ) (t : Bool) (digit : Option ℕ) → Some d ≡ (if t then digit else None) → (t ≡ true) × (d ≡ digit_value digit)
digit_read d true digit h = (refl, ap digit_value h)
digit_read d false digit h = cc (h)

-- the front digit changes neither whether all are digits, nor the number
step_digits : (base b : ℕ) (bs : List ℕ) (d : ℕ) → Some d ≡ (if is_digit base b then digit_of b else None) → all_digits base bs ≡ all_digits base (b ∷ bs)
step_digits base b bs d h = ap (λ t. t && all_digits base bs) (sym (digit_read d (is_digit base b) (digit_of b) h).0)

step_number : (base n b : ℕ) (bs : List ℕ) (d : ℕ) → 0 < base → Some d ≡ (if is_digit base b then digit_of b else None)
    → capped (number_behind base (capped (base * n + d)) bs) ≡ capped (number_behind base n (b ∷ bs))
step_number base n b bs d positive h =
    same_behind base positive bs _ _ (twice _ ∙ ap (λ k. capped (base * n + k)) (digit_read d (is_digit base b) (digit_of b) h).1)
  where
    twice : (k : ℕ) → capped (capped k) ≡ capped k
    twice k = omega arith

rest_whole : (b : ℕ) (bs : List ℕ) → take (length (b ∷ bs) - 1) bs ≡ bs
rest_whole b bs = let e : length (b ∷ bs) - 1 ≡ length bs = omega arith in rw e (take-length bs)

-- the digit at the front of the rest is read
pub goes_on : (base n d number : ℕ) (rest bytes : List ℕ) → 0 < base → 1 ≤ length rest
    → Some d ≡ (if is_digit base (get_or rest 0 0) then digit_of (get_or rest 0 0) else None)
    → number ≡ capped (base * n + d)
    → (all_digits base rest ≡ all_digits base bytes)
    → (capped (number_behind base n rest) ≡ capped (number_behind base 0 bytes))
    → (all_digits base (take (length rest - 1) (drop 1 rest)) ≡ all_digits base bytes)
    × (capped (number_behind base number (take (length rest - 1) (drop 1 rest))) ≡ capped (number_behind base 0 bytes))
    × (number ≤ 2 ^ 64)
goes_on base n d number [] bytes positive filled digit is all same = absurd (no_less filled)
  where
    no_less : 1 ≤ 0 → ⊥
    no_less h = omega (arith, h)
goes_on base n d number (b ∷ bs) bytes positive filled digit is all same =
    rw (rest_whole b bs) (step_digits base b bs d digit ∙ all, ap (λ k. capped (number_behind base k bs)) is ∙ step_number base n b bs d positive digit ∙ same, omega (arith, is))
