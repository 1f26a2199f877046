-- The next number that passes a test.
--     is_after after t      whether t is above the number `after`, or there is none
--     IsNext p after result      the result is the least number after `after` that passes p; None where none does
--     is_between first end t      whether t is at least `first` and below `end`
--     IsFirst p from end result      the result is the least number between `from` and `end` that passes p; None where none does
use Rattle.std.specs.Prelude.{◌≡◌, ℕ, ◌≤◌, ◌<◌, Bool, true, false, ◌&&◌, Option, None, Some, nat_le, nat_lt}

abbrev pub is_after : Option ℕ → ℕ → Bool
is_after None t = true
is_after (Some k) t = nat_lt k t

abbrev pub IsNext : (ℕ → Bool) → Option ℕ → Option ℕ → Type 0
IsNext p after None = (t : ℕ) → is_after after t ≡ true → p t ≡ false
IsNext p after (Some k) = (is_after after k ≡ true) × (p k ≡ true) × ((t : ℕ) → is_after after t ≡ true → p t ≡ true → k ≤ t)

abbrev pub is_between : ℕ → ℕ → ℕ → Bool
is_between first end t = nat_le first t && nat_lt t end

abbrev pub IsFirst : (ℕ → Bool) → ℕ → ℕ → Option ℕ → Type 0
IsFirst p from end None = (t : ℕ) → from ≤ t → t < end → p t ≡ false
IsFirst p from end (Some k) = (from ≤ k) × (k < end) × (p k ≡ true) × ((t : ℕ) → from ≤ t → t < k → p t ≡ false)
