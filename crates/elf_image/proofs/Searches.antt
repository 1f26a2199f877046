-- The first number that passes a test.
use Rattle.std.proofs.Common.{◌≡◌, ℕ, zero, suc, ◌<◌, Bool, true, false, cond, Option, Some, None, refl, ap, subst, ◌∙◌, arith, ◌⊎◌, inl, inr}
use Rattle.std.proofs.lemmas.Bool.{cases_lt}
use Rattle.elf_image.specs.Checks.{first_below, next_if}
use Rattle.elf_image.specs.Faults.{IsFirst}
use Rattle.std.specs.Bool.{Decides}

-- a number that passes, below which none does, is the first
pub first_found : (test : ℕ → Bool) (n i : ℕ) → i < n → first_below test i ≡ None → test i ≡ true →
    first_below test n ≡ Some i
first_found test zero i below none passes = absurd (omega arith)
first_found test (suc n) i below none passes = elim (cases_lt i n) [
  | inl less ↦ ap (next_if test n) (first_found test n i less none passes)
  | inr least ↦
      let last : i ≡ n = omega arith in
      subst (λ (m : ℕ). next_if test m (first_below test m) ≡ Some i) last
      (ap (next_if test i) none ∙ ap (λ b. cond b (Some i) None) passes)
]

-- where none is found none passes
passes_not : (b : Bool) (n : ℕ) → cond b (Some n) None ≡ None → b ≡ false
passes_not true n none = absurd (cc)
passes_not false n none = refl

next_none : (test : ℕ → Bool) (n : ℕ) (found : Option ℕ) → next_if test n found ≡ None → (found ≡ None) × (test n ≡ false)
next_none test n None none = (refl, passes_not (test n) n none)
next_none test n (Some k) none = absurd (cc)

pub none_below : (test : ℕ → Bool) (n i : ℕ) → first_below test n ≡ None → i < n → test i ≡ false
none_below test zero i none below = absurd (omega arith)
none_below test (suc n) i none below =
    let parts = next_none test n (first_below test n) none in
    elim (cases_lt i n) [
      | inl less ↦ none_below test n i parts.0 less
      | inr least ↦ let last : n ≡ i = omega arith in subst (λ (m : ℕ). test m ≡ false) last parts.1
    ]

pub not_passing : (b : Bool) → (b ≡ true → ⊥) → b ≡ false
not_passing true not = absurd (not refl)
not_passing false not = refl

fails : (b : Bool) → b ≡ true → b ≡ false → ⊥
fails b holds not = cc

-- where none passes none is found
none_found : (test : ℕ → Bool) (n : ℕ) → ((j : ℕ) → j < n → test j ≡ false) → first_below test n ≡ None
none_found test zero none = refl
none_found test (suc n) none =
    ap (next_if test n) (none_found test n (λ j below. none j (omega arith)))
    ∙ ap (λ b. cond b (Some n) None) (none n (omega arith))

chosen : (b : Bool) (n k : ℕ) → cond b (Some n) None ≡ Some k → (b ≡ true) × (n ≡ k)
chosen true n k found = (refl, cc)
chosen false n k found = absurd (cc)

-- the step of the search: found before n, or n itself
found_where : (test : ℕ → Bool) (n k : ℕ) (earlier : Option ℕ) → next_if test n earlier ≡ Some k →
    (earlier ≡ Some k) ⊎ ((earlier ≡ None) × (test n ≡ true) × (n ≡ k))
found_where test n k None found = let parts = chosen (test n) n k found in inr (refl, parts.0, parts.1)
found_where test n k (Some j) found = inl found

-- what was found is a first number that passes
pub found_first : (test : ℕ → Bool) (P : ℕ → Type 0) (n k : ℕ) → ((i : ℕ) → Decides (test i) (P i)) →
    first_below test n ≡ Some k → IsFirst P n k
found_first test P zero k each found = absurd (cc)
found_first test P (suc n) k each found = elim (found_where test n k (first_below test n) found) [
  | inl earlier ↦
      let rest = found_first test P n k each earlier in
      let below = rest.0 in
      (omega arith, rest.1, rest.2)
  | inr here ↦
      let last : n ≡ k = here.2 in
      let none : first_below test k ≡ None = subst (λ (m : ℕ). first_below test m ≡ None) last here.0 in
      let passes : test k ≡ true = subst (λ (m : ℕ). test m ≡ true) last here.1 in (
        omega arith,
        (each k).0 passes,
        λ j below holds. fails (test j) ((each j).1 holds)
            (none_below test k j none below),
      )
]

-- a first number that passes is found
pub first_is_found : (test : ℕ → Bool) (P : ℕ → Type 0) (n k : ℕ) → ((i : ℕ) → Decides (test i) (P i)) →
    IsFirst P n k → first_below test n ≡ Some k
first_is_found test P n k each first =
    first_found test n k first.0
    (none_found test k (λ j below. not_passing (test j) (λ passes. first.2 j below ((each j).0 passes))))
    ((each k).1 first.1)
