-- Moments of clocks.
--     sooner_first, sooner_rest      where the sooner of two moments hasn't come neither has
use Rattle.std.proofs.Common.{◌≡◌, ℕ, ◌^◌, ◌<◌, ◌≤◌, Bool, true, false, min, Option, None, Some, refl, sym, ap, ◌∙◌, arith}
use Rattle.std.proofs.lemmas.Bool.{ltb-true}
use Rattle.std.specs.Prelude.{nat_lt, if◌then◌else◌}
use Rattle.kernel_model.specs.Deadlines.{is_due, soon}
use Rattle.kernel_model.specs.Families.Polls.{sooner}
use Rattle.kernel_model.proofs.Deadlines.{due_at, soon_kept}
use Rattle.kernel_model.proofs.PollTimes.{due_only}
use Rattle.kernel_model.proofs.Tests.{not_true}

-- a moment that has come is one that counts
counts : (d now : ℕ) → is_due now (soon (Some d)) ≡ true → d < 2 ^ 62
counts d now due =
    elim (nat_lt d (2 ^ 62)) as (λ b. nat_lt d (2 ^ 62) ≡ b → is_due now (if b then Some d else None) ≡ true → d < 2 ^ 62) [
      | true ↦ λ e _. ltb-true d (2 ^ 62) e
      | false ↦ λ e none. absurd (not_true none)
    ] refl due

due_before : (d m now : ℕ) → m ≤ d → is_due now (soon (Some d)) ≡ true → is_due now (soon (Some m)) ≡ true
due_before d m now before due =
    let early : m < 2 ^ 62 = omega (arith, before, counts d now due) in
    let come : m ≤ now = omega (arith, before, due_only d now due) in
    ap (is_due now) (soon_kept m early) ∙ due_at now m come

-- what leads from a moment that has come to one that hasn't is not there
not_due_if : (a b : Bool) → (a ≡ true → b ≡ true) → b ≡ false → a ≡ false
not_due_if false b leads not_yet = refl
not_due_if true b leads not_yet = absurd (not_true (sym not_yet ∙ leads refl))

min_first : (a b : ℕ) → min a b ≤ a
min_first a b = omega (arith)

min_second : (a b : ℕ) → min a b ≤ b
min_second a b = omega (arith)

pub sooner_first : (now : ℕ) (a b : Option ℕ) → is_due now (soon (sooner a b)) ≡ false → is_due now (soon a) ≡ false
sooner_first now None b ahead = refl
sooner_first now (Some m) None ahead = ahead
sooner_first now (Some m) (Some n) ahead = not_due_if _ _ (due_before m (min m n) now (min_first m n)) ahead

pub sooner_rest : (now : ℕ) (a b : Option ℕ) → is_due now (soon (sooner a b)) ≡ false → is_due now (soon b) ≡ false
sooner_rest now None b ahead = ahead
sooner_rest now (Some m) None ahead = refl
sooner_rest now (Some m) (Some n) ahead = not_due_if _ _ (due_before n (min m n) now (min_second m n)) ahead
