-- What the outcome of a test says.
use Rattle.std.proofs.Common.{◌≡◌, ℕ, zero, suc, ◌<◌, ◌≤◌, ◌⊎◌, inl, inr, Bool, true, false, eqb, ltb, ◌||◌, List, [], ◌∷◌, Some, refl, arith}
use Rattle.std.proofs.Math.Dec.{eqb-suc-zero}
use Rattle.std.proofs.lemmas.Bool.{not-true, not-false, ltb-true, ltb-false, true≢false}
use Rattle.argdata_codec.specs.Places.{at_most}

pub or_cases : (x y : Bool) → (x || y) ≡ true → (x ≡ true) ⊎ (y ≡ true)
or_cases true y h = inl refl
or_cases false y h = inr h

pub nonzero : (n : ℕ) → 0 < n → eqb n 0 ≡ false
nonzero zero h = absurd (omega (arith, h))
nonzero (suc n) h = eqb-suc-zero n

pub positive : (n : ℕ) → eqb n 0 ≡ false → 0 < n
positive zero h = absurd (true≢false h)
positive (suc n) h = omega arith

pub cons_nil : (x : ℕ) (xs : List ℕ) → x ∷ xs ≡ [] → ⊥
cons_nil x xs e = cc

-- whether a room is small
pub few : (most room : ℕ) → at_most most (Some room) ≡ true → room ≤ most
few most room e = ltb-false most room (not-true (ltb most room) e)

pub many : (most room : ℕ) → at_most most (Some room) ≡ false → most < room
many most room e = ltb-true most room (not-false (ltb most room) e)
