-- A walk over numbers, each behind the one before.
--     next_behind      the next one is above those that were passed
--     after_or_past      each number is behind the last one, or was passed
use Rattle.std.proofs.Common.{◌≡◌, ◌⊎◌, ◌≤◌, ℕ, Bool, true, false, inl, inr, Option, None, Some, refl, arith}
use Rattle.std.proofs.lemmas.Bool.{ltb-false, ltb-true}
use Rattle.std.specs.Prelude.{nat_lt}
use Rattle.kernel_parts.proofs.Walks.{IsPast, passed}
use Rattle.wait_set.specs.Next.{IsNext, is_after}

pub next_behind : (p : ℕ → Bool) (after : Option ℕ) (k : ℕ) → IsNext p after (Some k) → passed after ≤ k
next_behind p None k next = omega arith
next_behind p (Some last) k next = let less = ltb-true last k next.0 in omega (arith, less)

pub after_or_past : (after : Option ℕ) (k : ℕ) → (is_after after k ≡ true) ⊎ IsPast after k
after_or_past None k = inl refl
after_or_past (Some last) k =
    elim (nat_lt last k) as (λ b. nat_lt last k ≡ b → (nat_lt last k ≡ true) ⊎ (k ≤ last)) [
      | true ↦ λ e. inl e
      | false ↦ λ e. inr (ltb-false last k e)
    ] refl
