-- The numbers under which threads have their entries.
--     key_of, key_small      each number is that of a thread
--     key_same, key_parts      no two threads have one
--     key_behind, key_before      they go in the order of their processes' numbers, and then of their own
use Rattle.std.proofs.Common.{◌≡◌, ◌⊎◌, ℕ, ◌/◌, ◌%◌, ◌^◌, ◌<◌, ◌≤◌, true, false, inl, inr, refl, lit<, arith}
use Rattle.std.specs.Prelude.{nat_lt}
use Rattle.std.proofs.lemmas.Bool.{ltb-false, ltb-true}
use Rattle.std.proofs.lemmas.Nat.{div-add-mod'}
use Rattle.std.proofs.Math.Nat.{mod-lt}
use Rattle.kernel_parts.specs.Keys.{key}

pub key_of : (k : ℕ) → key (k / 2 ^ 32) (k % 2 ^ 32) ≡ k
key_of k = div-add-mod' k (2 ^ 32)

pub key_small : (k : ℕ) → k % 2 ^ 32 < 2 ^ 32
key_small k = mod-lt k (lit< tt)

pub key_same : (p t q u : ℕ) → t < 2 ^ 32 → u < 2 ^ 32 → key p t ≡ key q u → (p ≡ q) × (t ≡ u)
key_same p t q u small other same = (omega (arith, small, other, same), omega (arith, small, other, same))

-- the number tells the thread
pub key_parts : (p t : ℕ) → t < 2 ^ 32 → (key p t / 2 ^ 32 ≡ p) × (key p t % 2 ^ 32 ≡ t)
key_parts p t small = key_same (key p t / 2 ^ 32) (key p t % 2 ^ 32) p t (key_small (key p t)) small (key_of (key p t))

pub key_behind : (p t q u : ℕ) → t < 2 ^ 32 → u < 2 ^ 32 → (p < q) ⊎ ((p ≡ q) × (t < u)) → key p t < key q u
key_behind p t q u small other (inl before) = omega (arith, small, other, before)
key_behind p t q u small other (inr same) = let first = same.0 in let second = same.1 in omega (arith, first, second)

pub key_before : (p t q u : ℕ) → t < 2 ^ 32 → u < 2 ^ 32 → key p t < key q u → (p < q) ⊎ ((p ≡ q) × (t < u))
key_before p t q u small other before =
    elim (nat_lt p q) as (λ b. nat_lt p q ≡ b → (p < q) ⊎ ((p ≡ q) × (t < u))) [
      | true ↦ λ less. inl (ltb-true p q less)
      | false ↦ λ more.
          let not_less : q ≤ p = ltb-false p q more in
          inr (omega (arith, small, other, before, not_less), omega (arith, small, other, before, not_less))
    ] refl
