-- Which bit a flag is.
--     bit_is      a bit is 0 or 1
--     flag_decides      the test of a flag tells its bit
use Rattle.std.proofs.Common.{◌≡◌, ◌⊎◌, ℕ, ◌*◌, ◌^◌, ◌==◌, not, true, inl, inr, sym, ap, ◌∙◌, arith}
use Rattle.std.proofs.lemmas.Bool.Decides.{eqb_tells}
use Rattle.std.proofs.lemmas.Nat.{pow_pos}
use Rattle.std.proofs.lemmas.Nat.Bits.{and_pow, bit_at-lt}
use Rattle.std.specs.Bool.{Decides}
use Rattle.std.specs.Int.{bit_at}
use Rattle.std.specs.Int.RustNames.{bit_and}
use Rattle.abi_base.specs.Rights.{Has}
use Rattle.kernel_model.proofs.Tests.{not_true}

power_is_some : (k : ℕ) → not (1 * 2 ^ k == 0) ≡ true
power_is_some k =
    elim (eqb_tells (1 * 2 ^ k) 0) [
      | inl none ↦ absurd (omega (arith, pow_pos k, none.1))
      | inr some ↦ ap not some.0
    ]

by_bit : (flags k : ℕ) → bit_and flags (2 ^ k) ≡ bit_at flags k * 2 ^ k → (bit_at flags k ≡ 0) ⊎ (bit_at flags k ≡ 1)
    → Decides (not (bit_and flags (2 ^ k) == 0)) (Has flags k)
by_bit flags k bit (inl none) =
    let product : bit_and flags (2 ^ k) ≡ 0 * 2 ^ k = bit ∙ ap (λ b. b * 2 ^ k) none in
    let zero : bit_and flags (2 ^ k) ≡ 0 = omega (arith, product) in
    (λ e. absurd (not_true (sym (ap (λ b. not (b == 0)) zero) ∙ e)), λ has. absurd (omega (arith, none, has)))
by_bit flags k bit (inr one) = (λ e. one, λ has. ap (λ b. not (b == 0)) (bit ∙ ap (λ b. b * 2 ^ k) one) ∙ power_is_some k)

pub bit_is : (flags k : ℕ) → (bit_at flags k ≡ 0) ⊎ (bit_at flags k ≡ 1)
bit_is flags k =
    elim (eqb_tells (bit_at flags k) 0) [
      | inl none ↦ inl none.1
      | inr some ↦ inr (omega (arith, some.1, bit_at-lt flags k))
    ]

pub flag_decides : (flags k : ℕ) → Decides (not (bit_and flags (2 ^ k) == 0)) (Has flags k)
flag_decides flags k = by_bit flags k (and_pow flags k) (bit_is flags k)
