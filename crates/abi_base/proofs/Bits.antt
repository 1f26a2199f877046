use Rattle.std.proofs.Common.{◌≡◌, ℕ, ◌-◌, ◌^◌, ◌<◌, ◌↔◌, min, arith}
use Rattle.std.specs.Int.{bit_at, w64}
use Rattle.std.specs.Int.RustNames.{bit_and}
use Rattle.std.proofs.lemmas.Nat.Bits.{bit_at_and, bit_at_not}
use Rattle.abi_base.specs.Rights.{Has, meet_of, minus_of}

-- a bit of both is a bit of each
pub has-meet : (a b k : ℕ) → Has (meet_of a b) k ↔ (Has a k × Has b k)
has-meet a b k =
    let both : bit_at (bit_and a b) k ≡ min (bit_at a k) (bit_at b k) = bit_at_and a b k in
    (λ h. (omega (arith, both), omega (arith, both)), λ h. omega (arith, both, h.0, h.1))

-- a bit of what is left is one of the first and none of the second
pub has-minus : (a b k : ℕ) → b < 2 ^ 64 → k < 64 → Has (minus_of a b) k ↔ (Has a k × ¬ Has b k)
has-minus a b k small below =
    let both : bit_at (bit_and a (2 ^ 64 - 1 - b)) k ≡ min (bit_at a k) (bit_at (2 ^ 64 - 1 - b) k) = bit_at_and a (2 ^ 64 - 1 - b) k in
    let other : bit_at (2 ^ 64 - 1 - b) k ≡ 1 - bit_at b k = bit_at_not w64 b k small below in
    (λ h. (omega (arith, both, other), λ g. omega (arith, both, other, h, g)), λ h. let n : ¬ Has b k = h.1 in omega (arith, both, other, h.0, n))
