-- Numbers of bytes in a row.
use Rattle.std.proofs.Common.{◌≡◌, ℕ, zero, suc, ◌+◌, ◌*◌, ◌/◌, ◌<◌, ◌≤◌, inl, inr, List, [], ◌∷◌, length, take, get_or, refl, ap, arith}
use Rattle.guest_memory.specs.Words.{IsWidth, bytes_of, number_of}

pub width_positive : (n : ℕ) → IsWidth n → 0 < n
width_positive n (inl e) = omega arith
width_positive n (inr (inl e)) = omega arith
width_positive n (inr (inr (inl e))) = omega arith
width_positive n (inr (inr (inr e))) = omega arith

pub number_of_four : (bs : List ℕ) → 4 ≤ length bs → get_or bs 0 0 + get_or bs 1 0 * 256 + get_or bs 2 0 * 65536 + get_or bs 3 0 * 16777216 ≡ number_of (take 4 bs)
number_of_four [] h = absurd (omega arith)
number_of_four (a ∷ []) h = absurd (omega arith)
number_of_four (a ∷ b ∷ []) h = absurd (omega arith)
number_of_four (a ∷ b ∷ c ∷ []) h = absurd (omega arith)
number_of_four (a ∷ b ∷ c ∷ d ∷ bs) h = omega arith

pub length-bytes_of : (n v : ℕ) → length (bytes_of n v) ≡ n
length-bytes_of zero v = refl
length-bytes_of (suc n) v = ap suc (length-bytes_of n (v / 256))
