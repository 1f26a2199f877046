-- Numbers at offsets of a file.
use Rattle.std.proofs.Common.{◌≡◌, ℕ, zero, suc, ◌+◌, ◌-◌, List, drop, take, length, refl, ap, ◌∙◌, arith}
use Rattle.std.proofs.lemmas.List.{get_or-drop, take_rest}
use Rattle.byteorder.specs.Endian.{little_from}
use Rattle.elf_image.specs.Fields.{number_at}

number_from : (i n k : ℕ) (bytes : List ℕ) → little_from i n (drop k bytes) ≡ number_at n (k + i) bytes
unfolding number_at
number_from i zero k bytes = refl
number_from i (suc n) k bytes =
    let next : k + suc i ≡ suc (k + i) = omega arith in
    rw (get_or-drop k bytes i 0, number_from (suc i) n k bytes, next) refl

-- the number at the front of what lies behind an offset is the number at the offset
pub number_behind : (n k : ℕ) (bytes : List ℕ) →
    little_from 0 n (take (length bytes - k) (drop k bytes)) ≡ number_at n k bytes
number_behind n k bytes =
    let here : k + 0 ≡ k = omega arith in
    ap (λ (xs : List ℕ). little_from 0 n xs) (take_rest bytes k) ∙ number_from 0 n k bytes ∙ ap
    (λ (o : ℕ). number_at n o bytes) here
