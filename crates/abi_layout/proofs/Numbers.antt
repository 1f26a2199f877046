-- Numbers in bytes: where they are read, and what a byte says of them.
use Rattle.std.proofs.Common.{◌≡◌, ℕ, zero, suc, ◌+◌, ◌<◌, ◌≤◌, List, length, drop}
use Rattle.std.proofs.Common.{get_or, get_or-drop, refl, sym, ap, ◌∙◌, arith}
use Rattle.std.proofs.lemmas.Slice.{between_to_end}
use Rattle.std.specs.List.{between}
use Rattle.std.proofs.Common.{inl, inr}
use Rattle.std.proofs.lemmas.Bool.{cases_eq}
use Rattle.byteorder.specs.Endian.{little_from}
use Rattle.abi_layout.specs.Layout.{number_from}

-- the same bytes have the same number
pub same_number : (i n : ℕ) (xs ys : List ℕ) → ((k : ℕ) → i ≤ k → k < i + n → get_or xs k 0 ≡ get_or ys k 0)
    → little_from i n xs ≡ little_from i n ys
same_number i zero xs ys h = refl
same_number i (suc n) xs ys h =
    let here = h i (omega arith) (omega arith) in
    let rest = same_number (suc i) n xs ys (λ k low high. h k (omega arith) (omega arith)) in
    rw (here, rest) refl

-- the number from a place on, in what is left after some bytes
number_after : (j i n : ℕ) (xs : List ℕ) → little_from j n (drop i xs) ≡ little_from (i + j) n xs
number_after j i zero xs = refl
number_after j i (suc n) xs =
    let here = get_or-drop i xs j 0 in
    let rest = number_after (suc j) i n xs in
    let next : i + suc j ≡ suc (i + j) = omega arith in
    rw (here, rest, next) refl

-- the number in what is left after some bytes
pub number_of_rest : (i n : ℕ) (xs : List ℕ) → little_from 0 n (drop i xs) ≡ number_from i n xs
unfolding number_from
number_of_rest i n xs = let same : i + 0 ≡ i = omega arith in number_after 0 i n xs
    ∙ ap (λ (j : ℕ). little_from j n xs) same

-- the number at the head of the part of a slice from a place to its end
pub number_of_part : (i n : ℕ) (xs : List ℕ) → little_from 0 n (between i (length xs) xs) ≡ number_from i n xs
number_of_part i n xs = ap (little_from 0 n) (between_to_end xs i (length xs) (omega arith)) ∙ number_of_rest i n xs

-- a byte is the number of one byte
pub number_of_byte : (i : ℕ) (xs : List ℕ) → get_or xs i 0 ≡ number_from i 1 xs
unfolding number_from
number_of_byte i xs = omega arith

-- equal numbers have equal bytes
pub same_bytes : (n i : ℕ) (xs ys : List ℕ) → ((k : ℕ) → get_or xs k 0 < 256) → ((k : ℕ) → get_or ys k 0 < 256)
    → little_from i n xs ≡ little_from i n ys
    → (k : ℕ) → i ≤ k → k < i + n → get_or xs k 0 ≡ get_or ys k 0
same_bytes zero i xs ys small_x small_y e k low high = absurd (omega arith)
same_bytes (suc n) i xs ys small_x small_y e k low high =
    let x : get_or xs i 0 < 256 = small_x i in
    let y : get_or ys i 0 < 256 = small_y i in
    let here : get_or xs i 0 ≡ get_or ys i 0 = omega arith in
    let rest : little_from (suc i) n xs ≡ little_from (suc i) n ys = omega arith in
    elim (cases_eq k i) [
      | inl same ↦ ap (λ (j : ℕ). get_or xs j 0) same ∙ here ∙ sym (ap (λ (j : ℕ). get_or ys j 0) same)
      | inr other ↦ same_bytes n (suc i) xs ys small_x small_y rest k (omega arith) (omega arith)
    ]
