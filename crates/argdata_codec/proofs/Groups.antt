-- The groups of a length, and the bytes of an integer, one after the other.
use Rattle.std.proofs.Common.{◌≡◌, ℕ, zero, suc, ◌+◌, ◌/◌, ◌%◌, ◌<◌, ◌≤◌, List, [], ◌∷◌, ◌++◌, refl, ap, ◌∙◌, inl, inr, arith, ◌*◌, ◌^◌, pow-suc, ◌-◌, drop, take, length, of_z, ℤ, pos, negsuc}
use Rattle.std.proofs.lemmas.List.{take_all}
use Rattle.std.proofs.lemmas.Bool.{cases_lt, lt-ltb, le-ltb}
use Rattle.std.proofs.Math.Nat.{zero-add}
use Rattle.std.specs.Int.{w128, bytes_high_first}
use Rattle.argdata_codec.specs.Encoding.{IsInRange, IsWithin, complement_bytes}
use Rattle.argdata_codec.specs.Writing.{groups, groups_of, further, further_bytes, width_of}

-- any fuel that is enough gives the same groups
groups_alike : (f g n : ℕ) → n ≤ f → n ≤ g → groups f n ≡ groups g n
groups_alike zero zero n p q = refl
groups_alike zero (suc g) zero p q = refl
groups_alike zero (suc g) (suc n) p q = absurd (omega arith)
groups_alike (suc f) zero zero p q = refl
groups_alike (suc f) zero (suc n) p q = absurd (omega arith)
groups_alike (suc f) (suc g) zero p q = refl
groups_alike (suc f) (suc g) (suc n) p q = ap (λ (front : List ℕ). front ++ ((suc n % 128) ∷ [])) (groups_alike f g (suc n / 128) (omega arith) (omega arith))

pub no_groups : groups_of 0 ≡ []
unfolding groups_of
no_groups = refl

pub more_groups : (n : ℕ) → 0 < n → groups_of n ≡ groups_of (n / 128) ++ ((n % 128) ∷ [])
unfolding groups_of
more_groups zero p = absurd (omega arith)
more_groups (suc n) p = ap (λ (front : List ℕ). front ++ ((suc n % 128) ∷ [])) (groups_alike n (suc n / 128) (suc n / 128) (omega arith) (omega arith))

-- any fuel that is enough gives the same bytes
further_alike : (f g n : ℕ) → n ≤ f → n ≤ g → further f n ≡ further g n
further_alike zero zero n p q = refl
further_alike zero (suc g) zero p q = refl
further_alike zero (suc g) (suc n) p q = absurd (omega arith)
further_alike (suc f) zero zero p q = refl
further_alike (suc f) zero (suc n) p q = absurd (omega arith)
further_alike (suc f) (suc g) n p q =
    elim (cases_lt n 128) [
      | inl lt ↦ rw (lt-ltb n 128 lt) refl
      | inr le ↦ rw (le-ltb n 128 le) (ap suc (further_alike f g (n / 256) (omega arith) (omega arith)))
    ]

pub further_none : (n : ℕ) → n < 128 → further_bytes n ≡ 0
unfolding further_bytes
further_none zero lt = refl
further_none (suc n) lt = rw (lt-ltb (suc n) 128 lt) refl

pub further_more : (n : ℕ) → 128 ≤ n → further_bytes n ≡ suc (further_bytes (n / 256))
unfolding further_bytes
further_more zero le = absurd (omega arith)
further_more (suc n) le = rw (le-ltb (suc n) 128 le) (ap suc (further_alike n (suc n / 256) (suc n / 256) (omega arith) (omega arith)))

-- how many bytes are enough
pub further_least : (k n : ℕ) → n < 128 * 256 ^ k → further_bytes n ≤ k
further_least zero n lt = omega (arith, further_none n (omega arith))
further_least (suc k) n lt =
    elim (cases_lt n 128) [
      | inl small ↦ omega (arith, further_none n small)
      | inr large ↦
          let wider : 256 ^ suc k ≡ 256 ^ k * 256 = pow-suc 256 k in
          let unit = 256 ^ k in
          let below : n / 256 < 128 * unit = omega (arith, lt, wider) in
          omega (arith, further_more n large, further_least k (n / 256) below)
    ]

-- so many bytes hold the number
further_holds_with : (fuel n : ℕ) → n ≤ fuel → n < 128 * 256 ^ further_bytes n
further_holds_with zero n le = rw (further_none n (omega arith)) (omega arith)
further_holds_with (suc fuel) n le =
    elim (cases_lt n 128) [
      | inl small ↦ rw (further_none n small) (omega arith)
      | inr large ↦
          let before : n / 256 < 128 * 256 ^ further_bytes (n / 256) = further_holds_with fuel (n / 256) (omega arith) in
          let k = further_bytes (n / 256) in
          let wider : 256 ^ suc k ≡ 256 ^ k * 256 = pow-suc 256 k in
          rw (further_more n large, wider) (omega (arith, before))
    ]

pub further_holds : (n : ℕ) → n < 128 * 256 ^ further_bytes n
further_holds n = further_holds_with n n (omega arith)

pub width_within : (i : ℤ) → IsWithin (width_of i) i
width_within (pos zero) = refl
width_within (pos (suc n)) = further_holds (suc n)
width_within (negsuc n) = further_holds n

pub width_least : (fewer : ℕ) (i : ℤ) → IsWithin fewer i → width_of i ≤ fewer
width_least zero (pos zero) h = omega arith
width_least zero (pos (suc n)) h = absurd cc
width_least zero (negsuc n) h = absurd cc
width_least (suc fewer) (pos zero) h = omega arith
width_least (suc fewer) (pos (suc n)) h = omega (arith, further_least fewer (suc n) h)
width_least (suc fewer) (negsuc n) h = omega (arith, further_least fewer n h)

pub width_in_range : (i : ℤ) → IsInRange i → width_of i ≤ 9
width_in_range (pos n) h = width_least 9 (pos n) (omega (arith, h))
width_in_range (negsuc n) h = width_least 9 (negsuc n) (omega (arith, h))

-- the last bytes of a number are its lowest
drop_high : (j k n : ℕ) → drop j (bytes_high_first (j + k) n) ≡ bytes_high_first k n
drop_high zero k n = ap (λ (m : ℕ). bytes_high_first m n) (zero-add k)
drop_high (suc j) k n =
    let one : suc j + k ≡ suc (j + k) = omega arith in
    ap (λ (m : ℕ). drop (suc j) (bytes_high_first m n)) one ∙ drop_high j k n

pub last_bytes : (all count n : ℕ) → count ≤ all → drop (all - count) (bytes_high_first all n) ≡ bytes_high_first count n
last_bytes all count n le =
    let whole : all ≡ (all - count) + count = omega arith in
    ap (λ (k : ℕ). drop (all - count) (bytes_high_first k n)) whole ∙ drop_high (all - count) count n

pub length_high : (k n : ℕ) → length (bytes_high_first k n) ≡ k
length_high zero n = refl
length_high (suc k) n = ap suc (length_high k n)

-- the same, as a slice of 16 bytes gives it
pub sliced : (i z : ℤ) (width u : ℕ) (all : List ℕ) → z ≡ i → width ≡ width_of z → width ≤ 16 → u ≡ of_z w128 z → all ≡ bytes_high_first 16 u
    → take (16 - (16 - width)) (drop (16 - width) all) ≡ complement_bytes (width_of i) i
sliced i z width u all same wide small bits bytes =
    let last : drop (16 - width) all ≡ bytes_high_first width u = ap (drop (16 - width)) bytes ∙ last_bytes 16 width u small in
    let len : length (bytes_high_first width u) ≡ width = length_high width u in
    rw last (take_all (16 - (16 - width)) (bytes_high_first width u) (omega (arith, len)))
    ∙ ap (λ (k : ℕ). bytes_high_first k u) wide ∙ ap (bytes_high_first (width_of z)) bits ∙ ap (λ (x : ℤ). complement_bytes (width_of x) x) same
