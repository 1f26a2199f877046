-- Numbers of few bytes: an integer is read from the bytes that hold it, and from no others.
use Rattle.std.proofs.Common.{◌≡◌, ℕ, zero, suc, ◌+◌, ◌-◌, ◌*◌, ◌%◌, ◌^◌, ◌<◌, ◌≤◌, ◌⊎◌, true, ltb, eqb, ◌&&◌, List, [], ◌∷◌, length, Some, refl, sym, ap, subst, ◌∙◌, arith, ℤ, pos, negsuc, of_z, pow-suc, mul_comm, inl, inr}
use Rattle.std.specs.Int.{w128, byte_at, bytes_high_first}
use Rattle.std.proofs.Math.Nat.{pow-le-pow_right, mul-le-mul_right, mul-add-mod_self_left, mod-eq_of_lt}
use Rattle.std.proofs.Math.Arith.{mod-mul}
use Rattle.std.proofs.lemmas.Nat.{pow-add}
use Rattle.std.proofs.lemmas.Bool.{cases_lt, ltb-false, ltb-true, lt-ltb, le-ltb, eqb-true, eq-eqb, and_parts}
use Rattle.argdata_codec.specs.Encoding.{steps, IsInteger, IsInRange, IsWithin, complement_bytes}
use Rattle.argdata_codec.specs.Writing.{width_of}
use Rattle.argdata_codec.specs.Reading.{number_after, signed, is_in_range, integer_at}
use Rattle.lists.proofs.Chosen.{chosen, none_some, some_is}
use Rattle.argdata_codec.proofs.Fields.{AreBytes}
use Rattle.argdata_codec.proofs.Groups.{width_within, width_least, width_in_range, length_high}

pub power_small : (i k : ℕ) → i ≤ k → 256 ^ i ≤ 256 ^ k
power_small i k le = pow-le-pow_right {n = 256} (omega arith) {i = i} {j = k} le

pub power_some : (k : ℕ) → 0 < 256 ^ k
power_some k = omega (arith, power_small 0 k (omega arith))

-- ---- the number of bytes

-- one more byte in front of the lowest
byte_on : (k n high : ℕ) → (256 * high + byte_at k n) * 256 ^ k + n % 256 ^ k ≡ high * 256 ^ suc k + n % 256 ^ suc k
byte_on zero n high = omega arith
byte_on (suc k) n high =
    let unit = 256 ^ suc k in
    let wider : 256 ^ suc (suc k) ≡ 256 * unit = pow-suc 256 (suc k) ∙ mul_comm unit 256 in
    let some : 0 < unit = power_some (suc k) in
    rw (wider, mod-mul n {m = 256} {c = unit} (omega arith) some) (omega arith)

number_on : (k n high : ℕ) → number_after high (bytes_high_first k n) ≡ high * 256 ^ k + n % 256 ^ k
number_on zero n high = omega arith
number_on (suc k) n high = number_on k n (256 * high + byte_at k n) ∙ byte_on k n high

number_high : (k n : ℕ) → number_after 0 (bytes_high_first k n) ≡ n % 256 ^ k
number_high k n = number_on k n 0 ∙ omega arith

-- as many bytes that bring the same number are the same bytes
number_unique : (a b : List ℕ) (g h : ℕ) → length a ≡ length b → AreBytes a → AreBytes b → number_after g a ≡ number_after h b → (g ≡ h) × (a ≡ b)
number_unique [] [] g h len p q e = (e, refl)
number_unique [] (y ∷ b) g h len p q e = absurd (omega (arith, len))
number_unique (x ∷ a) [] g h len p q e = absurd (omega (arith, len))
number_unique (x ∷ a) (y ∷ b) g h len p q e =
    let r = number_unique a b (256 * g + x) (256 * h + y) (omega (arith, len)) p.1 q.1 e in
    let heads : x ≡ y = omega (arith, r.0, p.0, q.0) in
    (omega (arith, r.0, p.0, q.0), ap (λ (z : ℕ). z ∷ a) heads ∙ ap (λ (xs : List ℕ). y ∷ xs) r.1)

high_bytes : (k n : ℕ) → AreBytes (bytes_high_first k n)
high_bytes zero n = tt
high_bytes (suc zero) n = (omega arith, tt)
high_bytes (suc (suc k)) n = (omega arith, high_bytes (suc k) n)

pub number_below : (body : List ℕ) (high : ℕ) → AreBytes body → number_after high body < (high + 1) * 256 ^ length body
number_below [] high all = omega arith
number_below (b ∷ bs) high all =
    let unit = 256 ^ length bs in
    let r : number_after high (b ∷ bs) < (256 * high + b + 1) * unit = number_below bs (256 * high + b) all.1 in
    let wider : 256 ^ length (b ∷ bs) ≡ 256 * unit = pow-suc 256 (length bs) ∙ mul_comm unit 256 in
    let more : (256 * high + b + 1) * unit ≤ (256 * high + 256) * unit = mul-le-mul_right unit (omega (arith, all.0)) in
    let total : (high + 1) * 256 ^ length (b ∷ bs) ≡ (high + 1) * (256 * unit) = ap (λ (n : ℕ). (high + 1) * n) wider in
    omega (arith, r, total, more)

-- ---- two's complement

-- 2 ^ 128 is a multiple of the numbers of so many bytes
multiple : (k : ℕ) → k ≤ 16 → (p : ℕ) × (2 ^ 128 ≡ 256 ^ k * suc p)
multiple k le =
    let all : k + (16 - k) ≡ 16 = omega arith in
    let whole : 256 ^ (k + (16 - k)) ≡ 256 ^ 16 = ap (λ (n : ℕ). 256 ^ n) all in
    let some : 0 < 256 ^ (16 - k) = power_some (16 - k) in
    let one : suc (256 ^ (16 - k) - 1) ≡ 256 ^ (16 - k) = omega arith in
    (256 ^ (16 - k) - 1, sym whole ∙ pow-add 256 k (16 - k) ∙ ap (λ (n : ℕ). 256 ^ k * n) (sym one))

-- the complement of a small number, in fewer bytes
complement_low : (k m : ℕ) → k ≤ 16 → m < 256 ^ k → (2 ^ 128 - suc m) % 256 ^ k ≡ 256 ^ k - suc m
complement_low k m le lt =
    let q = multiple k le in
    let top = 256 ^ k in
    let split : 2 ^ 128 - suc m ≡ top * q.0 + (top - suc m) = omega (arith, q.1, lt) in
    rw (split, mul-add-mod_self_left top q.0 (top - suc m)) (mod-eq_of_lt (omega (arith, lt)))

-- an integer reads back from its lowest bytes, where they hold it
signed_near : (k : ℕ) (i : ℤ) → k ≤ 16 → 2 * steps i + 2 ≤ 256 ^ k → signed (256 ^ k) (of_z w128 i % 256 ^ k) ≡ i
signed_near k (pos n) le near =
    let same : n % 256 ^ k ≡ n = mod-eq_of_lt (omega (arith, near)) in
    rw (same, lt-ltb (2 * n) (256 ^ k) (omega (arith, near))) refl
signed_near k (negsuc n) le near =
    let top = 256 ^ k in
    let same : (2 ^ 128 - suc n) % top ≡ top - suc n = complement_low k n le (omega (arith, near)) in
    rw (same, le-ltb (2 * (top - suc n)) top (omega (arith, near))) (ap negsuc (omega (arith, near)))

signed_back : (k : ℕ) (i : ℤ) → k ≤ 16 → IsWithin k i → signed (256 ^ k) (of_z w128 i % 256 ^ k) ≡ i
signed_back zero i le h = rw h refl
signed_back (suc k) i le h = signed_near (suc k) i le (omega (arith, h, pow-suc 256 k))

-- and its lowest bytes are those that it was read from
signed_bits : (k n : ℕ) → k ≤ 16 → n < 256 ^ k → of_z w128 (signed (256 ^ k) n) % 256 ^ k ≡ n
signed_bits k n le lt =
    elim (cases_lt (2 * n) (256 ^ k)) [
      | inl near ↦ rw (lt-ltb (2 * n) (256 ^ k) near) (mod-eq_of_lt lt)
      | inr far ↦
          let low : (2 ^ 128 - suc (256 ^ k - suc n)) % 256 ^ k ≡ 256 ^ k - suc (256 ^ k - suc n) = complement_low k (256 ^ k - suc n) le (omega (arith, lt)) in
          rw (le-ltb (2 * n) (256 ^ k) far, low) (omega (arith, lt))
    ]

-- ---- integers

pub range_is : (i : ℤ) → is_in_range i ≡ true → IsInRange i
range_is (pos n) h = ltb-true n (2 ^ 64) h
range_is (negsuc n) h = ltb-true n (2 ^ 63) h

pub range_test : (i : ℤ) → IsInRange i → is_in_range i ≡ true
range_test (pos n) h = lt-ltb n (2 ^ 64) h
range_test (negsuc n) h = lt-ltb n (2 ^ 63) h

pub integer_sound : (body : List ℕ) (i : ℤ) → AreBytes body → integer_at body ≡ Some i → IsInteger i body
unfolding integer_at
integer_sound body i all e =
    let k = length body in
    elim (chosen (ltb 9 k) _ _ _ e) [
      | inl p ↦ absurd (none_some i p.1)
      | inr p ↦
          let short : k ≤ 9 = ltb-false 9 k p.0 in
          let n = number_after 0 body in
          let read = signed (256 ^ k) n in
          elim (chosen (is_in_range read && eqb (width_of read) k) _ _ _ p.1) [
            | inr q ↦ absurd (none_some i q.1)
            | inl q ↦
                let same : read ≡ i = some_is read i q.1 in
                let tests = and_parts (is_in_range read) (eqb (width_of read) k) q.0 in
                let width : width_of read ≡ k = eqb-true (width_of read) k tests.1 in
                let below : n < 256 ^ k = omega (arith, number_below body 0 all) in
                let bits : of_z w128 read % 256 ^ k ≡ n = signed_bits k n (omega (arith, short)) below in
                let bytes : body ≡ complement_bytes k read =
                (number_unique body (complement_bytes k read) 0 0 (sym (length_high k (of_z w128 read))) all (high_bytes k (of_z w128 read))
                (sym (number_high k (of_z w128 read) ∙ bits))).1 in
                subst (λ (x : ℤ). IsInteger x body) same
                (record {
                  range = range_is read tests.0;
                  holds = subst (λ (w : ℕ). IsWithin w read) width (width_within read);
                  shortest = λ fewer lt h. absurd (omega (arith, width, lt, width_least fewer read h));
                  bytes = bytes;
                })
          ]
    ]

pub integer_again : (body : List ℕ) (i : ℤ) → IsInteger i body → integer_at body ≡ Some i
unfolding integer_at
integer_again body i h =
    let k = length body in
    let at_most : width_of i ≤ k = width_least k i h.holds in
    let width : width_of i ≡ k = least (cases_lt (width_of i) k) at_most in
    let short : k ≤ 9 = omega (arith, width, width_in_range i h.range) in
    let number : number_after 0 body ≡ of_z w128 i % 256 ^ k = ap (number_after 0) h.bytes ∙ number_high k (of_z w128 i) in
    let read : signed (256 ^ k) (number_after 0 body) ≡ i = ap (signed (256 ^ k)) number ∙ signed_back k i (omega (arith, short)) h.holds in
    rw (le-ltb 9 k short, read, range_test i h.range, eq-eqb (width_of i) k width) refl
  where
    least : (width_of i < length body) ⊎ (length body ≤ width_of i) → width_of i ≤ length body → width_of i ≡ length body
    least (inl lt) le = absurd (h.shortest (width_of i) lt (width_within i))
    least (inr ge) le = omega arith
