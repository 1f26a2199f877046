-- What an escape takes are ASCII characters, and what it stands for is a character.
use Rattle.std.proofs.Common.{◌==◌, ◌≡◌, ℕ, zero, suc, ◌+◌, ◌-◌, ◌*◌, ◌/◌, ◌%◌, ◌^◌, ◌<◌, ◌≤◌, inl, inr, Bool, true, false, cond, ltb, not, ◌&&◌, ◌||◌, List, [], ◌∷◌, ◌++◌, drop, Option, Some, None, option_map, refl, ap, subst, ◌∙◌, arith}
use Rattle.std.specs.List.{AllByRecursion}
use Rattle.std.specs.Char.{encode_utf8, IsScalar}
use Rattle.std.specs.Str.{IsUtf8}
use Rattle.std.proofs.Math.Nat.{mul-le-mul_right, pow-succ'}
use Rattle.std.proofs.Math.Utf8.{low_scalar}
use Rattle.std.proofs.lemmas.Bool.Decides.{nat_tests}
use Rattle.std.proofs.lemmas.Str.{IsUtf8-encode, encode_ascii}
use Rattle.launch_scalars.specs.Quoted.{digit_of, with_digit, hexadecimal, is_escapable, character_of, letter_of, escape}
use Rattle.lists.proofs.Chosen.{chosen, some_is, none_some}

abbrev pub AreAscii : List ℕ → Type 0
AreAscii bytes = AllByRecursion (λ b. b < 128) bytes

abbrev pub AreNonzero : List ℕ → Type 0
AreNonzero bytes = AllByRecursion (λ b. 0 < b) bytes

-- ---- hexadecimal digits

digit_small : (b d : ℕ) → digit_of b ≡ Some d → (b < 128) × (d < 16)
digit_small b d e = elim (chosen (not (ltb b 48) && ltb b 58) _ _ _ e) [
  | inl p ↦
      let is = some_is (b - 48) d p.1 in
      let small : b < 58 = grind (arith, nat_tests, p.0) in
      (omega (arith, small), omega (arith, small, is))
  | inr p ↦ elim (chosen (not (ltb b 97) && ltb b 103) _ _ _ p.1) [
    | inl q ↦
        let is = some_is (b - 87) d q.1 in
        let small : b < 103 = grind (arith, nat_tests, q.0) in
        (omega (arith, small), omega (arith, small, is))
    | inr q ↦ elim (chosen (not (ltb b 65) && ltb b 71) _ _ _ q.1) [
      | inl r ↦
          let is = some_is (b - 55) d r.1 in
          let small : b < 71 = grind (arith, nat_tests, r.0) in
          (omega (arith, small), omega (arith, small, is))
      | inr r ↦ absurd (none_some d r.1)
    ]
  ]
]

no_number : (count m : ℕ) (bytes : List ℕ) → hexadecimal count None bytes ≡ Some m → ⊥
no_number zero m bytes e = none_some m e
no_number (suc count) m [] e = none_some m e
no_number (suc count) m (b ∷ bs) e = no_number count m bs e

pub record Taken (bytes rest : List ℕ) : Type 0 where
  pub front : List ℕ
  pub whole : bytes ≡ front ++ rest
  pub ascii : AreAscii front

power_more : (n count : ℕ) → 16 * n * 16 ^ count ≡ n * 16 ^ suc count
power_more n count = rw (pow-succ' 16 count) (grind arith)

abbrev pub DigitsTaken : ℕ → ℕ → ℕ → List ℕ → Type 0
DigitsTaken count n m bytes = Taken bytes (drop count bytes) × (m < suc n * 16 ^ count)

digits_taken : (count n m : ℕ) (bytes : List ℕ) → hexadecimal count (Some n) bytes ≡ Some m → DigitsTaken count n m bytes
digits_taken zero n m bytes e = (record { front = []; whole = refl; ascii = tt }, omega (arith, some_is n m e))
digits_taken (suc count) n m [] e = absurd (none_some m e)
digits_taken (suc count) n m (b ∷ bs) e = with_first (λ d h. digits_taken count (16 * n + d) m bs h) (digit_of b) refl e
  where
    with_first : ((d : ℕ) → hexadecimal count (Some (16 * n + d)) bs ≡ Some m → DigitsTaken count (16 * n + d) m bs) → (d : Option ℕ) → digit_of b ≡ d
        → hexadecimal count (with_digit (Some n) d) bs ≡ Some m → DigitsTaken (suc count) n m (b ∷ bs)
    with_first more None is h = absurd (no_number count m bs h)
    with_first more (Some d) is h =
        let small = digit_small b d is in
        let r = more d h in
        let left : suc (16 * n + d) ≤ 16 * suc n = omega (arith, small.1) in
        let right : suc (16 * n + d) * 16 ^ count ≤ 16 * suc n * 16 ^ count = mul-le-mul_right (16 ^ count) left in
        let same : 16 * suc n * 16 ^ count ≡ suc n * 16 ^ suc count = power_more (suc n) count in (
          record { front = b ∷ r.0.front; whole = ap (λ (xs : List ℕ). b ∷ xs) r.0.whole; ascii = (small.0, r.0.ascii) },
          omega (arith, r.1, right, same),
        )

-- ---- what an escape stands for

escapable_scalar : (n : ℕ) → is_escapable n ≡ true → n < 2 ^ 16 → IsScalar n
escapable_scalar n e small = grind (arith, nat_tests, e, small)

-- a character that was read
pub record Numbered (n : Option ℕ) (piece : List ℕ) : Type 0 where
  pub code : ℕ
  pub number : n ≡ Some code
  pub escapable : is_escapable code ≡ true
  pub character : encode_utf8 code ≡ piece

numbered_parts : (n : Option ℕ) (piece : List ℕ) → character_of n ≡ Some piece → Numbered n piece
numbered_parts None piece e = absurd (none_some piece e)
numbered_parts (Some n) piece e = elim (chosen (is_escapable n) _ _ _ e) [
  | inl p ↦ record { code = n; number = refl; escapable = p.0; character = some_is _ _ p.1 }
  | inr p ↦ absurd (none_some piece p.1)
]

-- what an option gives, with how many bytes it takes
taking_is : (count : ℕ) (o : Option (List ℕ)) (piece : List ℕ) (taken : ℕ) → option_map {U = List ℕ × ℕ} (λ c. (c, count)) o ≡ Some (piece, taken) → (o ≡ Some piece) × (count ≡ taken)
taking_is count None piece taken e = absurd (none_some (piece, taken) e)
taking_is count (Some c) piece taken e =
    let same = some_is (c, count) (piece, taken) e in
    let some_piece : List ℕ → Option (List ℕ) = λ xs. Some xs in
    (ap (λ (q : List ℕ × ℕ). some_piece q.0) same, ap (λ (q : List ℕ × ℕ). q.1) same)

-- what is read behind a backslash: ASCII characters, for a character
pub record Escaped (bytes piece after : List ℕ) : Type 0 where
  pub taken : Taken bytes after
  pub utf8 : IsUtf8 piece
  pub nonzero : AreNonzero piece

either_nonzero : (test : Bool) (xs ys : List ℕ) → AreNonzero xs → AreNonzero ys → AreNonzero (cond test xs ys)
either_nonzero true xs ys h k = h
either_nonzero false xs ys h k = k

encoded_nonzero : (n : ℕ) → 0 < n → AreNonzero (encode_utf8 n)
unfolding encode_utf8
encoded_nonzero n some =
    either_nonzero (ltb n 128) (n ∷ []) _ (some, tt) (either_nonzero (ltb n 2048) ((192 + n / 64) ∷ (128 + n % 64) ∷ []) _ (omega arith, (omega arith, tt))
    (either_nonzero (ltb n 65536) ((224 + n / 4096) ∷ (128 + n / 64 % 64) ∷ (128 + n % 64) ∷ []) ((240 + n / 262144) ∷ (128 + n / 4096 % 64) ∷ (128 + n / 64 % 64) ∷ (128 + n % 64) ∷ [])
    (omega arith, (omega arith, (omega arith, tt))) (omega arith, (omega arith, (omega arith, (omega arith, tt))))))

number_escaped : (count b : ℕ) (bs piece : List ℕ) (taken : ℕ) → 16 ^ count ≤ 2 ^ 16 → b < 128
    → option_map {U = List ℕ × ℕ} (λ c. (c, suc count)) (character_of (hexadecimal count (Some 0) bs)) ≡ Some (piece, taken) → Escaped (b ∷ bs) piece (drop taken (b ∷ bs))
number_escaped count b bs piece taken few small e =
    let is = taking_is (suc count) (character_of (hexadecimal count (Some 0) bs)) piece taken e in
    let n = numbered_parts (hexadecimal count (Some 0) bs) piece is.0 in
    let digits = digits_taken count 0 n.code bs n.number in
    let bound : n.code < 2 ^ 16 = omega (arith, digits.1, few) in
    record {
      taken = record {
        front = b ∷ digits.0.front;
        whole = ap (λ (xs : List ℕ). b ∷ xs) digits.0.whole ∙ ap (λ (k : ℕ). b ∷ digits.0.front ++ drop k (b ∷ bs)) is.1;
        ascii = (small, digits.0.ascii);
      };
      utf8 = subst IsUtf8 n.character (IsUtf8-encode n.code (escapable_scalar n.code n.escapable bound));
      nonzero = subst AreNonzero n.character (encoded_nonzero n.code (grind (arith, nat_tests, n.escapable)));
    }

letter_small : (b c : ℕ) → letter_of b ≡ Some c → (b < 128) × ((c < 128) × (0 < c))
letter_small b c e = elim (chosen ((b == 34) || (b == 92) || (b == 47)) _ _ _ e) [
  | inl p ↦
      let is = some_is b c p.1 in
      let small : b < 128 = grind (arith, nat_tests, p.0) in
      let some : 0 < b = grind (arith, nat_tests, p.0) in
      (small, (omega (arith, small, is), omega (arith, some, is)))
  | inr p ↦ elim (chosen (b == 110) _ _ _ p.1) [
    | inl q ↦ (grind (arith, nat_tests, q.0), (omega (arith, some_is 10 c q.1), omega (arith, some_is 10 c q.1)))
    | inr q ↦ elim (chosen (b == 116) _ _ _ q.1) [
      | inl r ↦ (grind (arith, nat_tests, r.0), (omega (arith, some_is 9 c r.1), omega (arith, some_is 9 c r.1)))
      | inr r ↦ elim (chosen (b == 114) _ _ _ r.1) [
        | inl s ↦ (grind (arith, nat_tests, s.0), (omega (arith, some_is 13 c s.1), omega (arith, some_is 13 c s.1)))
        | inr s ↦ absurd (none_some c s.1)
      ]
    ]
  ]
]

pub ascii_utf8 : (c : ℕ) → c < 128 → IsUtf8 (c ∷ [])
ascii_utf8 c small = subst IsUtf8 (encode_ascii c small) (IsUtf8-encode c (low_scalar c (omega (arith, small))))

letter_escaped : (b : ℕ) (bs piece : List ℕ) (taken : ℕ) (letter : Option ℕ) → letter_of b ≡ letter → option_map {U = List ℕ × ℕ} (λ c. (c ∷ [], 1)) letter ≡ Some (piece, taken)
    → Escaped (b ∷ bs) piece (drop taken (b ∷ bs))
letter_escaped b bs piece taken None is e = absurd (none_some (piece, taken) e)
letter_escaped b bs piece taken (Some c) is e =
    let small = letter_small b c is in
    let same = some_is (c ∷ [], 1) (piece, taken) e in
    record {
      taken = record { front = b ∷ []; whole = ap (λ (q : List ℕ × ℕ). b ∷ drop q.1 (b ∷ bs)) same; ascii = (small.0, tt) };
      utf8 = subst IsUtf8 (ap (λ (q : List ℕ × ℕ). q.0) same) (ascii_utf8 c small.1.0);
      nonzero = subst AreNonzero (ap (λ (q : List ℕ × ℕ). q.0) same) (small.1.1, tt);
    }

pub escape_read : (bytes piece : List ℕ) (taken : ℕ) → escape bytes ≡ Some (piece, taken) → Escaped bytes piece (drop taken bytes)
escape_read [] piece taken e = absurd (none_some (piece, taken) e)
escape_read (b ∷ bs) piece taken e = elim (chosen (b == 120) _ _ _ e) [
  | inl p ↦ number_escaped 2 b bs piece taken (omega arith) (grind (arith, nat_tests, p.0)) p.1
  | inr p ↦ elim (chosen (b == 117) _ _ _ p.1) [
    | inl q ↦ number_escaped 4 b bs piece taken (omega arith) (grind (arith, nat_tests, q.0)) q.1
    | inr q ↦ letter_escaped b bs piece taken (letter_of b) refl q.1
  ]
]
