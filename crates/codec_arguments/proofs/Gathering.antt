-- What is read so far, and what is left to read.
use Rattle.std.proofs.Common.{◌≡◌, ℕ, zero, suc, ◌+◌, ◌-◌, ◌%◌, ◌^◌, ◌<◌, List, [], ◌∷◌, ◌++◌, Option, option_map, Result, Ok, Err, refl, sym, ap, ◌∙◌, append_assoc, append-nil, arith}
use Rattle.codec_arguments.specs.Arrays.{array_at, in_front}

-- the values that were read, before those that are left, if they can be read
abbrev pub after_front : {X : Type 0} → List X → Option (List X) → Option (List X)
after_front front rest = option_map (λ xs. front ++ xs) rest

-- the values that were read, before those that are left, or the error of those
abbrev pub after_read : {X E : Type 0} → List X → Result (List X) E → Result (List X) E
after_read front (Ok rest) = Ok (front ++ rest)
after_read front (Err e) = Err e

-- nothing was read before
pub after_none : {X E : Type 0} (rest : Result (List X) E) → after_read [] rest ≡ rest
after_none (Ok xs) = refl
after_none (Err e) = refl

-- no element is left
pub none_left : {X E : Type 0} (element : ℕ → Result X E) (width : ℕ) (front : List X) (a n : ℕ) → n ≡ 0 → after_read front (array_at element width a n) ≡ Ok front
unfolding array_at
none_left element width front a zero e = ap Ok (append-nil front)
none_left element width front a (suc n) e = absurd (omega arith)

-- the next element can't be read
pub fault_left : {X E : Type 0} (element : ℕ → Result X E) (width : ℕ) (front : List X) (a n : ℕ) (e : E) → 0 < n → element a ≡ Err e → after_read front (array_at element width a n) ≡ Err e
unfolding array_at
fault_left element width front a zero e some h = absurd (omega arith)
fault_left element width front a (suc n) e some h = rw h refl

in_front_of : {X E : Type 0} (front : List X) (x : X) (rest : Result (List X) E) → after_read front (in_front (Ok x) rest) ≡ after_read (front ++ x ∷ []) rest
in_front_of front x (Ok xs) = ap Ok (sym (append_assoc front (x ∷ []) xs))
in_front_of front x (Err e) = refl

one_left : {X E : Type 0} (element : ℕ → Result X E) (width : ℕ) (front : List X) (x : X) (a n k : ℕ) → n ≡ suc k → element a ≡ Ok x
    → after_read front (array_at element width a n) ≡ after_read (front ++ x ∷ []) (array_at element width ((a + width) % 2 ^ 64) k)
unfolding array_at
one_left element width front x a zero k same h = absurd (omega arith)
one_left element width front x a (suc n) k same h =
    let last : n ≡ k = omega arith in
    rw h (in_front_of front x _ ∙ ap (λ j. after_read (front ++ x ∷ []) (array_at element width ((a + width) % 2 ^ 64) j)) last)

-- the next element is read
pub next_left : {X E : Type 0} (element : ℕ → Result X E) (width : ℕ) (front : List X) (x : X) (a count i : ℕ) → i < count → element a ≡ Ok x
    → after_read front (array_at element width a (count - i)) ≡ after_read (front ++ x ∷ []) (array_at element width ((a + width) % 2 ^ 64) (count - (i + 1)))
next_left element width front x a count i below h = one_left element width front x a (count - i) (count - (i + 1)) (omega arith) h
