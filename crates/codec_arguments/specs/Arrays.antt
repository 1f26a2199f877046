-- Arrays in a guest's memory: elements of one width, each directly behind the one before.
use Rattle.std.specs.Prelude.{ℕ, zero, suc, ◌+◌, ◌%◌, ◌^◌, List, [], ◌∷◌, Result, Ok, Err}

-- an element and those behind it, or the first error of the two
abbrev pub in_front : {X E : Type 0} → Result X E → Result (List X) E → Result (List X) E
in_front (Ok x) (Ok xs) = Ok (x ∷ xs)
in_front (Ok x) (Err e) = Err e
in_front (Err e) rest = Err e

-- n elements of so many bytes each, from an address on, modulo 2^64; the first function gives the element at an address
unfoldable pub array_at : {X E : Type 0} → (ℕ → Result X E) → ℕ → ℕ → ℕ → Result (List X) E
array_at element width a zero = Ok []
array_at element width a (suc n) = in_front (element a) (array_at element width ((a + width) % 2 ^ 64) n)
