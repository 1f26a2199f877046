-- What random bytes of one key and one stream have to do with each other.
use Rattle.std.specs.Prelude.{◌≡◌, ◌≤◌, ℕ, ◌+◌, ◌*◌, List, ◌++◌, length, take}
use Rattle.clock_random.specs.Random.{random_bytes}

-- There are as many as are asked for.
abbrev pub IsWhole : Type 0
IsWhole = (key : List ℕ) (stream place n : ℕ) → length (random_bytes key stream place n) ≡ n

-- A longer draw begins with a shorter one from the same place.
abbrev pub BeginsAlike : Type 0
BeginsAlike =
    (key : List ℕ) (stream place m n : ℕ) → m ≤ n
    → take m (random_bytes key stream place n) ≡ random_bytes key stream place m

-- A draw of whole words and one from the place behind it are one draw.
abbrev pub GoesOn : Type 0
GoesOn =
    (key : List ℕ) (stream place words n : ℕ)
    → random_bytes key stream place (4 * words + n)
    ≡ random_bytes key stream place (4 * words) ++ random_bytes key stream (place + words) n
