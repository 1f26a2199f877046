-- What a plain scalar looks like: the numbers of YAML's core schema.
use Rattle.std.specs.Prelude.{ℕ, ℤ, pos, negsuc, neg_ℤ, ◌^◌, ◌+◌, ◌*◌, ◌==◌, ◌&&◌, ◌||◌, not, if◌then◌else◌, nat_lt, nat_eq, Bool, true, false, List, [], ◌∷◌, length, drop, codes, Option, Some, None}
use Rattle.std.specs.List.{list_any, starts_with}
use lib.Pointwise.{pointwise}
use Rattle.launch_scalars.specs.Spaces.{begins_with, begins_with_one_of}
use Rattle.launch_scalars.specs.Quoted.{digit_of}

-- the scalar is one of these words
abbrev pub is_word : List (List ℕ) → List ℕ → Bool
is_word words bytes = list_any (pointwise nat_eq bytes) words

-- a byte is a digit in this base, of at most 16
abbrev pub is_below : ℕ → Option ℕ → Bool
is_below base None = false
is_below base (Some digit) = nat_lt digit base

abbrev pub is_digit : ℕ → ℕ → Bool
is_digit base b = is_below base (digit_of b)

-- digits alone
abbrev pub all_digits : ℕ → List ℕ → Bool
all_digits base [] = true
all_digits base (b ∷ bs) = is_digit base b && all_digits base bs

-- one digit or more
abbrev pub are_digits : ℕ → List ℕ → Bool
are_digits base bytes = not (length bytes == 0) && all_digits base bytes

abbrev pub digit_value : Option ℕ → ℕ
digit_value None = 0
digit_value (Some digit) = digit

-- the number that digits make behind a number
abbrev pub number_behind : ℕ → ℕ → List ℕ → ℕ
number_behind base n [] = n
number_behind base n (b ∷ bs) = number_behind base (base * n + digit_value (digit_of b)) bs

abbrev pub without_sign : List ℕ → List ℕ
without_sign bytes = if begins_with_one_of (codes "+-") bytes then drop 1 bytes else bytes

-- the integer that a scalar of an integer's form stands for; none, where it has another form
abbrev pub integer_of : List ℕ → Option ℤ
integer_of bytes =
    if are_digits 10 (without_sign bytes)
    then Some (if begins_with 45 bytes then neg_ℤ (pos (number_behind 10 0 (drop 1 bytes))) else pos (number_behind 10 0 (without_sign bytes)))
    else if starts_with nat_eq bytes (codes "0x") && are_digits 16 (drop 2 bytes) then Some (pos (number_behind 16 0 (drop 2 bytes)))
    else if starts_with nat_eq bytes (codes "0o") && are_digits 8 (drop 2 bytes) then Some (pos (number_behind 8 0 (drop 2 bytes)))
    else None

-- from -2^63 to 2^64 - 1
abbrev pub is_in_range : ℤ → Bool
is_in_range (pos n) = nat_lt n (2 ^ 64)
is_in_range (negsuc n) = nat_lt n (2 ^ 63)

-- the integer, unless it is out of range
abbrev pub if_in_range : ℤ → Option ℤ
if_in_range i = if is_in_range i then Some i else None

abbrev pub after_digits : List ℕ → List ℕ
after_digits [] = []
after_digits (b ∷ bs) = if is_digit 10 b then after_digits bs else b ∷ bs

-- an exponent, or nothing
abbrev pub is_exponent_or_end : List ℕ → Bool
is_exponent_or_end [] = true
is_exponent_or_end (b ∷ bs) = ((b == 101) || (b == 69)) && are_digits 10 (without_sign bs)

-- whether there are digits at the front
abbrev pub has_digits : List ℕ → Bool
has_digits bytes = nat_lt (length (after_digits bytes)) (length bytes)

-- decimal digits with a point or an exponent
abbrev pub is_fraction : List ℕ → Bool
is_fraction bytes =
    if begins_with 46 (after_digits bytes)
    then (has_digits bytes || has_digits (drop 1 (after_digits bytes))) && is_exponent_or_end (after_digits (drop 1 (after_digits bytes)))
    else has_digits bytes && is_exponent_or_end (after_digits bytes)

-- a number that isn't an integer. Integers have this form too.
abbrev pub is_float : List ℕ → Bool
is_float bytes =
    is_fraction (without_sign bytes)
    || is_word (codes ".inf" ∷ codes ".Inf" ∷ codes ".INF" ∷ []) (without_sign bytes)
    || is_word (codes ".nan" ∷ codes ".NaN" ∷ codes ".NAN" ∷ []) bytes
