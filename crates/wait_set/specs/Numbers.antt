-- Sets of numbers, each with room for so many.
--     Numbers      the numbers in their order, and for how many there is room
--     IsAscending xs      each number is below those behind it
--     BlockList      lists of numbers, one after another, and how many lists there may be
--     block used i      the list at i
--     room_of total      for how many numbers so many lists have room, where two neighbours have at least 33
--     HasSome used      none of the lists is empty
--     IsPlace used number i      the numbers in the lists before i are below the number, and those in the lists behind it above
--     IsJoined old new i      the lists at i and behind it are one, where they had at most 32 numbers; else they stay as they are
--     IsPacked used      the numbers of the lists ascend, none of these is empty, and two neighbours have at least 33 numbers
use Rattle.std.specs.Prelude.{◌≡◌, ◌⊎◌, ℕ, ◌<◌, ◌≤◌, ◌+◌, ◌-◌, ◌*◌, ◌++◌, true, List, [], length, take, drop, slice_index, slice_index_or, slice_set}
use Rattle.std.specs.List.{concat, remove}
use Rattle.maps.specs.Closure.{member}

pub record Numbers : Type 0 where
  pub list : List ℕ
  pub room : ℕ

pub record IsAscending (xs : List ℕ) : Type 0 where
  pub below : (i j : ℕ) → i < j → j < length xs → slice_index xs i < slice_index xs j

pub record BlockList : Type 0 where
  pub used : List (List ℕ)
  pub total : ℕ

abbrev pub block : List (List ℕ) → ℕ → List ℕ
block used i = slice_index_or used i []

abbrev pub room_of : ℕ → ℕ
room_of total = (total - 1) * 16

pub record IsPacked (used : List (List ℕ)) : Type 0 where
  pub ascending : IsAscending (concat used)
  pub some : (i : ℕ) → i < length used → 0 < length (block used i)
  pub many : (i : ℕ) → i + 1 < length used → 33 ≤ length (block used i) + length (block used (i + 1))

abbrev pub HasSome : List (List ℕ) → Type 0
HasSome used = (i : ℕ) → i < length used → 0 < length (block used i)

pub record IsPlace (used : List (List ℕ)) (number i : ℕ) : Type 0 where
  pub within : i < length used
  pub low : (u : ℕ) → member u (concat (take i used)) ≡ true → u < number
  pub high : (u : ℕ) → member u (concat (drop (i + 1) used)) ≡ true → number < u

abbrev pub joined_at : List (List ℕ) → ℕ → List (List ℕ)
joined_at used i = slice_set (remove used (i + 1)) i (block used i ++ block used (i + 1))

abbrev pub IsJoined : List (List ℕ) → List (List ℕ) → ℕ → Type 0
IsJoined old new i =
    ((new ≡ old) × (i + 1 < length old → 33 ≤ length (block old i) + length (block old (i + 1))))
    ⊎ ((new ≡ joined_at old i) × (i + 1 < length old))
