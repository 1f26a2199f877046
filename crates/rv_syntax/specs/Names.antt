-- Names, and tables of them.
use Rattle.std.specs.Prelude.{ℕ, ◌==◌, ◌&&◌, ◌||◌, Bool, false, cond, List, [], ◌∷◌, map, Option, None, Some}
use Rattle.std.specs.Borrow.{Bor}
use Rattle.std.specs.Char.{is_ascii_alphabetic, is_ascii_alphanumeric}
use Rattle.std.specs.List.{list_all}
use Rattle.std.specs.Str.{bytes_eq}

-- the rows of a table, each with the text of its name
abbrev pub rows : {A : Type 0} → List (Bor (List ℕ) × A) → List (List ℕ × A)
rows table = map (λ row. (row.0.now, row.1)) table

-- the meaning of a name: that of the first row which has it
abbrev pub lookup : {A : Type 0} → List (List ℕ × A) → List ℕ → Option A
lookup [] name = None
lookup (row ∷ table) name = cond (bytes_eq name row.0) (Some row.1) (lookup table name)

-- whether a name may begin with this byte: a letter or `_`
abbrev pub is_name_start : ℕ → Bool
is_name_start b = is_ascii_alphabetic b || b == 95

-- whether a name may go on with this byte: a letter, a digit or `_`
abbrev pub is_name_byte : ℕ → Bool
is_name_byte b = is_ascii_alphanumeric b || b == 95

-- whether a text may be a label: a letter or `_`, and then letters, digits and `_`
abbrev pub is_name : List ℕ → Bool
is_name [] = false
is_name (b ∷ bs) = is_name_start b && list_all is_name_byte bs
