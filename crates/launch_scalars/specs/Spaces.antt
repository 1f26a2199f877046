-- Spaces and comments in a line.
use Rattle.std.specs.Prelude.{ℕ, ◌==◌, ◌&&◌, if◌then◌else◌, nat_eq, Bool, false, List, [], ◌∷◌, length}
use Rattle.std.specs.List.{list_any}

-- a byte of these characters
abbrev pub is_one_of : List ℕ → ℕ → Bool
is_one_of characters b = list_any (nat_eq b) characters

-- the bytes begin with this one
abbrev pub begins_with : ℕ → List ℕ → Bool
begins_with b [] = false
begins_with b (c ∷ cs) = c == b

-- the bytes begin with one of these characters
abbrev pub begins_with_one_of : List ℕ → List ℕ → Bool
begins_with_one_of characters [] = false
begins_with_one_of characters (b ∷ bs) = is_one_of characters b

abbrev pub after_spaces : List ℕ → List ℕ
after_spaces [] = []
after_spaces (b ∷ bs) = if b == 32 then after_spaces bs else b ∷ bs

-- A comment goes to the line's end.
abbrev pub unless_comment : List ℕ → List ℕ
unless_comment [] = []
unless_comment (b ∷ bs) = if b == 35 then [] else b ∷ bs

-- What stands behind spaces. A `#` behind a space begins a comment; one right here doesn't.
abbrev pub after_gap : List ℕ → List ℕ
after_gap [] = []
after_gap (b ∷ bs) = if b == 32 then unless_comment (after_spaces bs) else b ∷ bs

-- the bytes without the spaces at their end
abbrev pub without_last_spaces : List ℕ → List ℕ
without_last_spaces [] = []
without_last_spaces (b ∷ bs) = if (b == 32) && (length (without_last_spaces bs) == 0) then [] else b ∷ without_last_spaces bs
