-- How a path, and the text of a symlink, are split into components.
use Rattle.std.specs.Prelude.{ℕ, ◌+◌, ◌==◌, Bool, true, false, cond, List, [], ◌∷◌, ◌++◌, length, map}

-- the bytes `/` and `.`
abbrev pub slash : ℕ
slash = 47

abbrev pub dot : ℕ
dot = 46

-- A name in a text, and its place there: how many bytes stand before it, and how many bytes it has.
pub record Piece : Type 0 where
  pub name : List ℕ
  pub from : ℕ
  pub len : ℕ

-- a name that begins at a place
abbrev pub piece : ℕ → List ℕ → Piece
piece from name = record { name = name; from = from; len = length name }

-- the `.` that a slash at a text's end adds: it has the place where the text ends, and no byte of it
abbrev pub added_dot : ℕ → Piece
added_dot from = record { name = dot ∷ []; from = from; len = 0 }

-- a name, before others: a name of no bytes is passed over
abbrev pub with_name : ℕ → List ℕ → List Piece → List Piece
with_name from [] others = others
with_name from (b ∷ bs) others = piece from (b ∷ bs) ∷ others

-- what stands after a text's last slash: where it has no bytes, the slash adds a `.`
abbrev pub last_name : ℕ → List ℕ → List Piece
last_name from [] = added_dot from ∷ []
last_name from (b ∷ bs) = piece from (b ∷ bs) ∷ []

-- The names of a text from a place on, where these bytes of a name stand from there, and then the rest of the text. A slash
-- ends the name, and the next one begins after it.
abbrev pub names_from : ℕ → List ℕ → List ℕ → List Piece
names_from from begun [] = last_name from begun
names_from from begun (b ∷ rest) =
    cond (b == slash) (with_name from begun (names_from (from + length begun + 1) [] rest)) (names_from from (begun ++ b ∷ []) rest)

-- the names of a text, in order; a text of no bytes has none
abbrev pub names_of : List ℕ → List Piece
names_of [] = []
names_of (b ∷ rest) = names_from 0 [] (b ∷ rest)

-- a text that begins with a slash
abbrev pub is_absolute : List ℕ → Bool
is_absolute [] = false
is_absolute (b ∷ rest) = b == slash

-- A component of a walk: its name, its index in the path, whether it stands in the path itself (and not in the text of a
-- symlink), and its place in the text where it stands.
pub record Component : Type 0 where
  pub name : List ℕ
  pub index : ℕ
  pub is_in_path : Bool
  pub from : ℕ
  pub len : ℕ

-- the components of the path itself are counted, here from an index on
abbrev pub counted_from : ℕ → List Piece → List Component
counted_from index [] = []
counted_from index (p ∷ ps) =
    record { name = p.name; index = index; is_in_path = true; from = p.from; len = p.len } ∷ counted_from (index + 1) ps

abbrev pub path_components : List ℕ → List Component
path_components path = counted_from 0 (names_of path)

-- the components that the text of a symlink gives have all the index of the symlink
abbrev pub given_at : ℕ → Piece → Component
given_at index p = record { name = p.name; index = index; is_in_path = false; from = p.from; len = p.len }

abbrev pub text_components : ℕ → List ℕ → List Component
text_components index text = map (given_at index) (names_of text)
