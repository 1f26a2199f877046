-- A part of a quoted scalar in the program, as contracts speak of it.
use Rattle.std.specs.Prelude.{ℕ, Bool, true, false, List, [], ◌∷◌}
use Rattle.std.specs.Char.{encode_utf8}
use Rattle.launch_scalars.specs.declared.escapes.Piece.{Piece}
use Rattle.launch_scalars.specs.declared.escapes.Piece.TheVariants as pieces
use Rattle.launch_scalars.specs.declared.quoted.Part.{Part}
use Rattle.launch_scalars.specs.declared.quoted.Part.TheVariants as parts
use Rattle.launch_scalars.specs.Quoted.{Quoted, closed, unclosed, put, spoiled}

abbrev pub bytes_of : Piece → List ℕ
bytes_of (pieces.Byte b) = b ∷ []
bytes_of (pieces.Character c) = encode_utf8 c

-- a part at a place, and what is read of the bytes behind it
abbrev pub with_part : (List ℕ → Quoted) → ℕ → Part → List ℕ → Quoted
with_part read place parts.LineEnd rest = unclosed
with_part read place parts.Closing rest = closed rest
with_part read place (parts.Saying piece) rest = put (bytes_of piece) (read rest)
with_part read place parts.WrongEscape rest = spoiled place (read rest)

abbrev pub is_line_end : Part → Bool
is_line_end parts.LineEnd = true
is_line_end other = false
