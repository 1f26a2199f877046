-- The bytes of a piece of the output.
use Rattle.std.specs.Prelude.{ℕ, List, [], ◌++◌, replicate, Option, None, Some}
use Rattle.std.specs.Int.{w8, w32, w64, to_le_bytes}
use Rattle.rv_asm.specs.declared.piece.Piece.{Piece}
use Rattle.rv_asm.specs.declared.piece.Piece.TheVariants.{Empty, Byte, Word, Dword, Pair, Zeros, Text}
use Rattle.rv_asm.specs.Items.{Item, AreBytesOf}

abbrev pub piece_bytes : Piece → List ℕ
piece_bytes Empty = []
piece_bytes (Byte n) = to_le_bytes w8 n
piece_bytes (Word n) = to_le_bytes w32 n
piece_bytes (Dword n) = to_le_bytes w64 n
piece_bytes (Pair first second) = to_le_bytes w32 first ++ to_le_bytes w32 second
piece_bytes (Zeros n) = replicate n 0
piece_bytes (Text text) = text.now

-- A piece has bytes of what a line stands for, and there is no piece where the line is outside the grammar.
abbrev pub PieceIs : Option Piece → Option Item → Type 0
PieceIs None None = Unit {0}
PieceIs (Some piece) (Some item) = AreBytesOf item (piece_bytes piece)
PieceIs _ _ = ⊥
