-- The pieces, where `-` alone is a plain word. `clap` reads it so, and the values' own checks refuse it.
use Rattle.std.proofs.Common.{cond, not, ◌||◌, List, [], ◌∷◌, ◌++◌, map, Option, Some, codes, option_and_then, option_map}
use Rattle.std.specs.Str.{bytes_eq}
use Rattle.std.specs.Str.Parse.{starts_with_minus}
use Rattle.command_line.specs.Pieces.{Form, Piece, after_separator, before_separator, flag, option_form, option_names, other, plain, with_word}
use Rattle.command_line.specs.Values.{Word}

abbrev pub loose_form_of : Word → Form
loose_form_of word = cond (not (starts_with_minus word) || bytes_eq (codes "-") word) plain
    (cond (bytes_eq (codes "--history") word) flag (option_form option_names word))

abbrev pub loose_option_pieces : List Word → Option (List Piece)
loose_option_pieces [] = Some []
loose_option_pieces (word ∷ words) = option_and_then (with_word (loose_form_of word) word) (loose_option_pieces words)

abbrev pub loose_pieces_of : List Word → Option (List Piece)
loose_pieces_of words = option_map (λ pieces. pieces ++ map other (after_separator words)) (loose_option_pieces (before_separator words))
