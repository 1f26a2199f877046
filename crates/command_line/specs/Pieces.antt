-- The words of a run, behind the program's own name, as pieces: an option with its value, the flag, or another word.
use Rattle.std.specs.Prelude.{◌==◌, ◌&&◌, not, Bool, true, List, [], ◌∷◌, ◌++◌, map, codes, Option, Some}
use Rattle.std.specs.Prelude.{None, find, if◌then◌else◌, option_and_then, option_map, unwrap_or}
use Rattle.std.specs.List.{list_any}
use Rattle.std.specs.Str.{bytes_eq}
use Rattle.std.specs.Str.Parse.{starts_with_minus}
use Rattle.command_line.specs.Values.{Word}

-- the options that have a value
abbrev pub option_names : List Word
option_names =
    codes "tree" ∷ codes "stdin" ∷ codes "workers" ∷ codes "turns" ∷ codes "key" ∷ codes "epoch" ∷ []

-- ---- one word

pub data Form : Type 0 where
  -- `--name=value`
  assigned : Word → Word → Form
  -- `--name`, whose value is the next word
  named : Word → Form
  -- `--history`
  flag : Form
  -- a word that doesn't begin with `-`
  plain : Form
  -- another word that begins with `-`
  unknown : Form

-- the rest of a word that begins with a text, if it does
abbrev pub after_prefix : Word → Word → Option Word
after_prefix [] word = Some word
after_prefix (c ∷ cs) [] = None
after_prefix (c ∷ cs) (b ∷ bs) = if b == c then after_prefix cs bs else None

-- `--name` or `--name=value`, of an option's name
abbrev pub form_as : Word → Word → Option Form
form_as name word = if bytes_eq (codes "--" ++ name) word then Some (named name)
    else option_map (assigned name) (after_prefix (codes "--" ++ name ++ codes "=") word)

-- the same of the first of some names for which the word is that
abbrev pub option_form : List Word → Word → Form
option_form [] word = unknown
option_form (name ∷ names) word = unwrap_or (form_as name word) (option_form names word)

-- what a word before `--` is by itself
abbrev pub form_of : Word → Form
form_of word = if not (starts_with_minus word) then plain
    else (if bytes_eq (codes "--history") word then flag else option_form option_names word)

-- ---- the words

pub data Piece : Type 0 where
  -- an option of this name, with this value
  option : Word → Word → Piece
  -- the flag
  history : Piece
  -- another word
  other : Word → Piece

-- an option takes the other word that stands behind it as its value
abbrev pub with_value : Word → List Piece → Option (List Piece)
with_value name (other value ∷ rest) = Some (option name value ∷ rest)
with_value name _ = None

-- the pieces of a word and of those behind it
abbrev pub with_word : Form → Word → List Piece → Option (List Piece)
with_word (assigned name value) word rest = Some (option name value ∷ rest)
with_word (named name) word rest = with_value name rest
with_word flag word rest = Some (history ∷ rest)
with_word plain word rest = Some (other word ∷ rest)
with_word unknown word rest = None

-- the pieces of words before `--`, from the last word on
abbrev pub option_pieces : List Word → Option (List Piece)
option_pieces [] = Some []
option_pieces (word ∷ words) = option_and_then (with_word (form_of word) word) (option_pieces words)

-- the words before the first `--`, and those behind it
abbrev pub is_separator : Word → Bool
is_separator word = bytes_eq word (codes "--")

abbrev pub before_separator : List Word → List Word
before_separator [] = []
before_separator (word ∷ words) = if is_separator word then [] else word ∷ before_separator words

abbrev pub after_separator : List Word → List Word
after_separator [] = []
after_separator (word ∷ words) = if is_separator word then words else after_separator words

-- the pieces of all words: behind `--` each is just a word
abbrev pub pieces_of : List Word → Option (List Piece)
pieces_of words = option_map (λ pieces. pieces ++ map other (after_separator words))
    (option_pieces (before_separator words))

-- ---- what pieces give

-- an option's name, `history`, or `program` for another word
abbrev pub label : Piece → Word
label (option name value) = name
label history = codes "history"
label (other word) = codes "program"

-- an option's value, or the word
abbrev pub text : Piece → Word
text (option name value) = value
text history = []
text (other word) = word

-- no label stands twice: each option, the flag and the program's name stand at most once
abbrev pub are_distinct : List Word → Bool
are_distinct [] = true
are_distinct (word ∷ words) = not (list_any (bytes_eq word) words) && are_distinct words

-- the text of the first piece with this label, if there is one
abbrev pub text_of : List Piece → Word → Option Word
text_of pieces name = option_map text (find (λ piece. bytes_eq (label piece) name) pieces)

-- whether a piece has this label
abbrev pub has : List Piece → Word → Bool
has pieces name = list_any (λ piece. bytes_eq (label piece) name) pieces
