-- The words that a run is called with:
-- `cloudabi-run [--tree FILE] [--stdin FILE] [--workers N] [--turns N] [--key HEX] [--epoch NS] [--history] PROGRAM`.
use Rattle.std.specs.Prelude.{⊤, List, [], ◌∷◌, map, codes, Option, None, if◌then◌else◌, option_and_then}
use Rattle.lists.specs.declared.stop.Stop.{Stop}
use Rattle.lists.specs.declared.stop.Stop.TheVariants.{At, Memory}
use Rattle.command_line.specs.Pieces.{Piece, are_distinct, has, label, pieces_of, text_of}
use Rattle.command_line.specs.Settings.{Given, Settings, settings_of}
use Rattle.command_line.specs.Values.{Word}

abbrev pub given_by : List Piece → Given
given_by pieces = record {
  program = text_of pieces (codes "program");
  tree = text_of pieces (codes "tree");
  stdin = text_of pieces (codes "stdin");
  workers = text_of pieces (codes "workers");
  turns = text_of pieces (codes "turns");
  key = text_of pieces (codes "key");
  epoch = text_of pieces (codes "epoch");
  history = has pieces (codes "history");
}

-- the settings of pieces, of which no two are of one option, of the flag or of the program
abbrev pub settings_in : List Piece → Option Settings
settings_in pieces = if are_distinct (map label pieces) then settings_of (given_by pieces) else None

-- The settings that words stand for, or nothing. The first word is the running program's own name and is not looked at.
unfoldable pub words_of : List Word → Option Settings
words_of [] = None
words_of (own ∷ words) = option_and_then settings_in (pieces_of words)

-- this holds where reading stopped for a fault
abbrev pub IfAt : {F : Type 0} → Stop F → Type 0 → Type 0
IfAt (At fault) P = P
IfAt Memory P = ⊤
