-- What holds of all words.
use Rattle.std.specs.Prelude.{◌≡◌, true, false, List, [], ◌∷◌, ◌++◌, codes, replicate, Some, None}
use Rattle.std.specs.List.{list_any}
use Rattle.std.specs.Str.{bytes_eq}
use Rattle.std.specs.Str.Parse.{starts_with_minus}
use Rattle.command_line.specs.Pieces.{is_separator, option_names}
use Rattle.command_line.specs.Settings.{Settings}
use Rattle.command_line.specs.Values.{Word, is_file}
use Rattle.command_line.specs.Reading.{words_of}

-- the settings where nothing but a program is given
abbrev pub defaults : Word → Settings
defaults program = record {
  program = program;
  tree = None;
  stdin = None;
  workers = 4;
  turns = 100000;
  key = replicate 32 0;
  epoch = 0;
  history = false;
}

-- Behind `--` any word that may name a file is the program's name.
abbrev pub SeparatorEndsOptions : Type 0
SeparatorEndsOptions = (own word : Word) → is_file word ≡ true → words_of (own ∷ codes "--" ∷ word ∷ []) ≡ Some (defaults word)

-- `--name value` and `--name=value` mean the same.
abbrev pub FormsAgree : Type 0
FormsAgree = (own name value : Word) (before after : List Word) → list_any is_separator before ≡ false → list_any (λ option. bytes_eq option name) option_names ≡ true → starts_with_minus value ≡ false
    → words_of (own ∷ (before ++ (codes "--" ++ name) ∷ value ∷ after)) ≡ words_of (own ∷ (before ++ (codes "--" ++ name ++ codes "=" ++ value) ∷ after))

-- words that ask for help or the version
abbrev pub help_words : List Word
help_words = codes "-h" ∷ codes "--help" ∷ codes "-V" ∷ codes "--version" ∷ []

-- Nothing answers them: before `--` they are refused in any place.
abbrev pub HelpIsRefused : Type 0
HelpIsRefused = (own word : Word) (before after : List Word) → list_any is_separator before ≡ false → list_any (λ help. bytes_eq help word) help_words ≡ true
    → words_of (own ∷ (before ++ word ∷ after)) ≡ None
