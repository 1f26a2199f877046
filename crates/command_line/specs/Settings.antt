-- The settings of a run, and what is given for them.
use Rattle.std.specs.Prelude.{ℕ, ◌≡◌, ◌≤◌, ◌^◌, Bool, true, IfSome, List, replicate, Option, Some, None, option_and_then, option_map}
use Rattle.command_line.specs.declared.settings.LaunchSettings.{LaunchSettings}
use Rattle.command_line.specs.Values.{Word, file_of, is_file, key_of, number_of}

pub record Settings : Type 0 where
  pub program : Word
  pub tree : Option Word
  pub stdin : Option Word
  pub workers : ℕ
  pub turns : ℕ
  pub key : List ℕ
  pub epoch : ℕ
  pub history : Bool

abbrev pub view : LaunchSettings → Settings
view settings = record {
  program = settings.program.now;
  tree = option_map (λ name. name.now) settings.tree;
  stdin = option_map (λ name. name.now) settings.stdin;
  workers = settings.workers;
  turns = settings.turns;
  key = settings.key;
  epoch = settings.epoch;
  history = settings.history;
}

-- the files have names, and the numbers are in their ranges
pub record IsWithin (settings : Settings) : Type 0 where
  pub program : is_file settings.program ≡ true
  pub tree : IfSome settings.tree (λ name. is_file name ≡ true)
  pub stdin : IfSome settings.stdin (λ name. is_file name ≡ true)
  pub workers : (1 ≤ settings.workers) × (settings.workers ≤ 64)
  pub turns : (1 ≤ settings.turns) × (settings.turns ≤ 1000000000)
  pub epoch : settings.epoch ≤ 2 ^ 62

-- the words that are given, and whether the flag is
pub record Given : Type 0 where
  pub program : Option Word
  pub tree : Option Word
  pub stdin : Option Word
  pub workers : Option Word
  pub turns : Option Word
  pub key : Option Word
  pub epoch : Option Word
  pub history : Bool

infixl 10 ◌>>=◌
abbrev pub ◌>>=◌ : {A B : Type 0} → Option A → (A → Option B) → Option B
o >>= f = option_and_then f o

-- what a given word stands for, or nothing where none is given
abbrev pub optional : {A : Type 0} → (Word → Option A) → Option Word → Option (Option A)
optional meaning None = Some None
optional meaning (Some word) = option_map (λ a. Some a) (meaning word)

-- what a given word stands for, or the default
abbrev pub or_default : {A : Type 0} → A → (Word → Option A) → Option Word → Option A
or_default a meaning None = Some a
or_default a meaning (Some word) = meaning word

-- the settings, where each given word is one that its option may have
unfoldable pub settings_of : Given → Option Settings
settings_of given = do
  program ← given.program >>= file_of
  tree ← optional file_of given.tree
  stdin ← optional file_of given.stdin
  workers ← or_default 4 (number_of 1 64) given.workers
  turns ← or_default 100000 (number_of 1 1000000000) given.turns
  key ← or_default (replicate 32 0) key_of given.key
  epoch ← or_default 0 (number_of 0 (2 ^ 62)) given.epoch
  Some (record {
    program = program;
    tree = tree;
    stdin = stdin;
    workers = workers;
    turns = turns;
    key = key;
    epoch = epoch;
    history = given.history;
  })
