-- What a parse found.
use Rattle.std.specs.Prelude.{Bool, codes}
use Rattle.clap.specs.Words.{first_value}
use Rattle.clap.specs.declared.parser.matches.Found.{Found}
use Rattle.command_line.specs.Settings.{Given}

-- what is given, with the flag as it is
abbrev pub given_in : Found → Bool → Given
given_in found history = record {
  program = first_value found (codes "program");
  tree = first_value found (codes "tree");
  stdin = first_value found (codes "stdin");
  workers = first_value found (codes "workers");
  turns = first_value found (codes "turns");
  key = first_value found (codes "key");
  epoch = first_value found (codes "epoch");
  history = history;
}
