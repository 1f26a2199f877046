-- The command, as `clap` knows it.
use Rattle.std.specs.Prelude.{true, [], ◌∷◌, ◌++◌, Some, map, codes}
use Rattle.clap.specs.Simple.{on_top}
use Rattle.clap.specs.Words.{App, Rule, new_app, new_rule}
use Rattle.clap.specs.declared.builder.action.ArgAction.TheVariants.{SetTrue}
use Rattle.command_line.specs.Pieces.{option_names}
use Rattle.command_line.specs.Values.{Word}

abbrev pub option_argument : Word → Rule
option_argument name = record (new_rule name) { long = Some name }

abbrev pub history_argument : Rule
history_argument = record (option_argument (codes "history")) { action = Some SetTrue }

abbrev pub program_argument : Rule
program_argument = record (new_rule (codes "program")) { required = true }

-- a command that has no option for help, and these arguments
abbrev pub launch_app : App
launch_app = on_top (λ shape. record shape {
  disable_help_flag = true;
  rules = map option_argument option_names ++ history_argument ∷ program_argument ∷ [];
}) (new_app (codes "cloudabi-run"))
