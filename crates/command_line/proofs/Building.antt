-- The command, argument by argument.
use Rattle.std.proofs.Common.{◌≡◌, ◌∙◌, false, true, ap, ap₂, codes}
use Rattle.clap.specs.Simple.{app_of_fields, on_top}
use Rattle.clap.specs.Words.{AddsArg, App, Rule, app_of, new_app, rule_of, with_rule}
use Rattle.clap.specs.declared.builder.arg.Arg.{Arg}
use Rattle.clap.specs.declared.builder.command.Command.{Command}
use Rattle.clap.specs.declared.builder.command.Command.TheViews.{out-Command}
use Rattle.command_line.specs.Command.{option_argument}
use Rattle.command_line.specs.Values.{Word}

abbrev pub bare : App
bare = on_top (λ shape. record shape { disable_help_flag = true }) (new_app (codes "cloudabi-run"))

pub without_help : (old new : Command) → app_of old ≡ new_app (codes "cloudabi-run") → out-Command new ≡ record (out-Command old) { disable_help_flag = true }
    → app_of new ≡ bare
without_help old new is e = ap app_of_fields e ∙ ap (on_top (λ shape. record shape { disable_help_flag = true })) is

pub with_argument : (old new : Command) (arg : Arg) (a : App) (rule : Rule) → app_of old ≡ a → rule_of arg ≡ rule → arg.global ≡ false → AddsArg old arg new
    → app_of new ≡ with_rule a rule
with_argument old new arg a rule is rule_is local adds = adds.shape local ∙ ap₂ with_rule is rule_is

pub with_option : (old new : Command) (arg : Arg) (a : App) (name : Word) → app_of old ≡ a → rule_of arg ≡ option_argument name → arg.global ≡ false → AddsArg old arg new
    → app_of new ≡ with_rule a (option_argument name)
with_option old new arg a name is rule_is local adds = with_argument old new arg a (option_argument name) is rule_is local adds
