-- The inputs that settings ask for may be read, one by one.
use Rattle.std.proofs.Common.{ℕ, List, [], ◌∷◌, ◌++◌}
use Rattle.std.specs.Prelude.{Option, None, Some}
use Rattle.std.specs.List.{All}
use Rattle.std.specs.Option.{option_to_list}
use Rattle.std.proofs.lemmas.List.Elements.{All-nil, All-cons, All-head, All-tail}
use Rattle.command_line.specs.Settings.{Settings}
use Rattle.launch_reading.specs.Launch.{standard_input, settings_inputs}

pub record MayRead (P : List ℕ → Type 0) (settings : Settings) : Type 0 where
  pub program : P settings.program
  pub text : P standard_input
  pub tree : All P (option_to_list settings.tree)
  pub stdin : All P (option_to_list settings.stdin)

module _ (P : List ℕ → Type 0) where
  behind : (o : Option (List ℕ)) (rest : List (List ℕ)) → All P (option_to_list o ++ rest) → All P (option_to_list o) × All P rest
  behind None rest h = (All-nil P, h)
  behind (Some name) rest h = (All-cons P name [] (All-head P name rest h) (All-nil P), All-tail P name rest h)

  pub each_may_read : (settings : Settings) → All P (settings_inputs settings) → MayRead P settings
  each_may_read settings h =
      let optional = option_to_list settings.tree ++ option_to_list settings.stdin in
      let more = All-tail P settings.program (standard_input ∷ optional) h in
      let both = behind settings.tree (option_to_list settings.stdin) (All-tail P standard_input optional more) in
      record {
        program = All-head P settings.program (standard_input ∷ optional) h;
        text = All-head P standard_input optional more;
        tree = both.0;
        stdin = both.1;
      }
