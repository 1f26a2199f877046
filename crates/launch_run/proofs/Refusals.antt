-- A refusal of settings or of words, as the top call answers it.
use Rattle.std.proofs.Common.{◌≢◌, ℕ, List, subst}
use Rattle.std.specs.Prelude.{Some, Err, Contains}
use Rattle.input_output.specs.Source.{InputContent}
use Rattle.command_line.specs.Settings.{Settings}
use Rattle.launch_reading.specs.Inputs.{IsNoLaunchOf}
use Rattle.launch_reading.specs.Launch.{Described, refuses, inputs_describe, settings_inputs, AnswersDescribed, IfInput, IfTooLong, IsOfTexts, IsKnownAs}
use Rattle.launch_reading.specs.Refusal.{line_of, status_of}
use Rattle.launch_run.specs.TopCall.{IsRefusalOf}
use Rattle.launch_reading.specs.declared.refusal.LaunchRefusal.{LaunchRefusal}
use Rattle.launch_reading.specs.declared.refusal.LaunchRefusal.TheVariants.{Words, Input, TooLong, Program, Tree, LaunchText, Memory}

-- settings that were read are not refused for their words
pub not_words : (names : List (List ℕ)) (described : Described) (rose : Type 0) (r : LaunchRefusal) → IsNoLaunchOf names described rose r → r ≢ Words
not_words names described rose r h is = subst (IsNoLaunchOf names described rose) is h

module _ (settings : Settings) (content : List ℕ → InputContent) (rose : Type 0) where
  -- a refusal of what texts say
  of_text : (r : LaunchRefusal) → IsNoLaunchOf (settings_inputs settings) (inputs_describe settings content) rose r → IsOfTexts r
      → IsKnownAs (inputs_describe settings content) (refuses (status_of r) (line_of r))
  of_text Words h text = absurd h
  of_text (Input name) h text = absurd text
  of_text (TooLong name) h text = h.1
  of_text (Program found) h text = h
  of_text (Tree byte) h text = h
  of_text (LaunchText fault) h text = h
  of_text Memory h text = absurd text

  of_input : (r : LaunchRefusal) → IsNoLaunchOf (settings_inputs settings) (inputs_describe settings content) rose r
      → IfInput r (λ name. Contains (settings_inputs settings) name × rose)
  of_input Words h = absurd h
  of_input (Input name) h = h
  of_input (TooLong name) h = tt
  of_input (Program found) h = tt
  of_input (Tree byte) h = tt
  of_input (LaunchText fault) h = tt
  of_input Memory h = tt

  of_length : (r : LaunchRefusal) → IsNoLaunchOf (settings_inputs settings) (inputs_describe settings content) rose r → IfTooLong r (Contains (settings_inputs settings))
  of_length Words h = absurd h
  of_length (Input name) h = tt
  of_length (TooLong name) h = h.0
  of_length (Program found) h = tt
  of_length (Tree byte) h = tt
  of_length (LaunchText fault) h = tt
  of_length Memory h = tt

  pub settings_refused : (r : LaunchRefusal) → IsNoLaunchOf (settings_inputs settings) (inputs_describe settings content) rose r
      → (¬ rose → AnswersDescribed (inputs_describe settings content) (Err r)) → IsRefusalOf (Some settings) content rose r
  settings_refused r h complete = record {
    words_refused = λ is. absurd (not_words (settings_inputs settings) (inputs_describe settings content) rose r h is);
    words_answered = λ none. absurd (cc);
    input = of_input r h;
    too_long = of_length r h;
    refused = of_text r h;
    complete = complete;
  }
