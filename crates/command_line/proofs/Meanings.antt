-- What a parse finds stands for the settings.
use Rattle.std.proofs.Common.{◌≡◌, ◌≢◌, ◌∙◌, Bool, true, false, cond, List, [], ◌∷◌, map, Option, Some, None, codes, refl, sym, ap, subst, option_and_then, option_map, true≢false, IfSome}
use Rattle.std.specs.Prelude.{Result, string_bytes}
use Rattle.std.specs.Option.{ok_or}
use Rattle.std.specs.declared.string.String.{String}
use Rattle.std.specs.List.{list_all}
use Rattle.std.specs.Str.{bytes_eq}
use Rattle.std.proofs.lemmas.Str.{IsUtf8-string_bytes}
use Rattle.clap.specs.Faults.{fault_of}
use Rattle.clap.specs.Simple.{matches_of}
use Rattle.clap.specs.Values.{bool_text}
use Rattle.clap.specs.Walk.{first_of, one_of, rows_of}
use Rattle.clap.specs.Words.{first_value, one_text}
use Rattle.clap.specs.declared.parser.matches.Found.{Found}
use Rattle.clap.proofs.OnLiterals.{clap_on_literals}
use Rattle.clap.proofs.WalkLemmas.{first_value-rows, one_text-rows}
use Rattle.command_line.specs.Command.{launch_app}
use Rattle.command_line.specs.Found.{given_in}
use Rattle.command_line.specs.Pieces.{Piece, has, text_of}
use Rattle.command_line.specs.Settings.{Settings, settings_of, view}
use Rattle.command_line.specs.Values.{Word}
use Rattle.command_line.proofs.Loose.{loose_pieces_of}
use Rattle.command_line.specs.Reading.{given_by, settings_in, words_of, IfAt}
use Rattle.command_line.specs.declared.settings.LaunchSettings.{LaunchSettings}
use Rattle.command_line.specs.declared.reading.CommandLineFault.{CommandLineFault}
use Rattle.lists.specs.Options.{IsStopOf, Reads}
use Rattle.lists.specs.declared.stop.Stop.{Stop}
use Rattle.lists.specs.declared.stop.Stop.TheVariants.{At, Memory}
use Rattle.command_line.proofs.Finished.{end_rows, first_of_end, flag_end}
use Rattle.command_line.proofs.Hyphens.{same_settings}
use Rattle.command_line.proofs.Named.{is_named, pieces_of-names}
use Rattle.command_line.proofs.Steps.{passes}
use Rattle.command_line.proofs.Taking.{Verdict, faults, is_refused, is_taken, no_kinds, verdict}
use Rattle.command_line.proofs.Walking.{AreTexts}

pub texts_of : {Z : Type 0} (words : List (String Z)) → AreTexts (map string_bytes words)
texts_of [] = tt
texts_of (word ∷ words) = (IsUtf8-string_bytes word, texts_of words)

pub refused : (words : List Word) → AreTexts words → fault_of launch_app words ≢ [] → words_of words ≡ None
unfolding words_of
refused [] texts faulty = refl
refused (own ∷ words) texts faulty = same_settings words ∙ go (verdict words texts.1)
  where
    go : Verdict words → option_and_then settings_in (loose_pieces_of words) ≡ None
    go (is_refused passed none) = none
    go (is_taken pieces passed e distinct rows) = absurd (faulty (no_kinds (faults words) passed))

-- what is found, with the flag
abbrev pub Means : List Word → Found → Type 0
Means words found = (history : Bool) × (one_text found (codes "history") ≡ Some (bool_text history)) × (words_of words ≡ settings_of (given_in found history))

given_same : (found : Found) (pieces : List Piece) → rows_of found ≡ end_rows pieces → given_by pieces ≡ given_in found (has pieces (codes "history"))
given_same found pieces rows = λ i. record {
  program = at (codes "program") refl i;
  tree = at (codes "tree") refl i;
  stdin = at (codes "stdin") refl i;
  workers = at (codes "workers") refl i;
  turns = at (codes "turns") refl i;
  key = at (codes "key") refl i;
  epoch = at (codes "epoch") refl i;
  history = has pieces (codes "history");
}
  where
    at : (name : Word) → bytes_eq (codes "history") name ≡ false → text_of pieces name ≡ first_value found name
    at name h = sym (first_value-rows found name ∙ ap (first_of name) rows ∙ first_of_end pieces name h)

not_none : passes (fault_of launch_app []) ≡ false
unfolding clap_on_literals
not_none = refl

pub means : (words : List Word) → AreTexts words → fault_of launch_app words ≡ [] → (found : Found) → rows_of found ≡ matches_of launch_app words → Means words found
unfolding words_of
means [] texts faultless found rows = absurd (true≢false (sym (ap passes faultless) ∙ not_none))
means (own ∷ words) texts faultless found rows = go (verdict words texts.1)
  where
    go : Verdict words → Means (own ∷ words) found
    go (is_refused passed none) = absurd (true≢false (sym (ap passes faultless) ∙ passed))
    go (is_taken pieces passed e distinct end) =
        let names = subst (λ o. IfSome o (λ pieces. list_all is_named pieces ≡ true)) e (pieces_of-names words) in (
          has pieces (codes "history"),
          one_text-rows found (codes "history") ∙ ap (one_of (codes "history")) (rows ∙ end) ∙ flag_end pieces names,
          same_settings words ∙ ap (option_and_then settings_in) e ∙ ap (λ t. cond t (settings_of (given_by pieces)) None) distinct ∙ ap settings_of (given_same found pieces (rows ∙ end)),
        )

-- ---- the answer

-- a fault of words that aren't in the grammar
pub stopped : {F : Type 0} (words : List Word) (stop : Stop F) → AreTexts words → IfAt stop (fault_of launch_app words ≢ []) → IsStopOf stop (words_of words)
stopped words (At fault) texts faulty = refused words texts faulty
stopped words Memory texts faulty = tt

-- the settings that were made of what was found, or none
pub settings_read : (o : Option LaunchSettings) (r : Result LaunchSettings (Stop CommandLineFault)) (fault : CommandLineFault) (words : List Word) (s : Option Settings)
    → words_of words ≡ s → option_map view o ≡ s → r ≡ ok_or o (At fault) → Reads view r (words_of words)
settings_read None r fault words s is same e = subst (λ (r : Result LaunchSettings (Stop CommandLineFault)). Reads view r (words_of words)) (sym e) (is ∙ sym same)
settings_read (Some settings) r fault words s is same e = subst (λ (r : Result LaunchSettings (Stop CommandLineFault)). Reads view r (words_of words)) (sym e) (is ∙ sym same)
