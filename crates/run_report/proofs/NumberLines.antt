-- The lines of numbers, one more.
use Rattle.std.proofs.Common.{◌≡◌, ℕ, zero, suc, ◌+◌, List, [], ◌∷◌, ◌++◌, take, refl, ap, sym, ◌∙◌, append_assoc}
use Rattle.std.specs.List.{flat_map, slice_get}
use Rattle.std.proofs.lemmas.List.{append-nil}
use Rattle.std.proofs.Math.Numerals.{add-one}
use Rattle.abi_types.specs.CallNumbers.{all_calls}
use Rattle.abi_types.specs.declared.call_number.CallNumber.{CallNumber}
use Rattle.run_types.specs.declared.history.Entry.{Entry}
use Rattle.run_report.specs.Counts.{number_line, number_lines, place_line}

module _ (history : List Entry) where
  next_line : (place : ℕ) (numbers : List CallNumber) → flat_map (number_line history) (take (suc place) numbers)
      ≡ flat_map (number_line history) (take place numbers) ++ place_line history (slice_get numbers place)
  next_line zero [] = refl
  next_line zero (number ∷ numbers) = append-nil (number_line history number)
  next_line (suc place) [] = refl
  next_line (suc place) (number ∷ numbers) =
      ap (λ (text : List ℕ). number_line history number ++ text) (next_line place numbers)
      ∙ sym (append_assoc (number_line history number) (flat_map (number_line history) (take place numbers)) (place_line history (slice_get numbers place)))

  -- the lines so far, and the next one
  pub lines_more : (before text after : List ℕ) (place : ℕ) → text ≡ before ++ flat_map (number_line history) (take place all_calls)
      → after ≡ text ++ place_line history (slice_get all_calls place)
      → after ≡ before ++ flat_map (number_line history) (take (place + 1) all_calls)
  lines_more before text after place so_far put =
      put ∙ ap (λ t. t ++ place_line history (slice_get all_calls place)) so_far
      ∙ append_assoc before (flat_map (number_line history) (take place all_calls)) (place_line history (slice_get all_calls place))
      ∙ ap (λ t. before ++ t) (sym (next_line place all_calls) ∙ ap (λ n. flat_map (number_line history) (take n all_calls)) (sym (add-one place)))

  pub all_lines : (before text : List ℕ) (place : ℕ) → place ≡ 49 → text ≡ before ++ flat_map (number_line history) (take place all_calls)
      → text ≡ before ++ number_lines history
  unfolding number_lines
  all_lines before text place last is = is ∙ ap (λ n. before ++ flat_map (number_line history) (take n all_calls)) last
