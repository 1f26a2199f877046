-- Lines under the line with their number: those of the history's entries, and those of denied calls.
use Rattle.std.proofs.Common.{◌≡◌, ℕ, List, [], ◌∷◌, ◌++◌, length, codes, ap, ◌∙◌, append_assoc}
use Rattle.std.specs.Fmt.{decimal}
use Rattle.std.specs.List.{flat_map}
use Rattle.run_types.specs.declared.history.Entry.{Entry}
use Rattle.denied_calls.specs.declared.denied_call.DeniedCall.{DeniedCall}
use Rattle.run_report.specs.Denials.{denial_line, listed_denials}
use Rattle.run_report.specs.HistoryLines.{entry_text, history_text}

pub regroup : (a b c d e : List ℕ) → (a ++ (b ++ (c ++ d))) ++ e ≡ a ++ (b ++ (c ++ (d ++ e)))
regroup a b c d e = simp append_assoc

-- the first line was put behind a text, and then the others
pub history_reported : (before line with_line all : List ℕ) (history : List Entry) (count : ℕ) → count ≡ length history
    → line ≡ codes "== history " ++ (decimal count ++ 10 ∷ []) → with_line ≡ before ++ line
    → all ≡ with_line ++ flat_map entry_text history → all ≡ before ++ history_text history
unfolding history_text
history_reported before line with_line all history count counted first put more =
    more ∙ ap (λ t. t ++ flat_map entry_text history) (put ∙ ap (λ t. before ++ t) (first ∙ ap (λ n. codes "== history " ++ (decimal n ++ 10 ∷ [])) counted))
    ∙ regroup before (codes "== history ") (decimal (length history)) (10 ∷ []) (flat_map entry_text history)

pub denials_reported : (before line with_line all : List ℕ) (calls : List DeniedCall) (count : ℕ) → count ≡ length calls
    → line ≡ codes "== denials " ++ (decimal count ++ 10 ∷ []) → with_line ≡ before ++ line
    → all ≡ with_line ++ flat_map denial_line calls → all ≡ before ++ listed_denials calls
unfolding listed_denials
denials_reported before line with_line all calls count counted first put more =
    more ∙ ap (λ t. t ++ flat_map denial_line calls) (put ∙ ap (λ t. before ++ t) (first ∙ ap (λ n. codes "== denials " ++ (decimal n ++ 10 ∷ [])) counted))
    ∙ regroup before (codes "== denials ") (decimal (length calls)) (10 ∷ []) (flat_map denial_line calls)
