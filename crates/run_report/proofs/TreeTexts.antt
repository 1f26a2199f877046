-- The records of a file tree under the line with their number.
use Rattle.std.proofs.Common.{◌≡◌, ℕ, List, [], ◌∷◌, ◌++◌, length, codes, ap, ◌∙◌}
use Rattle.std.specs.Fmt.{decimal}
use Rattle.tree_document.specs.Printing.{listing, printed}
use Rattle.tree_model.specs.Tree.{Tree}
use Rattle.run_report.specs.Report.{tree_text}
use Rattle.run_report.proofs.HistoryTexts.{regroup}

-- the first line was put behind a text, and then the records
pub tree_reported : (before line with_line records all : List ℕ) (count : ℕ) (tree : Tree)
    → line ≡ codes "== tree " ++ (decimal count ++ 10 ∷ []) → with_line ≡ before ++ line
    → count ≡ length (listing tree) → records ≡ printed tree
    → all ≡ with_line ++ records → all ≡ before ++ tree_text tree
unfolding tree_text
tree_reported before line with_line records all count tree first put many encoded more =
    more ∙ ap (λ t. t ++ records) (put ∙ ap (λ t. before ++ t) (first ∙ ap (λ n. codes "== tree " ++ (decimal n ++ 10 ∷ [])) many))
    ∙ regroup before (codes "== tree ") (decimal (length (listing tree))) (10 ∷ []) records
    ∙ ap (λ t. before ++ (codes "== tree " ++ (decimal (length (listing tree)) ++ (10 ∷ t)))) encoded
