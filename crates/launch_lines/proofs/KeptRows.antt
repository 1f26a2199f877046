-- The row of a line in which something stands.
use Rattle.std.specs.Prelude.{ℕ, ◌≡◌, ◌≢◌, ◌+◌, ◌-◌, ◌≤◌, List, [], ◌∷◌, length, take, drop}
use Rattle.std.proofs.Common.{sym, ◌∙◌, ap, arith, get_or}
use Rattle.std.proofs.lemmas.Bool.{ne_eqb}
use Rattle.launch_lines.specs.Rows.{Row, indentation, unless_nothing, row_of}
use Rattle.launch_lines.proofs.Pieces.{from_column}

kept : (number column : ℕ) (back : List ℕ) → 1 ≤ length back → get_or back 0 0 ≢ 35
    → unless_nothing number column back ≡ record { number = number; column = column; content = back } ∷ []
kept number column [] some other = absurd (omega (arith, some))
kept number column (b ∷ bs) some other = rw (ne_eqb b 35 other)

pub row_kept : (text : List ℕ) (number start end column : ℕ) (back : List ℕ)
    → column ≡ indentation (take (end - start) (drop start text)) → back ≡ drop column (take (end - start) (drop start text))
    → 1 ≤ length back → get_or back 0 0 ≢ 35 → start + column ≤ end
    → record { number = number; column = column; content = take (end - (start + column)) (drop (start + column) text) } ∷ []
    ≡ row_of number (take (end - start) (drop start text))
row_kept text number start end column back column_is back_is some other inside =
    let line = take (end - start) (drop start text) in
    let at_front : List ℕ → List Row = λ content. record { number = number; column = column; content = content } ∷ [] in
    sym (ap (λ k. unless_nothing number k (drop k line)) (sym column_is)
    ∙ ap (unless_nothing number column) (sym back_is)
    ∙ kept number column back some other
    ∙ ap at_front (back_is ∙ from_column text start end column inside))
