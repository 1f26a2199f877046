-- A row of turns more.
use Rattle.std.proofs.Common.{◌≡◌, ◌++◌, ◌∷◌, [], List, replicate, sym, ap, ◌∙◌}
use Rattle.std.proofs.lemmas.List.{append_assoc, append-nil}
use Rattle.run_types.specs.Turns.{turns_in}
use Rattle.run_types.specs.declared.turn_list.Row.{Row}

pub row_more : (rows : List Row) (row : Row) → turns_in (rows ++ row ∷ []) ≡ turns_in rows ++ replicate row.count row.tid
row_more [] row = append-nil (replicate row.count row.tid)
row_more (first ∷ rows) row =
    ap (λ l. replicate first.count first.tid ++ l) (row_more rows row)
    ∙ sym (append_assoc (replicate first.count first.tid) (turns_in rows) (replicate row.count row.tid))
