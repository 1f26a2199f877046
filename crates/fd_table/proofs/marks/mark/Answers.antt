use Rattle.std.proofs.Common.{◌/◌, ◌%◌, get_or, w64, ◌∙◌, arith}
use Rattle.std.proofs.lemmas.Nat.Bits.{bit_at_set_same, bit_at_set_other}
use Rattle.fd_table.proofs.Marked.{mark_set, marks_kept}
use Rattle.fd_table.proofs.marks.mark.Goals as goal

pub returns-clause-same : goal.returns-clause-same
returns-clause-same c =
    let words = c.args.words.now in
    let n = c.args.number in
    let size = c.told-words in
    mark_set words n _ (omega (arith, c.requires, size)) ∙ bit_at_set_same w64 (get_or words (n / 64) 0) (n % 64) (omega arith)

pub returns-clause-others : goal.returns-clause-others
returns-clause-others c =
    let words = c.args.words.now in
    let n = c.args.number in
    let size = c.told-words in
    marks_kept words n _ (omega (arith, c.requires, size)) (λ i less other. bit_at_set_other w64 (get_or words (n / 64) 0) (n % 64) (omega arith) i other)
