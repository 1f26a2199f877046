use Rattle.std.proofs.Common.{◌/◌, ◌%◌, get_or, w64, ◌∙◌, arith}
use Rattle.std.proofs.lemmas.Nat.Bits.{bit_at_clear_same, bit_at_clear_other}
use Rattle.fd_table.proofs.Marked.{mark_set, marks_kept, none_past}
use Rattle.fd_table.proofs.marks.unmark.Goals as goal

pub returns-then-place-ge-WORDS-clause-same : goal.returns-then-place-ge-WORDS-clause-same
returns-then-place-ge-WORDS-clause-same c =
    let size = c.told-words in
    let past = c.if-place-ge-WORDS.true in
    none_past c.args.words.now c.args.number (omega (arith, size, past))

pub returns-clause-same : goal.returns-clause-same
returns-clause-same c =
    let words = c.args.words.now in
    let n = c.args.number in
    let size = c.told-words in
    let within = c.if-place-ge-WORDS.false in
    mark_set words n _ (omega (arith, within, size)) ∙ bit_at_clear_same w64 (get_or words (n / 64) 0) (n % 64) (omega arith)

pub returns-clause-others : goal.returns-clause-others
returns-clause-others c =
    let words = c.args.words.now in
    let n = c.args.number in
    let size = c.told-words in
    let within = c.if-place-ge-WORDS.false in
    marks_kept words n _ (omega (arith, within, size)) (λ i less other. bit_at_clear_other w64 (get_or words (n / 64) 0) (n % 64) (omega arith) i less other)
