use Rattle.std.proofs.Common.{rules, ◌≡◌, ◌<◌, ◌+◌, ◌*◌, ◌^◌, ℕ, get_or, refl, subst, sym, ap, ◌∙◌, arith}
use Rattle.fd_table.specs.Marks.{mark_of}
use Rattle.fd_table.proofs.Marked.{lowest_in, marked_on}
use Rattle.fd_table.proofs.marks.lowest_unmarked.Goals as goal

pub returns-then-word-clause-unmarked : goal.returns-then-word-clause-unmarked
returns-then-word-clause-unmarked c =
    let words = c.args.words.now in
    let place = c.loop-place.place in
    let word = get_or words place 0 in
    let some : word + 1 < 2 ^ 64 = search (rules, arith) in
    ap (λ t. mark_of words (place * 64 + t)) c.trailing_ones.ensures ∙ (lowest_in words place word refl some c.loop-place.invariant).0

pub returns-then-word-clause-lower : goal.returns-then-word-clause-lower
returns-then-word-clause-lower c =
    let words = c.args.words.now in
    let place = c.loop-place.place in
    let word = get_or words place 0 in
    let some : word + 1 < 2 ^ 64 = search (rules, arith) in
    subst (λ t. (k : ℕ) → k < place * 64 + t → mark_of words k ≡ 1) (sym c.trailing_ones.ensures) (lowest_in words place word refl some c.loop-place.invariant).1

pub loop-place-preserved : goal.loop-place-preserved
loop-place-preserved c =
    let words = c.args.words.now in
    let place = c.loop-place.place in
    marked_on words place (get_or words place 0) refl c.if-word.false c.loop-place.invariant
