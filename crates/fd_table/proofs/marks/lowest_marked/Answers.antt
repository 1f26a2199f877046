use Rattle.std.proofs.Common.{rules, ◌<◌, ◌^◌, get_or, arith}
use Rattle.fd_table.proofs.Marked.{lowest_mark_in}
use Rattle.fd_table.proofs.marks.lowest_marked.Goals as goal

pub returns-then-word-ne0-clause-marked : goal.returns-then-word-ne0-clause-marked
returns-then-word-ne0-clause-marked c =
    let words = c.args.words.now in
    let place = c.loop-place.place in
    let some : 0 < get_or words place 0 = search (rules, arith) in
    let fits : get_or words place 0 < 2 ^ 64 = search (rules, arith) in
    (lowest_mark_in words place some fits c.loop-place.invariant).0

pub returns-then-word-ne0-clause-lower : goal.returns-then-word-ne0-clause-lower
returns-then-word-ne0-clause-lower c =
    let words = c.args.words.now in
    let place = c.loop-place.place in
    let some : 0 < get_or words place 0 = search (rules, arith) in
    let fits : get_or words place 0 < 2 ^ 64 = search (rules, arith) in
    (lowest_mark_in words place some fits c.loop-place.invariant).1
