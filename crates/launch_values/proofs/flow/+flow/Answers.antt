-- The steps of the two loops: one more item or pair, one that is refused, the last one, and the end.
use Rattle.std.proofs.Common.{rules, ap, sym, ◌∙◌, List, [], ◌∷◌, ◌++◌, ◌+◌, ◌-◌, suc, length, map, Bool, Ok, arith}
use Rattle.std.proofs.lemmas.Result.{err_from_is_err_and}
use Rattle.launch_values.specs.Shape.{Shape, Content, content_of}
use Rattle.launch_values.specs.Views.{shape_of, pair_of}
use Rattle.launch_values.specs.Flow.{node_with, items_with, pair_with, pairs_with, collection_at}
use Rattle.lists.proofs.Steps.{map_push}
use Rattle.launch_values.proofs.FlowLoops.{loop_closed, loop_refused, loop_wrong, loop_last, loop_more, items_start, items_step, items_over, pairs_start, pairs_step, pairs_over, pairs_alike, with_front, too_deep, one_deeper, at_bracket, at_brace}
use Rattle.launch_values.proofs.flow.+flow.Goals as goal

pub collection-returns-then-depth-eq0-clause-reads : goal.collection-returns-then-depth-eq0-clause-reads
collection-returns-then-depth-eq0-clause-reads t c = rw c.stop.ensures (too_deep c.args.depth c.args.line c.args.bytes.now c.if-depth-eq0.true)

pub collection-returns-clause-reads : goal.collection-returns-clause-reads
collection-returns-clause-reads t c =
    rw (one_deeper c.args.depth c.args.line c.args.bytes.now (omega (arith, c.if-depth-eq0.false))) c.sequence_or_map.ensures.reads

pub sequence_or_map-returns-in-91-clause-reads : goal.sequence_or_map-returns-in-91-clause-reads
sequence_or_map-returns-in-91-clause-reads t c =
    at_bracket _ _ _ _ _ c.in-91.len_at_least (search rules) c.sequence.ensures.reads

pub sequence_or_map-returns-in-len1-up-clause-reads : goal.sequence_or_map-returns-in-len1-up-clause-reads
sequence_or_map-returns-in-len1-up-clause-reads t c =
    at_brace _ _ _ _ _ c.in-len1-up.len_at_least (search rules) c.mapping.ensures.reads

pub items-loop-init : goal.items-loop-init
items-loop-init t c =
    let read = node_with (collection_at c.args.depth c.args.line) c.args.line in
    let empty = ap (map shape_of) c.new-list.ensures.items in
    (ap (λ (xs : List Shape). with_front xs (items_with read (suc (length c.args.bytes.now) - 0) c.args.bytes.now)) empty ∙ items_start read c.args.bytes.now, omega arith)

pub items-returns-in-Some-clause-reads : goal.items-returns-in-Some-clause-reads
items-returns-in-Some-clause-reads t c =
    let read = node_with (collection_at c.args.depth c.args.line) c.args.line in
    let n = length c.args.bytes.now in
    let front = map shape_of c.loop.list.items in
    loop_closed 93 read (λ x. items_with read (suc n - (c.loop.counter + 1))) c.loop.rest.now c.after_gap-begin.result.now c.in-Some.after.now front _
    c.after_gap-begin.ensures.value c.in-Some.ensures.value
    (sym (items_step read front c.loop.counter n c.loop.rest.now c.loop-test.true) ∙ c.loop.invariant.0)

pub items-returns-in_err-item-clause-reads : goal.items-returns-in_err-item-clause-reads
items-returns-in_err-item-clause-reads t c =
    let p = err_from_is_err_and c.from_residual.result c.from_residual.ensures.1 in
    let read = node_with (collection_at c.args.depth c.args.line) c.args.line in
    let n = length c.args.bytes.now in
    let front = map shape_of c.loop.list.items in
    rw (p.1, p.2)
    (loop_refused 93 read (λ x. items_with read (suc n - (c.loop.counter + 1))) c.loop.rest.now c.after_gap-begin.result.now front _ c.in_err-item.field-0.0
    c.after_gap-begin.ensures.value c.in_default.ensures.value c.in_err-item.ensures.reads
    (sym (items_step read front c.loop.counter n c.loop.rest.now c.loop-test.true) ∙ c.loop.invariant.0))

pub items-returns-in_err-goes_on-clause-reads : goal.items-returns-in_err-goes_on-clause-reads
items-returns-in_err-goes_on-clause-reads t c =
    let p = err_from_is_err_and c.from_residual-in_err-goes_on.result c.from_residual-in_err-goes_on.ensures.1 in
    let read = node_with (collection_at c.args.depth c.args.line) c.args.line in
    let n = length c.args.bytes.now in
    let front = map shape_of c.loop.list.items in
    rw (p.1, p.2)
    (loop_wrong 93 read (λ x. items_with read (suc n - (c.loop.counter + 1))) c.loop.rest.now c.after_gap-begin.result.now c.in_ok-item.behind.now c.after_gap.result.now
    (shape_of c.in_ok-item.item) front _ c.in_err-goes_on.field-0.0
    c.after_gap-begin.ensures.value c.in_default.ensures.value c.in_ok-item.ensures.reads c.after_gap.ensures.value c.in_err-goes_on.ensures.reads
    (sym (items_step read front c.loop.counter n c.loop.rest.now c.loop-test.true) ∙ c.loop.invariant.0))

pub items-returns-then-not-goes_on-clause-reads : goal.items-returns-then-not-goes_on-clause-reads
items-returns-then-not-goes_on-clause-reads t c =
    let read = node_with (collection_at c.args.depth c.args.line) c.args.line in
    let n = length c.args.bytes.now in
    let front = map shape_of c.loop.list.items in
    loop_last 93 read (λ x. items_with read (suc n - (c.loop.counter + 1))) c.loop.rest.now c.after_gap-begin.result.now c.in_ok-item.behind.now c.after_gap.result.now c.in_ok-goes_on.after.now
    (shape_of c.in_ok-item.item) front _
    c.after_gap-begin.ensures.value c.in_default.ensures.value c.in_ok-item.ensures.reads c.after_gap.ensures.value
    (c.in_ok-goes_on.ensures.reads ∙ ap (λ (b : Bool). Ok (b, c.in_ok-goes_on.after.now)) c.if-not-goes_on.true)
    (sym (items_step read front c.loop.counter n c.loop.rest.now c.loop-test.true) ∙ c.loop.invariant.0)
    ∙ ap (λ (xs : List Shape). Ok (xs, c.in_ok-goes_on.after.now)) (sym (map_push shape_of _ _ _ c.in_ok-push.ensures.items))

pub items-returns-clause-reads : goal.items-returns-clause-reads
items-returns-clause-reads t c =
    let read = node_with (collection_at c.args.depth c.args.line) c.args.line in
    rw c.stop.ensures
    (sym c.loop.invariant.0 ∙ items_over read (map shape_of c.loop.list.items) c.loop.counter (length c.args.bytes.now) c.loop.rest.now (omega (arith, c.loop-test.false)))

pub items-loop-preserved : goal.items-loop-preserved
items-loop-preserved t c =
    let read = node_with (collection_at c.args.depth c.args.line) c.args.line in
    let n = length c.args.bytes.now in
    let front = map shape_of c.loop.list.items in
    let fuel = suc n - (c.loop.counter + 1) in (
      ap (λ (xs : List Shape). with_front xs (items_with read fuel c.in_ok-goes_on.after.now)) (map_push shape_of _ _ _ c.in_ok-push.ensures.items)
          ∙ loop_more 93 read (λ x. items_with read fuel) c.loop.rest.now c.after_gap-begin.result.now c.in_ok-item.behind.now c.after_gap.result.now c.in_ok-goes_on.after.now
          (shape_of c.in_ok-item.item) front _
          c.after_gap-begin.ensures.value c.in_default.ensures.value c.in_ok-item.ensures.reads c.after_gap.ensures.value
          (c.in_ok-goes_on.ensures.reads ∙ ap (λ (b : Bool). Ok (b, c.in_ok-goes_on.after.now)) c.if-not-goes_on.false)
          (sym (items_step read front c.loop.counter n c.loop.rest.now c.loop-test.true) ∙ c.loop.invariant.0),
      omega (arith, c.loop.invariant.1, c.after_gap-begin.ensures.no_longer, c.in_ok-item.ensures.no_longer, c.after_gap.ensures.no_longer, c.in_ok-goes_on.ensures.shorter),
    )

pub pairs-loop-init : goal.pairs-loop-init
pairs-loop-init t c =
    let read = node_with (collection_at c.args.depth c.args.line) c.args.line in
    let fuel = suc (length c.args.bytes.now) - 0 in
    let empty = ap (map pair_of) c.new-list.ensures.items in (
      ap (λ (ks : List Content). with_front (map pair_of c.new-list.result.items) (pairs_with read c.args.line ks fuel c.args.bytes.now)) c.new-keys.ensures
          ∙ ap (λ (ps : List (Shape × Shape)). with_front ps (pairs_with read c.args.line [] fuel c.args.bytes.now)) empty ∙ pairs_start read c.args.line c.args.bytes.now,
      omega arith,
    )

pub pairs-returns-in-Some-clause-reads : goal.pairs-returns-in-Some-clause-reads
pairs-returns-in-Some-clause-reads t c =
    let read = node_with (collection_at c.args.depth c.args.line) c.args.line in
    let n = length c.args.bytes.now in
    let front = map pair_of c.loop.list.items in
    loop_closed 125 (pair_with read c.args.line c.loop.keys) (λ p. pairs_with read c.args.line (content_of p.0 ∷ c.loop.keys) (suc n - (c.loop.counter + 1)))
    c.loop.rest.now c.after_gap-begin.result.now c.in-Some.after.now front _
    c.after_gap-begin.ensures.value c.in-Some.ensures.value
    (sym (pairs_step read c.args.line c.loop.keys front c.loop.counter n c.loop.rest.now c.loop-test.true) ∙ c.loop.invariant.0)

pub pairs-returns-in_err-pair-clause-reads : goal.pairs-returns-in_err-pair-clause-reads
pairs-returns-in_err-pair-clause-reads t c =
    let p = err_from_is_err_and c.from_residual.result c.from_residual.ensures.1 in
    let read = node_with (collection_at c.args.depth c.args.line) c.args.line in
    let n = length c.args.bytes.now in
    let front = map pair_of c.loop.list.items in
    rw (p.1, p.2)
    (loop_refused 125 (pair_with read c.args.line c.loop.keys) (λ p. pairs_with read c.args.line (content_of p.0 ∷ c.loop.keys) (suc n - (c.loop.counter + 1)))
    c.loop.rest.now c.after_gap-begin.result.now front _ c.in_err-pair.field-0.0
    c.after_gap-begin.ensures.value c.in_default.ensures.value c.in_err-pair.ensures.reads
    (sym (pairs_step read c.args.line c.loop.keys front c.loop.counter n c.loop.rest.now c.loop-test.true) ∙ c.loop.invariant.0))

pub pairs-returns-in_err-goes_on-clause-reads : goal.pairs-returns-in_err-goes_on-clause-reads
pairs-returns-in_err-goes_on-clause-reads t c =
    let p = err_from_is_err_and c.from_residual-in_err-goes_on.result c.from_residual-in_err-goes_on.ensures.1 in
    let read = node_with (collection_at c.args.depth c.args.line) c.args.line in
    let n = length c.args.bytes.now in
    let front = map pair_of c.loop.list.items in
    rw (p.1, p.2)
    (loop_wrong 125 (pair_with read c.args.line c.loop.keys) (λ p. pairs_with read c.args.line (content_of p.0 ∷ c.loop.keys) (suc n - (c.loop.counter + 1)))
    c.loop.rest.now c.after_gap-begin.result.now c.in_ok-pair.behind.now c.after_gap.result.now
    (pair_of c.in_ok-pair.pair) front _ c.in_err-goes_on.field-0.0
    c.after_gap-begin.ensures.value c.in_default.ensures.value c.in_ok-pair.ensures.reads c.after_gap.ensures.value c.in_err-goes_on.ensures.reads
    (sym (pairs_step read c.args.line c.loop.keys front c.loop.counter n c.loop.rest.now c.loop-test.true) ∙ c.loop.invariant.0))

pub pairs-returns-then-not-goes_on-clause-reads : goal.pairs-returns-then-not-goes_on-clause-reads
pairs-returns-then-not-goes_on-clause-reads t c =
    let read = node_with (collection_at c.args.depth c.args.line) c.args.line in
    let n = length c.args.bytes.now in
    let front = map pair_of c.loop.list.items in
    loop_last 125 (pair_with read c.args.line c.loop.keys) (λ p. pairs_with read c.args.line (content_of p.0 ∷ c.loop.keys) (suc n - (c.loop.counter + 1)))
    c.loop.rest.now c.after_gap-begin.result.now c.in_ok-pair.behind.now c.after_gap.result.now c.in_ok-goes_on.after.now
    (pair_of c.in_ok-pair.pair) front _
    c.after_gap-begin.ensures.value c.in_default.ensures.value c.in_ok-pair.ensures.reads c.after_gap.ensures.value
    (c.in_ok-goes_on.ensures.reads ∙ ap (λ (b : Bool). Ok (b, c.in_ok-goes_on.after.now)) c.if-not-goes_on.true)
    (sym (pairs_step read c.args.line c.loop.keys front c.loop.counter n c.loop.rest.now c.loop-test.true) ∙ c.loop.invariant.0)
    ∙ ap (λ (ps : List (Shape × Shape)). Ok (ps, c.in_ok-goes_on.after.now)) (sym (map_push pair_of _ _ _ c.in_ok-push.ensures.items))

pub pairs-returns-clause-reads : goal.pairs-returns-clause-reads
pairs-returns-clause-reads t c =
    let read = node_with (collection_at c.args.depth c.args.line) c.args.line in
    rw c.stop.ensures
    (sym c.loop.invariant.0
    ∙ pairs_over read c.args.line c.loop.keys (map pair_of c.loop.list.items) c.loop.counter (length c.args.bytes.now) c.loop.rest.now (omega (arith, c.loop-test.false)))

pub pairs-loop-preserved : goal.pairs-loop-preserved
pairs-loop-preserved t c =
    let read = node_with (collection_at c.args.depth c.args.line) c.args.line in
    let n = length c.args.bytes.now in
    let front = map pair_of c.loop.list.items in
    let fuel = suc n - (c.loop.counter + 1) in
    let one = pair_of c.in_ok-pair.pair in (
      ap (λ (ps : List (Shape × Shape)). with_front ps (pairs_with read c.args.line c.pair.new.keys fuel c.in_ok-goes_on.after.now)) (map_push pair_of _ _ _ c.in_ok-push.ensures.items)
          ∙ ap (with_front (front ++ one ∷ [])) (pairs_alike read c.args.line fuel c.pair.new.keys (content_of one.0 ∷ c.loop.keys) c.in_ok-goes_on.after.now c.in_ok-pair.ensures.keys)
          ∙ loop_more 125 (pair_with read c.args.line c.loop.keys) (λ p. pairs_with read c.args.line (content_of p.0 ∷ c.loop.keys) fuel)
          c.loop.rest.now c.after_gap-begin.result.now c.in_ok-pair.behind.now c.after_gap.result.now c.in_ok-goes_on.after.now
          one front _
          c.after_gap-begin.ensures.value c.in_default.ensures.value c.in_ok-pair.ensures.reads c.after_gap.ensures.value
          (c.in_ok-goes_on.ensures.reads ∙ ap (λ (b : Bool). Ok (b, c.in_ok-goes_on.after.now)) c.if-not-goes_on.false)
          (sym (pairs_step read c.args.line c.loop.keys front c.loop.counter n c.loop.rest.now c.loop-test.true) ∙ c.loop.invariant.0),
      omega (arith, c.loop.invariant.1, c.after_gap-begin.ensures.no_longer, c.in_ok-pair.ensures.no_longer, c.after_gap.ensures.no_longer, c.in_ok-goes_on.ensures.shorter),
    )
