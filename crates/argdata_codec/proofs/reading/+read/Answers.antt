-- The steps of the two loops: a field more, a field that is refused, and the end.
use Rattle.std.proofs.Common.{List, ap, ◌∙◌}
use Rattle.std.proofs.lemmas.Result.{err_from_is_err_and}
use Rattle.argdata_codec.specs.Shape.{Shape}
use Rattle.argdata_codec.specs.Views.{shape_of, pair_of}
use Rattle.argdata_codec.specs.Reading.{value_at, items_of, pairs_of}
use Rattle.lists.proofs.OptionSteps.{stopped}
use Rattle.lists.proofs.Steps.{map_push}
use Rattle.argdata_codec.proofs.Loops.{with_front, items_go_on, items_fail, items_done, pairs_go_on, pairs_fail, pairs_fail_later, pairs_done, nonempty, empty}
use Rattle.argdata_codec.proofs.reading.+read.Goals as goal

pub items-returns-in_err-item : goal.items-returns-in_err-item
items-returns-in_err-item t c =
    let p = err_from_is_err_and c.from_residual.result c.from_residual.ensures.1 in
    let some = nonempty c.loop-rest.rest.now c.is_empty.result c.is_empty.ensures c.loop-rest-test.true in
    rw (p.1, p.2) (stopped c.in_err-item.field-0.0 _ _
    (λ none. items_fail (value_at c.args.depth) _ c.loop-rest.rest.now _ some none c.loop-rest.invariant) c.in_err-item.ensures.reads)

pub items-loop-rest-preserved : goal.items-loop-rest-preserved
items-loop-rest-preserved t c =
    let some = nonempty c.loop-rest.rest.now c.is_empty.result c.is_empty.ensures c.loop-rest-test.true in
    ap (λ (front : List Shape). with_front front (items_of (value_at c.args.depth) c.in_ok-item.after.now)) (map_push shape_of _ _ _ c.in_ok-push.ensures.items)
    ∙ items_go_on (value_at c.args.depth) _ c.loop-rest.rest.now c.in_ok-item.after.now (shape_of c.in_ok-item.item) _ some c.in_ok-item.ensures.reads c.loop-rest.invariant

pub items-returns : goal.items-returns
items-returns t c =
    items_done (value_at c.args.depth) _ c.loop-rest.rest.now _ (empty c.loop-rest.rest.now c.is_empty.result c.is_empty.ensures c.loop-rest-test.false) c.loop-rest.invariant

pub pairs-returns-in_err-key : goal.pairs-returns-in_err-key
pairs-returns-in_err-key t c =
    let p = err_from_is_err_and c.from_residual.result c.from_residual.ensures.1 in
    let some = nonempty c.loop-rest.rest.now c.is_empty.result c.is_empty.ensures c.loop-rest-test.true in
    rw (p.1, p.2) (stopped c.in_err-key.field-0.0 _ _
    (λ none. pairs_fail (value_at c.args.depth) _ c.loop-rest.rest.now _ some none c.loop-rest.invariant) c.in_err-key.ensures.reads)

pub pairs-returns-in_err-value : goal.pairs-returns-in_err-value
pairs-returns-in_err-value t c =
    let p = err_from_is_err_and c.from_residual-in_err-value.result c.from_residual-in_err-value.ensures.1 in
    let some = nonempty c.loop-rest.rest.now c.is_empty.result c.is_empty.ensures c.loop-rest-test.true in
    rw (p.1, p.2) (stopped c.in_err-value.field-0.0 _ _
    (λ none. pairs_fail_later (value_at c.args.depth) _ c.loop-rest.rest.now c.in_ok-key.after_key.now (shape_of c.in_ok-key.key) _ some c.in_ok-key.ensures.reads none c.loop-rest.invariant) c.in_err-value.ensures.reads)

pub pairs-loop-rest-preserved : goal.pairs-loop-rest-preserved
pairs-loop-rest-preserved t c =
    let some = nonempty c.loop-rest.rest.now c.is_empty.result c.is_empty.ensures c.loop-rest-test.true in
    ap (λ (front : List (Shape × Shape)). with_front front (pairs_of (value_at c.args.depth) c.in_ok-value.after.now)) (map_push pair_of _ _ _ c.in_ok-push.ensures.items)
    ∙ pairs_go_on (value_at c.args.depth) _ c.loop-rest.rest.now c.in_ok-key.after_key.now c.in_ok-value.after.now (shape_of c.in_ok-key.key) (shape_of c.in_ok-value.value) _ some
    c.in_ok-key.ensures.reads c.in_ok-value.ensures.reads c.loop-rest.invariant

pub pairs-returns : goal.pairs-returns
pairs-returns t c =
    pairs_done (value_at c.args.depth) _ c.loop-rest.rest.now _ (empty c.loop-rest.rest.now c.is_empty.result c.is_empty.ensures c.loop-rest-test.false) c.loop-rest.invariant
