use Rattle.std.proofs.Common.{List, ℕ, ap, ◌∙◌}
use Rattle.std.proofs.lemmas.Result.{err_from_is_err_and}
use Rattle.lists.proofs.OptionSteps.{stopped}
use Rattle.tree_records.specs.Reading.{unescaped}
use Rattle.tree_records.proofs.Unescaping.{with_front, go_on, fail, done, nonempty, empty}
use Rattle.tree_records.proofs.escapes.unescape.Goals as goal

pub returns-in_err-byte : goal.returns-in_err-byte
returns-in_err-byte c =
    let p = err_from_is_err_and c.from_residual.result c.from_residual.ensures.1 in
    let some = nonempty c.loop-rest.rest.now c.is_empty.result c.is_empty.ensures c.loop-rest-test.true in
    rw (p.1, p.2) (stopped c.in_err-byte.field-0.0 _ _ (λ none. fail _ c.loop-rest.rest.now _ some none c.loop-rest.invariant) c.in_err-byte.ensures.value)

pub loop-rest-preserved : goal.loop-rest-preserved
loop-rest-preserved c =
    let some = nonempty c.loop-rest.rest.now c.is_empty.result c.is_empty.ensures c.loop-rest-test.true in
    ap (λ (front : List ℕ). with_front front (unescaped c.in_ok-byte.after.now)) c.in_ok-push.ensures.items
    ∙ go_on _ c.loop-rest.rest.now c.in_ok-byte.after.now c.in_ok-byte.byte _ some c.in_ok-byte.ensures.value c.loop-rest.invariant

pub returns : goal.returns
returns c = done _ c.loop-rest.rest.now _ (empty c.loop-rest.rest.now c.is_empty.result c.is_empty.ensures c.loop-rest-test.false) c.loop-rest.invariant
