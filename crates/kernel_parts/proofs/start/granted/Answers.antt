use Rattle.std.proofs.Common.{◌+◌, ap, sym, ◌∙◌, take}
use Rattle.std.proofs.lemmas.List.{length-take-le}
use Rattle.std.specs.FinMap.{get, insert}
use Rattle.abi_base.specs.declared.grant.Grant.{Grant}
use Rattle.object_store.specs.Objects.{Held}
use Rattle.kernel_model.specs.Start.{first_open, granted_descriptor, granted_open}
use Rattle.kernel_parts.proofs.Grants.{next_free, table_next, objects_next}
use Rattle.kernel_parts.proofs.start.granted.Goals as goal

pub put_grant-requires-clause-free : goal.put_grant-requires-clause-free
put_grant-requires-clause-free c =
    let grants = take c.loop-number.number c.args.grants.now in
    ap (λ (h : Held). get h.kinds (first_open c.args.tree.now + c.loop-number.number)) c.loop-number.invariant.objects
    ∙ next_free c.args.tree.now grants c.loop-number.number (sym (length-take-le _ _ c.loop-number.auto.number-end))

pub loop-number-preserved : goal.loop-number-preserved
loop-number-preserved c =
    let tree = c.args.tree.now in
    let n = c.loop-number.number in
    let own = c.index-grants-number.is in
    record {
      table = table_next tree c.args.grants.now n c.index-grants-number.result _ _ c.loop-number-test.true c.loop-number.invariant.table
          (c.in_ok-put_grant.ensures.table ∙ ap (λ (g : Grant). insert c.loop-number.table n (granted_descriptor tree n g)) own);
      objects = objects_next tree c.args.grants.now n c.index-grants-number.result _ _ c.loop-number-test.true c.loop-number.invariant.objects
          (c.in_ok-put_grant.ensures.objects
          ∙ ap (λ (g : Grant). record {
            kinds = insert c.loop-number.objects.kinds (first_open tree + n) (granted_open tree n g);
            counts = insert c.loop-number.objects.counts (first_open tree + n) 1;
          }) own);
    }
