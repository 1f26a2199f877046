use Rattle.std.proofs.Common.{cond, sym, ap, ◌∙◌, List}
use Rattle.std.specs.Bool.{nat_eq}
use Rattle.wait_set.specs.declared.spot.Spot.{Spot}
use Rattle.wait_set.specs.declared.spot_queues.SpotQueues.{SpotQueues}
use Rattle.wait_set.specs.Spots.{listed}
use Rattle.wait_set.specs.SpotQueues.{spot_has}
use Rattle.wait_set.proofs.Spotting.{as_before, one_more}
use Rattle.wait_set.proofs.wait_set.take_place.Goals as goal

pub returns-in_err-push-clause-stands : goal.returns-in_err-push-clause-stands
returns-in_err-push-clause-stands c = λ x t.
    as_before (spot_has c.args.queues.now x) c.args.thread (listed x c.args.own.now) (c.requires x) t
    ∙ ap (λ (xs : List Spot). cond (nat_eq t c.args.thread) (listed x xs) (spot_has c.args.queues.now x t)) (sym c.in_err-push.ensures.err)

pub returns-in-Err-clause-stands : goal.returns-in-Err-clause-stands
returns-in-Err-clause-stands c = λ x t.
    let popped = c.pop.ensures c.args.own.now c.args.spot c.in_ok-push.ensures.ok in
    ap (λ (q : SpotQueues). spot_has q x t) c.in-Err.ensures.err
    ∙ as_before (spot_has c.args.queues.now x) c.args.thread (listed x c.args.own.now) (c.requires x) t
    ∙ ap (λ (xs : List Spot). cond (nat_eq t c.args.thread) (listed x xs) (spot_has c.args.queues.now x t)) (sym popped)

pub returns-in-Err-clause-err : goal.returns-in-Err-clause-err
returns-in-Err-clause-err c = c.pop.ensures c.args.own.now c.args.spot c.in_ok-push.ensures.ok

pub returns-clause-stands : goal.returns-clause-stands
returns-clause-stands c = λ x t.
    c.in_default.ensures.ok x t
    ∙ one_more (spot_has c.args.queues.now x) c.args.thread x c.args.spot c.args.own.now (c.requires x) t
    ∙ ap (λ (xs : List Spot). cond (nat_eq t c.args.thread) (listed x xs) (spot_has c.args.queues.now x t)) (sym c.in_ok-push.ensures.ok)
