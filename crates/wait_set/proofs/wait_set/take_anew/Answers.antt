use Rattle.std.proofs.Common.{◌&&◌, cond, false, length, not, take, sym, ap, ◌∙◌, List}
use Rattle.std.specs.Bool.{nat_eq}
use Rattle.wait_set.specs.declared.spot.Spot.{Spot}
use Rattle.wait_set.specs.Spots.{listed}
use Rattle.wait_set.specs.SpotQueues.{spot_has}
use Rattle.wait_set.proofs.Spotting.{all_left, at_thread, put_twice}
use Rattle.wait_set.proofs.wait_set.take_anew.Goals as goal

pub take_rest-requires-2 : goal.take_rest-requires-2
take_rest-requires-2 c =
    record {
      stands = λ x.
          at_thread c.args.thread _ false _
          (c.leave_all.ensures x c.args.thread
          ∙ ap (λ (xs : List Spot). spot_has c.args.queues.now x c.args.thread && not (listed x xs && nat_eq c.args.thread c.args.thread)) c.as_slice.ensures
          ∙ all_left (spot_has c.args.queues.now x) c.args.thread x c.args.own.now (c.requires x) c.args.thread)
          ∙ sym (ap (listed x) c.clear.ensures);
      front = ap (λ n. take n c.args.spots.now) (ap (λ (xs : List Spot). length xs) c.clear.ensures) ∙ sym c.clear.ensures;
    }

pub returns-clause-stands : goal.returns-clause-stands
returns-clause-stands c = λ x t.
    c.take_rest-2.ensures.stands x t
    ∙ ap (cond (nat_eq t c.args.thread) (listed x c.take_rest-2.new.own))
    (c.leave_all.ensures x t
    ∙ ap (λ (xs : List Spot). spot_has c.args.queues.now x t && not (listed x xs && nat_eq t c.args.thread)) c.as_slice.ensures
    ∙ all_left (spot_has c.args.queues.now x) c.args.thread x c.args.own.now (c.requires x) t)
    ∙ put_twice (nat_eq t c.args.thread) false (listed x c.take_rest-2.new.own) (spot_has c.args.queues.now x t)
