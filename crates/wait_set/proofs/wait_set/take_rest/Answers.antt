use Rattle.std.proofs.Common.{◌++◌, ◌∷◌, [], cond, get_or, length, take, sym, ap, ◌∙◌, List}
use Rattle.std.specs.Bool.{nat_eq}
use Rattle.std.proofs.lemmas.List.{take_all, take_more}
use Rattle.wait_set.specs.declared.spot.Spot.{Spot}
use Rattle.wait_set.specs.declared.spot.Spot.TheVariants.{Channel}
use Rattle.wait_set.specs.Spots.{listed}
use Rattle.wait_set.specs.SpotQueues.{spot_has}
use Rattle.wait_set.proofs.Spotting.{as_before, at_thread, put_twice}
use Rattle.wait_set.proofs.wait_set.take_rest.Goals as goal

pub returns-in_err-make_room-clause-stands : goal.returns-in_err-make_room-clause-stands
returns-in_err-make_room-clause-stands c = λ x t.
    as_before (spot_has c.args.queues.now x) c.args.thread (listed x c.args.own.now) (c.requires.stands x) t
    ∙ ap (λ (xs : List Spot). cond (nat_eq t c.args.thread) (listed x xs) (spot_has c.args.queues.now x t)) (sym c.make_room.ensures)

pub loop-place-init : goal.loop-place-init
loop-place-init c =
    record {
      stands = λ x t.
          as_before (spot_has c.args.queues.now x) c.args.thread (listed x c.args.own.now) (c.requires.stands x) t
          ∙ ap (λ (xs : List Spot). cond (nat_eq t c.args.thread) (listed x xs) (spot_has c.args.queues.now x t)) (sym c.make_room.ensures);
      front = c.make_room.ensures ∙ sym c.requires.front
          ∙ ap (λ n. take n c.args.spots.now) (sym (c.len-first.ensures ∙ ap (λ (xs : List Spot). length xs) c.make_room.ensures));
    }

pub take_place-requires : goal.take_place-requires
take_place-requires c = λ x. at_thread c.args.thread _ _ _ (c.loop-place.invariant.stands x c.args.thread)

pub loop-place-preserved : goal.loop-place-preserved
loop-place-preserved c =
    record {
      stands = λ x t.
          c.take_place.ensures.stands x t
          ∙ ap (cond (nat_eq t c.args.thread) (listed x c.take_place.new.own)) (c.loop-place.invariant.stands x t)
          ∙ put_twice (nat_eq t c.args.thread) (listed x c.loop-place.own) (listed x c.take_place.new.own) (spot_has c.args.queues.now x t);
      front = c.in_ok-take_place.ensures.ok
          ∙ ap (λ (xs : List Spot). xs ++ get_or c.args.spots.now c.loop-place.place (Channel 0) ∷ []) c.loop-place.invariant.front
          ∙ sym (take_more c.args.spots.now c.loop-place.place (Channel 0) c.loop-place-test.true);
    }

pub returns-in_err-take_place-clause-stands : goal.returns-in_err-take_place-clause-stands
returns-in_err-take_place-clause-stands c = λ x t.
    c.take_place.ensures.stands x t
    ∙ ap (cond (nat_eq t c.args.thread) (listed x c.take_place.new.own)) (c.loop-place.invariant.stands x t)
    ∙ put_twice (nat_eq t c.args.thread) (listed x c.loop-place.own) (listed x c.take_place.new.own) (spot_has c.args.queues.now x t)

pub returns-clause-ok : goal.returns-clause-ok
returns-clause-ok c = c.loop-place.invariant.front ∙ take_all c.loop-place.place c.args.spots.now c.loop-place-test.false
