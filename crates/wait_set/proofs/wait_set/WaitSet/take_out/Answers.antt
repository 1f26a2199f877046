use Rattle.std.proofs.Common.{◌+◌, ◌-◌, ◌≤◌, ◌&&◌, is_some, not, length, refl, sym, ap, subst, ◌∙◌, List, arith}
use Rattle.std.specs.Bool.{nat_eq}
use Rattle.std.specs.Prelude.{vec_capacity}
use Rattle.std.specs.FinMap.{len, remove}
use Rattle.maps.specs.Maps.{len-removed, remove_absent}
use Rattle.wait_set.specs.declared.spot.Spot.{Spot}
use Rattle.wait_set.specs.Spots.{listed}
use Rattle.wait_set.specs.SpotQueues.{spot_has}
use Rattle.wait_set.specs.Waits.{WaitMap, is_ready, is_everywhere, is_left}
use Rattle.wait_set.specs.Tied.{IsTied}
use Rattle.wait_set.proofs.Tying.{gone_less, known_at, room_for, runs_less, runs_within, tied_gone}
use Rattle.wait_set.proofs.wait_set.WaitSet.take_out.Goals as goal

pub invariant_of-self : goal.invariant_of-self
invariant_of-self c =
    subst (λ (w : WaitMap). IsTied w c.self.inside.queues c.self.inside.ready c.self.inside.everywhere c.self.inside.left c.self.inside.running (length c.self.inside.gone.items) (vec_capacity c.self.inside.gone))
    (sym (c.in_default.ensures.new ∙ remove_absent c.self.inside.threads c.args.thread (sym c.in_default.ensures.value))) c.self.invariant

pub change-requires : goal.change-requires
change-requires c =
    let at = sym c.in-Some.ensures.value in
    record {
      known = known_at is_ready c.self.inside.threads c.args.thread c.in-Some.waiting c.self.inside.ready _ c.self.invariant.ready_set at c.is_ready.ensures;
      room = λ _ none. room_for is_ready c.self.inside.threads c.args.thread c.self.inside.ready c.self.invariant.ready_set (ap is_some at) none;
    }

pub change-requires-2 : goal.change-requires-2
change-requires-2 c =
    let at = sym c.in-Some.ensures.value in
    record {
      known = known_at is_everywhere c.self.inside.threads c.args.thread c.in-Some.waiting c.self.inside.everywhere _ c.self.invariant.everywhere_set at refl;
      room = λ _ none. room_for is_everywhere c.self.inside.threads c.args.thread c.self.inside.everywhere c.self.invariant.everywhere_set (ap is_some at) none;
    }

pub change-requires-3 : goal.change-requires-3
change-requires-3 c =
    let at = sym c.in-Some.ensures.value in
    record {
      known = known_at is_left c.self.inside.threads c.args.thread c.in-Some.waiting c.self.inside.left _ c.self.invariant.left_set at c.is_left.ensures;
      room = λ _ none. room_for is_left c.self.inside.threads c.args.thread c.self.inside.left c.self.invariant.left_set (ap is_some at) none;
    }

pub overflow_sub-self : goal.overflow_sub-self
overflow_sub-self c = runs_within c.self.inside.threads c.args.thread c.in-Some.waiting c.self.inside.running c.from.result (sym c.in-Some.ensures.value) c.self.invariant.runners c.from.ensures

pub unwrap-requires : goal.unwrap-requires
unwrap-requires c =
    let fewer = len-removed c.self.inside.threads c.args.thread c.in-Some.waiting (sym c.in-Some.ensures.value) in
    let was = c.self.invariant.gone_room in
    c.push.ensures.succeeds (omega arith)

pub invariant_of-self-then-is_noted : goal.invariant_of-self-then-is_noted
invariant_of-self-then-is_noted c =
    let at = sym c.in-Some.ensures.value in
    let fewer = len-removed c.self.inside.threads c.args.thread c.in-Some.waiting at in
    let was = c.self.invariant.gone_room in
    let room : len (remove c.self.inside.threads c.args.thread) + length c.push.new.self.items ≤ vec_capacity c.push.new.self = omega (arith, c.push.ensures.upper_bound, c.push.ensures.capacity) in
    subst (λ (w : WaitMap). IsTied w c.leave_all.new.self c.change.new.self c.change-2.new.self c.change-3.new.self (c.self.inside.running - c.from.result) (length c.push.new.self.items) (vec_capacity c.push.new.self)) (sym c.in-Some.ensures.new)
    (tied_gone c.self.inside.threads c.args.thread c.in-Some.waiting c.self.inside.queues c.leave_all.new.self c.self.inside.ready c.change.new.self
    c.self.inside.everywhere c.change-2.new.self c.self.inside.left c.change-3.new.self c.self.inside.running (c.self.inside.running - c.from.result) _ _ _ _ c.self.invariant at
    (λ x u. c.leave_all.ensures x u ∙ ap (λ (xs : List Spot). spot_has c.self.inside.queues x u && not (listed x xs && nat_eq u c.args.thread)) c.as_slice.ensures)
    (c.change.ensures.member, c.change.ensures.ascending c.self.invariant.ready_set.ascending, c.change.ensures.room)
    (c.change-2.ensures.member, c.change-2.ensures.ascending c.self.invariant.everywhere_set.ascending, c.change-2.ensures.room)
    (c.change-3.ensures.member, c.change-3.ensures.ascending c.self.invariant.left_set.ascending, c.change-3.ensures.room)
    (runs_less c.self.inside.threads c.args.thread c.in-Some.waiting c.self.inside.running c.from.result at c.self.invariant.runners c.from.ensures)
    room)

pub invariant_of-self-else-is_noted : goal.invariant_of-self-else-is_noted
invariant_of-self-else-is_noted c =
    let at = sym c.in-Some.ensures.value in
    subst (λ (w : WaitMap). IsTied w c.leave_all.new.self c.change.new.self c.change-2.new.self c.change-3.new.self (c.self.inside.running - c.from.result) (length c.self.inside.gone.items) (vec_capacity c.self.inside.gone)) (sym c.in-Some.ensures.new)
    (tied_gone c.self.inside.threads c.args.thread c.in-Some.waiting c.self.inside.queues c.leave_all.new.self c.self.inside.ready c.change.new.self
    c.self.inside.everywhere c.change-2.new.self c.self.inside.left c.change-3.new.self c.self.inside.running (c.self.inside.running - c.from.result) _ _ _ _ c.self.invariant at
    (λ x u. c.leave_all.ensures x u ∙ ap (λ (xs : List Spot). spot_has c.self.inside.queues x u && not (listed x xs && nat_eq u c.args.thread)) c.as_slice.ensures)
    (c.change.ensures.member, c.change.ensures.ascending c.self.invariant.ready_set.ascending, c.change.ensures.room)
    (c.change-2.ensures.member, c.change-2.ensures.ascending c.self.invariant.everywhere_set.ascending, c.change-2.ensures.room)
    (c.change-3.ensures.member, c.change-3.ensures.ascending c.self.invariant.left_set.ascending, c.change-3.ensures.room)
    (runs_less c.self.inside.threads c.args.thread c.in-Some.waiting c.self.inside.running c.from.result at c.self.invariant.runners c.from.ensures)
    (gone_less c.self.inside.threads c.args.thread _ _ c.self.invariant.gone_room))
