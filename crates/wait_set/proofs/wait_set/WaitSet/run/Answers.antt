use Rattle.std.specs.Bool.{nat_eq}
use Rattle.wait_set.specs.declared.spot.Spot.{Spot}
use Rattle.wait_set.specs.Spots.{listed}
use Rattle.wait_set.specs.SpotQueues.{spot_has}
use Rattle.wait_set.proofs.Spotting.{listed_lasting}
use Rattle.std.proofs.Common.{◌&&◌, List, is_some, true, false, not, refl, sym, ap, ◌∙◌, arith}
use Rattle.wait_set.specs.declared.waiting.Waiting.{Waiting}
use Rattle.wait_set.specs.Waits.{is_everywhere, is_left, is_ready, is_running, lasts}
use Rattle.wait_set.proofs.Tying.{bit_most, bit_not, counted_most, known_at, queued_less, room_for, tied_put}
use Rattle.wait_set.proofs.wait_set.WaitSet.run.Goals as goal

pub change-requires : goal.change-requires
change-requires c =
    let at = sym c.get_mut-waiting.ensures.value in
    record {
      known = known_at is_ready c.self.inside.threads c.args.thread c.get_mut-waiting.result.now c.self.inside.ready _ c.self.invariant.ready_set at c.is_ready.ensures;
      room = λ _ none. room_for is_ready c.self.inside.threads c.args.thread c.self.inside.ready c.self.invariant.ready_set (ap is_some at) none;
    }

pub change-requires-2 : goal.change-requires-2
change-requires-2 c =
    let at = sym c.get_mut-waiting.ensures.value in
    record {
      known = known_at is_everywhere c.self.inside.threads c.args.thread c.get_mut-waiting.result.now c.self.inside.everywhere _ c.self.invariant.everywhere_set at refl;
      room = λ _ none. room_for is_everywhere c.self.inside.threads c.args.thread c.self.inside.everywhere c.self.invariant.everywhere_set (ap is_some at) none;
    }

pub change-requires-3 : goal.change-requires-3
change-requires-3 c =
    let at = sym c.get_mut-waiting.ensures.value in
    record {
      known = known_at is_left c.self.inside.threads c.args.thread c.get_mut-waiting.result.now c.self.inside.left _ c.self.invariant.left_set at c.is_left.ensures;
      room = λ _ none. room_for is_left c.self.inside.threads c.args.thread c.self.inside.left c.self.invariant.left_set (ap is_some at) none;
    }

pub overflow_add-self : goal.overflow_add-self
overflow_add-self c =
    let most = counted_most is_running c.self.inside.threads in
    let is = c.self.invariant.runners in
    let room = c.self.invariant.gone_room in
    let small = c.self.inside.gone.small in
    let byte = bit_most (not c.get_mut-waiting.result.now.runs) in
    omega (arith, c.from.ensures)

pub invariant_of-self : goal.invariant_of-self
invariant_of-self c =
    let at = sym c.get_mut-waiting.ensures.value in
    let s = c.get_mut-waiting.result.now in
    let new : Waiting = record { spots = c.drop_moments.new.self; everywhere = false; ready = false; left = true; runs = true } in
    tied_put c.self.inside.threads c.args.thread s new c.self.inside.queues c.leave_moments.new.self c.self.inside.ready c.change.new.self c.self.inside.everywhere c.change-2.new.self
    c.self.inside.left c.change-3.new.self c.self.inside.running _ _ _ c.self.invariant at
    (queued_less c.self.inside.threads c.args.thread s c.self.inside.queues c.leave_moments.new.self c.drop_moments.new.self (λ x. listed x s.spots && not (lasts x)) c.self.invariant.queued at
    (λ x u. c.leave_moments.ensures x u ∙ ap (λ (xs : List Spot). spot_has c.self.inside.queues x u && not ((listed x xs && not (lasts x)) && nat_eq u c.args.thread)) c.as_slice.ensures)
    (λ x. ap (listed x) c.drop_moments.ensures ∙ listed_lasting x s.spots))
    (c.change.ensures.member, c.change.ensures.ascending c.self.invariant.ready_set.ascending, c.change.ensures.room)
    (c.change-2.ensures.member, c.change-2.ensures.ascending c.self.invariant.everywhere_set.ascending, c.change-2.ensures.room)
    (c.change-3.ensures.member, c.change-3.ensures.ascending c.self.invariant.left_set.ascending, c.change-3.ensures.room)
    (let one = bit_not s.runs in let here = c.from.ensures in omega arith)
