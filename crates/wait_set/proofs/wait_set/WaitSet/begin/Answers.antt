use Rattle.std.proofs.Common.{true, false, ◌+◌, ◌≤◌, length, refl, sym, ap, subst, ◌∙◌, arith}
use Rattle.std.specs.FinMap.{get, len}
use Rattle.std.specs.Prelude.{vec_capacity}
use Rattle.maps.specs.Maps.{len-insert_new}
use Rattle.wait_set.specs.declared.waiting.Waiting.{Waiting}
use Rattle.wait_set.specs.Spots.{listed}
use Rattle.wait_set.specs.Waits.{WaitMap, lists, is_ready, is_everywhere, is_left, is_running}
use Rattle.wait_set.specs.Tied.{IsTied}
use Rattle.wait_set.proofs.Tying.{counted_begun, counted_most, flag_begun, flagged_begun}
use Rattle.wait_set.proofs.wait_set.WaitSet.begin.Goals as goal

pub overflow_add-self : goal.overflow_add-self
overflow_add-self c =
    let most = counted_most is_running c.self.inside.threads in
    let is = c.self.invariant.runners in
    let small = c.len-count.ensures.small in
    omega (arith, c.len-count.ensures.len)

pub invariant_of-self-2 : goal.invariant_of-self-2
invariant_of-self-2 c =
    let threads = c.self.inside.threads in
    let none = ap (λ (w : WaitMap). get w c.args.thread) c.self.view_is ∙ c.requires in
    let room : len c.self.inside.threads + 1 ≤ c.make_room.new.self.room = omega (arith, c.in_ok-make_room.ensures.ok, c.len-count.ensures.len) in
    let room_2 : len c.self.inside.threads + 1 ≤ c.make_room-2.new.self.room = omega (arith, c.in_ok-make_room-2.ensures.ok, c.len-count.ensures.len) in
    let room_3 : len c.self.inside.threads + 1 ≤ c.make_room-3.new.self.room = omega (arith, c.in_ok-make_room-3.ensures.ok, c.len-count.ensures.len) in
    let new : Waiting = record { spots = c.new.result; everywhere = false; ready = false; left = true; runs = true } in
    subst (λ (w : WaitMap). IsTied w c.self.inside.queues c.make_room.new.self c.make_room-2.new.self c.make_room-3.new.self (c.self.inside.running + 1) (length c.reserve.new.self.items) (vec_capacity c.reserve.new.self)) (sym c.in_ok-insert.ensures.ok)
    (record {
      queued = λ x u. c.self.invariant.queued x u ∙ sym (flag_begun (lists x) threads c.args.thread new none (ap (listed x) c.new.ensures) u);
      ready_set = flagged_begun is_ready threads c.args.thread new c.self.inside.ready c.make_room.new.self c.self.invariant.ready_set none refl c.make_room.ensures.list room;
      everywhere_set = flagged_begun is_everywhere threads c.args.thread new c.self.inside.everywhere c.make_room-2.new.self c.self.invariant.everywhere_set none refl c.make_room-2.ensures.list room_2;
      left_set = flagged_begun is_left threads c.args.thread new c.self.inside.left c.make_room-3.new.self c.self.invariant.left_set none refl c.make_room-3.ensures.list room_3;
      runners = let more = counted_begun is_running threads c.args.thread new none in let was = c.self.invariant.runners in omega arith;
      gone_room = let size = len-insert_new threads c.args.thread new none in omega (arith, c.in_ok-reserve.ensures.ok, c.reserve.ensures.items, c.len-count.ensures.len);
    })
