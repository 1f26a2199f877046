use Rattle.std.proofs.Common.{◌≡◌, ◌&&◌, Bool, is_some, true, false, refl, sym, ap, arith}
use Rattle.wait_set.specs.declared.waiting.Waiting.{Waiting}
use Rattle.wait_set.specs.Waits.{is_everywhere, is_left, is_ready}
use Rattle.wait_set.proofs.Tying.{known_at, put_as, put_kept, queued_kept, room_for, runs_less, runs_within, tied_put}
use Rattle.wait_set.proofs.wait_set.WaitSet.rest.Goals as goal

and_true : (b : Bool) → b ≡ (b && true)
and_true true = refl
and_true false = refl

pub change-requires : goal.change-requires
change-requires c =
    let at = sym c.get_mut-waiting.ensures.value in
    record {
      known = known_at is_ready c.self.inside.threads c.args.thread c.get_mut-waiting.result.now c.self.inside.ready _ c.self.invariant.ready_set at c.is_ready.ensures;
      room = λ _ none. room_for is_ready c.self.inside.threads c.args.thread c.self.inside.ready c.self.invariant.ready_set (ap is_some at) none;
    }

pub change-requires-2 : goal.change-requires-2
change-requires-2 c =
    let at = sym c.get_mut-waiting.ensures.value in
    record {
      known = known_at is_left c.self.inside.threads c.args.thread c.get_mut-waiting.result.now c.self.inside.left _ c.self.invariant.left_set at c.is_left.ensures;
      room = λ _ none. room_for is_left c.self.inside.threads c.args.thread c.self.inside.left c.self.invariant.left_set (ap is_some at) none;
    }

pub overflow_sub-self : goal.overflow_sub-self
overflow_sub-self c = runs_within c.self.inside.threads c.args.thread c.get_mut-waiting.result.now c.self.inside.running c.from.result (sym c.get_mut-waiting.ensures.value) c.self.invariant.runners c.from.ensures

pub invariant_of-self : goal.invariant_of-self
invariant_of-self c =
    let at = sym c.get_mut-waiting.ensures.value in
    let s = c.get_mut-waiting.result.now in
    let new : Waiting = record { spots = s.spots; everywhere = s.everywhere; ready = false; left = c.args.is_left; runs = false } in
    tied_put c.self.inside.threads c.args.thread s new c.self.inside.queues c.self.inside.queues c.self.inside.ready c.change.new.self c.self.inside.everywhere c.self.inside.everywhere
    c.self.inside.left c.change-2.new.self c.self.inside.running _ _ _ c.self.invariant at
    (queued_kept c.self.inside.threads c.args.thread s c.self.inside.queues c.self.invariant.queued at)
    (c.change.ensures.member, c.change.ensures.ascending c.self.invariant.ready_set.ascending, c.change.ensures.room)
    (put_kept is_everywhere c.self.inside.threads c.args.thread s c.self.inside.everywhere s.everywhere c.self.invariant.everywhere_set at refl)
    (put_as c.args.thread c.args.is_left (is_left new) c.self.inside.left c.change-2.new.self (and_true c.args.is_left) (c.change-2.ensures.member, c.change-2.ensures.ascending c.self.invariant.left_set.ascending, c.change-2.ensures.room))
    (let less = runs_less c.self.inside.threads c.args.thread s c.self.inside.running c.from.result at c.self.invariant.runners c.from.ensures in omega (arith, less))
