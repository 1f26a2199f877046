use Rattle.std.proofs.Common.{is_some, refl, sym, ap}
use Rattle.wait_set.specs.declared.waiting.Waiting.{Waiting}
use Rattle.wait_set.specs.Waits.{is_everywhere, is_left, is_ready}
use Rattle.wait_set.proofs.Tying.{known_at, put_kept, queued_kept, room_for, tied_put}
use Rattle.wait_set.proofs.wait_set.WaitSet.spread.Goals as goal

pub change-requires : goal.change-requires
change-requires c =
    let at = sym c.get_mut-waiting.ensures.value in
    record {
      known = known_at is_everywhere c.self.inside.threads c.args.thread c.get_mut-waiting.result.now c.self.inside.everywhere _ c.self.invariant.everywhere_set at refl;
      room = λ _ none. room_for is_everywhere c.self.inside.threads c.args.thread c.self.inside.everywhere c.self.invariant.everywhere_set (ap is_some at) none;
    }

pub invariant_of-self : goal.invariant_of-self
invariant_of-self c =
    let at = sym c.get_mut-waiting.ensures.value in
    let s = c.get_mut-waiting.result.now in
    let new : Waiting = record { spots = s.spots; everywhere = c.args.everywhere; ready = s.ready; left = s.left; runs = s.runs } in
    tied_put c.self.inside.threads c.args.thread s new c.self.inside.queues c.self.inside.queues c.self.inside.ready c.self.inside.ready c.self.inside.everywhere c.change.new.self
    c.self.inside.left c.self.inside.left c.self.inside.running _ _ _ c.self.invariant at
    (queued_kept c.self.inside.threads c.args.thread s c.self.inside.queues c.self.invariant.queued at)
    (put_kept is_ready c.self.inside.threads c.args.thread s c.self.inside.ready (is_ready new) c.self.invariant.ready_set at refl)
    (c.change.ensures.member, c.change.ensures.ascending c.self.invariant.everywhere_set.ascending, c.change.ensures.room)
    (put_kept is_left c.self.inside.threads c.args.thread s c.self.inside.left (is_left new) c.self.invariant.left_set at refl)
    refl
