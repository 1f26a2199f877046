use Rattle.std.specs.FinMap.{get}
use Rattle.std.proofs.Common.{◌≡◌, ◌&&◌, Bool, is_some, true, false, not, refl, sym, ap, ◌∙◌}
use Rattle.wait_set.specs.declared.waiting.Waiting.{Waiting}
use Rattle.wait_set.specs.Waits.{WaitMap, flag, is_everywhere, is_left, is_ready, is_running}
use Rattle.wait_set.proofs.Tying.{known_at, put_as, put_kept, queued_kept, room_for, tied_put}
use Rattle.wait_set.proofs.wait_set.WaitSet.mark.Goals as goal

waits_mark : (b r : Bool) → r ≡ false → b ≡ (b && not r)
waits_mark true r is = ap not (sym is)
waits_mark false r is = refl

pub change-requires : goal.change-requires
change-requires c =
    let at = sym c.get_mut-waiting.ensures.value in
    record {
      known = known_at is_ready c.self.inside.threads c.args.thread c.get_mut-waiting.result.now c.self.inside.ready _ c.self.invariant.ready_set at c.is_ready.ensures;
      room = λ _ none. room_for is_ready c.self.inside.threads c.args.thread c.self.inside.ready c.self.invariant.ready_set (ap is_some at) none;
    }

pub change-requires-2 : goal.change-requires-2
change-requires-2 c =
    let at = sym c.get_mut-waiting.ensures.value in
    record {
      known = known_at is_left c.self.inside.threads c.args.thread c.get_mut-waiting.result.now c.self.inside.left _ c.self.invariant.left_set at c.is_left.ensures;
      room = λ _ none. room_for is_left c.self.inside.threads c.args.thread c.self.inside.left c.self.invariant.left_set (ap is_some at) none;
    }

pub invariant_of-self : goal.invariant_of-self
invariant_of-self c =
    let at = sym c.get_mut-waiting.ensures.value in
    let s = c.get_mut-waiting.result.now in
    let new : Waiting = record { spots = s.spots; everywhere = s.everywhere; ready = c.args.ready; left = false; runs = s.runs } in
    let waits : s.runs ≡ false = sym (ap (flag is_running) at) ∙ ap (λ (w : WaitMap). flag is_running (get w c.args.thread)) c.self.view_is ∙ c.requires.waits in
    tied_put c.self.inside.threads c.args.thread s new c.self.inside.queues c.self.inside.queues c.self.inside.ready c.change.new.self c.self.inside.everywhere c.self.inside.everywhere
    c.self.inside.left c.change-2.new.self c.self.inside.running _ _ _ c.self.invariant at
    (queued_kept c.self.inside.threads c.args.thread s c.self.inside.queues c.self.invariant.queued at)
    (put_as c.args.thread c.args.ready (is_ready new) c.self.inside.ready c.change.new.self (waits_mark c.args.ready s.runs waits) (c.change.ensures.member, c.change.ensures.ascending c.self.invariant.ready_set.ascending, c.change.ensures.room))
    (put_kept is_everywhere c.self.inside.threads c.args.thread s c.self.inside.everywhere s.everywhere c.self.invariant.everywhere_set at refl)
    (c.change-2.ensures.member, c.change-2.ensures.ascending c.self.invariant.left_set.ascending, c.change-2.ensures.room)
    refl
