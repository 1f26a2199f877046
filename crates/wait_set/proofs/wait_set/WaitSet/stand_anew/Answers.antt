use Rattle.std.proofs.Common.{◌≡◌, Bool, false, inl, inr, is_some, List, Some, Result, Ok, Err, refl, sym, ap, subst, ◌∙◌}
use Rattle.std.specs.FinMap.{get, insert}
use Rattle.std.specs.Result.{is_err, OnOk}
use Rattle.std.specs.declared.alloc.AllocError.{AllocError}
use Rattle.wait_set.specs.declared.spot.Spot.{Spot}
use Rattle.wait_set.specs.declared.waiting.Waiting.{Waiting}
use Rattle.wait_set.specs.Waits.{WaitMap, flag, is_everywhere, is_left, is_ready, lists, IsStood}
use Rattle.wait_set.proofs.Tying.{known_at, put_kept, room_for, tied_put}
use Rattle.wait_set.proofs.wait_set.WaitSet.stand_anew.Goals as goal

stood_by : (r : Result (Unit {0}) AllocError) (everywhere : Bool) (own spots : List Spot) (s : Waiting) → everywhere ≡ is_err r → OnOk r (own ≡ spots)
    → IsStood spots s (record s { spots = own; everywhere = everywhere })
stood_by (Ok u) everywhere own spots s is ok = inl (ap (λ b. record s { spots = own; everywhere = b }) is ∙ ap (λ (xs : List Spot). record s { spots = xs; everywhere = false }) ok)
stood_by (Err e) everywhere own spots s is ok = inr (own, ap (λ b. record s { spots = own; everywhere = b }) is)

pub change-requires : goal.change-requires
change-requires c =
    let at = sym c.get_mut-waiting.ensures.value in
    record {
      known = known_at is_everywhere c.self.inside.threads c.args.thread c.get_mut-waiting.result.now c.self.inside.everywhere _ c.self.invariant.everywhere_set at refl;
      room = λ _ none. room_for is_everywhere c.self.inside.threads c.args.thread c.self.inside.everywhere c.self.invariant.everywhere_set (ap is_some at) none;
    }

pub invariant_of-self : goal.invariant_of-self
invariant_of-self c =
    let at = sym c.get_mut-waiting.ensures.value in
    let s = c.get_mut-waiting.result.now in
    let new : Waiting = record { spots = c.take_anew-stands.new.own; everywhere = c.is_err-everywhere.result; ready = s.ready; left = s.left; runs = s.runs } in
    tied_put c.self.inside.threads c.args.thread s new c.self.inside.queues c.take_anew-stands.new.queues c.self.inside.ready c.self.inside.ready c.self.inside.everywhere c.change.new.self
    c.self.inside.left c.self.inside.left c.self.inside.running _ _ _ c.self.invariant at
    (c.take_anew-stands.ensures.stands)
    (put_kept is_ready c.self.inside.threads c.args.thread s c.self.inside.ready (is_ready new) c.self.invariant.ready_set at refl)
    (c.change.ensures.member, c.change.ensures.ascending c.self.invariant.everywhere_set.ascending, c.change.ensures.room)
    (put_kept is_left c.self.inside.threads c.args.thread s c.self.inside.left (is_left new) c.self.invariant.left_set at refl)
    refl

pub take_anew-stands-requires : goal.take_anew-stands-requires
take_anew-stands-requires c = λ x. c.self.invariant.queued x c.args.thread ∙ ap (flag (lists x)) (sym c.get_mut-waiting.ensures.value)

pub returns : goal.returns
returns c =
    let s = c.get_mut-waiting.result.now in
    let new : Waiting = record { spots = c.take_anew-stands.new.own; everywhere = c.is_err-everywhere.result; ready = s.ready; left = s.left; runs = s.runs } in
    record {
      there = λ it at.
          let is : Some s ≡ Some it = c.get_mut-waiting.ensures.value ∙ ap (λ (w : WaitMap). get w c.args.thread) c.self.view_is ∙ at in
          let same : s ≡ it = cc in (
            new,
            ap (λ (w : WaitMap). insert w c.args.thread new) c.self.view_is,
            subst (λ (x : Waiting). IsStood c.args.spots.now x new) same
                (stood_by c.take_anew-stands.result c.is_err-everywhere.result c.take_anew-stands.new.own c.args.spots.now s c.is_err-everywhere.ensures.value c.take_anew-stands.ensures.ok),
          );
    }
