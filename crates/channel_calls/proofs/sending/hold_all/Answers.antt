-- Each descriptor holds its open once more, and the others follow.
use Rattle.std.proofs.Common.{◌≡◌, ℕ, ◌+◌, ap, subst, ◌∙◌, arith}
use Rattle.std.specs.FinMap.{get}
use Rattle.maps.specs.Maps.{number}
use Rattle.kernel_model.specs.Release.{count_carried}
use Rattle.channel_calls.specs.Sends.{AreCarriable, AreHeld}
use Rattle.channel_calls.proofs.Sends.{count_carried_few, drop_at, held_once}
use Rattle.channel_calls.proofs.sending.hold_all.Goals as goal

pub hold-requires-clause-few : goal.hold-requires-clause-few
hold-requires-clause-few c =
    let d = c.descriptor-item.result in
    let left = drop_at c.args.carried.now c.loop-descriptor.descriptor-index d c.loop-descriptor-test.true c.descriptor-item.is in
    let room = subst (AreCarriable c.args.objects.now.counts) left c.loop-descriptor.invariant.carriable in
    omega (arith, room.0, c.loop-descriptor.invariant.counts d.id, count_carried_few d.id c.args.carried.now, c.requires.few)

pub loop-descriptor-preserved : goal.loop-descriptor-preserved
loop-descriptor-preserved c =
    let d = c.descriptor-item.result in
    let now = c.loop-descriptor.objects.counts in
    let left = drop_at c.args.carried.now c.loop-descriptor.descriptor-index d c.loop-descriptor-test.true c.descriptor-item.is in
    let once : (o : ℕ) → number (get c.hold.new.self.counts o) ≡ number (get now o) + _ =
    λ o. ap (λ held. number (get held.counts o)) c.hold.ensures ∙ held_once now d.id o in record {
      kinds = ap (λ held. held.kinds) c.hold.ensures ∙ c.loop-descriptor.invariant.kinds;
      counts = λ o. omega (arith, once o, ap (count_carried o) left, c.loop-descriptor.invariant.counts o);
      more = λ o. omega (arith, once o, c.loop-descriptor.invariant.more o);
      held = (subst (AreHeld c.args.objects.now.counts) left c.loop-descriptor.invariant.held).1;
      carriable = (subst (AreCarriable c.args.objects.now.counts) left c.loop-descriptor.invariant.carriable).1;
    }
