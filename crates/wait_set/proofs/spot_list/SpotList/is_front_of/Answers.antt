use Rattle.std.proofs.Common.{◌<◌, length, sym, ◌∙◌, arith}
use Rattle.wait_set.proofs.Spotting.{front_all, front_more}
use Rattle.wait_set.proofs.spot_list.SpotList.is_front_of.Goals as goal

pub loop-place-preserved : goal.loop-place-preserved
loop-place-preserved c =
    let within : c.loop-place.place < length c.args.spots.now = omega (arith, c.deref-spot-items.ensures.len, c.len-count.ensures, c.loop-place-test.true, c.if-spots-count.false) in
    front_more c.deref-spot-items.result.now c.args.spots.now c.loop-place.place _ c.loop-place-test.true within c.loop-place.invariant (sym c.is_same.ensures ∙ c.if-not-is_same.false)

pub returns : goal.returns
returns c = λ _.
    front_all c.deref-spot-items.result.now c.args.spots.now c.args.self.now c.loop-place.place (c.deref-spot-items.ensures.value ∙ c.self.view_is)
    c.loop-place.auto.place-end c.loop-place-test.false c.loop-place.invariant
