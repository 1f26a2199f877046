use Rattle.std.proofs.Common.{◌+◌, ◌-◌, ap, arith}
use Rattle.std.specs.FinMap.{len}
use Rattle.guest_memory.specs.Page.{Pages}
use Rattle.guest_memory.proofs.PageRanges.{inside}
use Rattle.guest_memory.proofs.Changes.{counted_none, counted_next, counted_all}
use Rattle.guest_memory.proofs.page_map.count_pages.Goals as goal

pub loop-number-init : goal.loop-number-init
loop-number-init c =
    record { few = omega arith; high = omega arith; counted = counted_none c.args.pages.now c.args.first }

pub loop-number-preserved : goal.loop-number-preserved
loop-number-preserved c =
    let few = c.loop-number.invariant.few in
    let high = c.loop-number.invariant.high in
    let counted = c.loop-number.invariant.counted in
    let place = inside c.loop-number.from (c.args.first + c.args.count - c.loop-number.from) c.in-Some.number
    c.in-Some.ensures.within in
    let next = counted_next c.args.pages.now c.args.first c.loop-number.from
    (c.args.first + c.args.count - c.loop-number.from) c.in-Some.number (omega (arith, few)) c.in-Some.ensures in
    record {
      few = omega (arith, few, place.0);
      high = omega (arith, high, place.1);
      counted = omega (arith, counted, next);
    }

pub returns : goal.returns
returns c =
    let few = c.loop-number.invariant.few in
    let counted = c.loop-number.invariant.counted in
    let all = ap (λ (x : Pages). len x)
    (counted_all c.args.pages.now c.args.first c.loop-number.from c.args.count (omega (arith, few))
    c.loop-number.invariant.high c.in_default.ensures) in
    omega (arith, counted, all)
