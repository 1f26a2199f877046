use Rattle.std.proofs.Common.{◌≡◌, ◌-◌, ◌<◌, ◌≤◌, length, take, Ok, sym, ap, ◌∙◌, arith}
use Rattle.std.proofs.lemmas.List.{take_all, take_more_set}
use Rattle.std.proofs.lemmas.Result.{err_from_is_err_and}
use Rattle.guest_memory.specs.Bytes.{bytes_at}
use Rattle.codec_arguments.specs.Ranges.{range_in}
use Rattle.codec_arguments.proofs.Gathering.{fault_left, next_left, none_left}
use Rattle.codec_arguments.proofs.ranges.fill_ranges.Goals as goal

pub returns-in_err-range-clause-fault : goal.returns-in_err-range-clause-fault
returns-in_err-range-clause-fault c =
    let i = c.loop-range.range-index in
    let some : 0 < length c.args.ranges.now - i = omega (arith, c.loop-range-test.true) in
    let p = err_from_is_err_and c.from_residual.result c.from_residual.ensures.1 in
    rw (p.1, p.2) (sym c.loop-range.invariant
    ∙ fault_left (λ at. range_in (bytes_at c.args.memory.now at 16)) 16 (take i c.loop-range.ranges) c.loop-range.next _ c.in_err-range.field-0.0 some
    (sym c.read_range.ensures ∙ c.in_err-range.was))

pub loop-range-preserved : goal.loop-range-preserved
loop-range-preserved c =
    let i = c.loop-range.range-index in
    let below : i < length c.loop-range.ranges = omega (arith, c.loop-range-test.true, c.loop-range.auto.ranges) in
    let next =
    next_left (λ at. range_in (bytes_at c.args.memory.now at 16)) 16 (take i c.loop-range.ranges) c.in_ok-range.field-0 c.loop-range.next
    (length c.args.ranges.now) i c.loop-range-test.true (sym c.read_range.ensures ∙ c.in_ok-range.was) in
    rw (take_more_set c.loop-range.ranges i c.in_ok-range.field-0 below) (sym next ∙ c.loop-range.invariant)

pub returns-clause-ok : goal.returns-clause-ok
returns-clause-ok c =
    let i = c.loop-range.range-index in
    let over : length c.args.ranges.now - i ≡ 0 = omega (arith, c.loop-range-test.false) in
    let all : length c.loop-range.ranges ≤ i = omega (arith, c.loop-range-test.false, c.loop-range.auto.ranges) in
    sym c.loop-range.invariant
    ∙ none_left (λ at. range_in (bytes_at c.args.memory.now at 16)) 16 (take i c.loop-range.ranges) c.loop-range.next _ over
    ∙ ap Ok (take_all i c.loop-range.ranges all)
