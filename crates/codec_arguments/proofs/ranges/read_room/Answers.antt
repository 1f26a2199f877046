use Rattle.std.proofs.Common.{◌≡◌, ◌≤◌, ◌-◌, ◌+◌, sym, ◌∙◌, arith}
use Rattle.std.proofs.lemmas.Result.{err_from_is_err_and}
use Rattle.codec_arguments.specs.declared.ranges.TheConstants.{MOST_TRANSFERRED}
use Rattle.codec_arguments.proofs.RoomParts.{no_part, part_counts, part_faults}
use Rattle.codec_arguments.proofs.ranges.read_room.Goals as goal

pub returns-in_err-room : goal.returns-in_err-room
returns-in_err-room c =
    let fault =
    part_faults c.args.memory.now c.loop.room c.loop.next c.args.count c.loop.counter (MOST_TRANSFERRED - c.loop.room) _ c.loop-test.true
    (sym c.read_part.ensures.part ∙ c.in_err-room.was) in
    let p = err_from_is_err_and c.from_residual.result c.from_residual.ensures.1 in
    rw (p.1, p.2) (sym fault ∙ c.loop.invariant.all)

pub loop-preserved : goal.loop-preserved
loop-preserved c =
    let n = c.in_ok-room.field-0 in
    let less : n ≤ c.loop.room = c.in_ok-room.ensures.less in
    let within = c.loop.invariant.room in
    let more : MOST_TRANSFERRED - c.loop.room + n ≡ MOST_TRANSFERRED - (c.loop.room - n) = omega (arith, less, within) in
    let counts =
    part_counts c.args.memory.now c.loop.room c.loop.next c.args.count c.loop.counter (MOST_TRANSFERRED - c.loop.room) n (MOST_TRANSFERRED - (c.loop.room - n))
    c.loop-test.true (sym c.read_part.ensures.part ∙ c.in_ok-room.was) more in
    record { all = sym counts ∙ c.loop.invariant.all; room = omega (arith, within) }

pub returns : goal.returns
returns c =
    sym (no_part c.args.memory.now c.loop.room c.loop.next (c.args.count - c.loop.counter) (MOST_TRANSFERRED - c.loop.room) (omega arith)) ∙ c.loop.invariant.all
