use Rattle.std.proofs.Common.{arith}
use Rattle.std.specs.FinMap.{get}
use Rattle.kernel_invariant.specs.Readiness.{places_by_key}
use Rattle.kernel_invariant.proofs.HeldEntries.{flagged, gathered_more, gathered_none}
use Rattle.kernel_invariant.proofs.Walking.{next_behind}
use Rattle.wait_set.specs.Waits.{is_everywhere}
use Rattle.kernel_invariant.proofs.readiness.gather.Goals as goal

pub loop-key-init : goal.loop-key-init
loop-key-init c = gathered_none (places_by_key c.args.objects.now.kinds c.args.tables.now c.args.processes.now) c.args.waits.now

pub loop-key-smaller : goal.loop-key-smaller
loop-key-smaller c =
    let from = next_behind _ c.loop-key.after c.in-Some.key c.in-Some.ensures in
    omega (arith, from)

pub stand_anew-requires : goal.stand_anew-requires
stand_anew-requires c = flagged is_everywhere (get c.loop-key.waits c.in-Some.key) c.in-Some.ensures.1

pub loop-key-preserved : goal.loop-key-preserved
loop-key-preserved c =
    gathered_more (places_by_key c.args.objects.now.kinds c.args.tables.now c.args.processes.now) c.in-Some.key c.args.waits.now c.loop-key.waits c.stand_anew.new.waits
    c.loop-key.invariant (flagged is_everywhere (get c.loop-key.waits c.in-Some.key) c.in-Some.ensures.1) c.stand_anew.ensures
