use Rattle.launch_scalars.proofs.LastSpaces.{behind_space, behind_other}
use Rattle.launch_scalars.proofs.spaces.without_last_spaces.Goals as goal

pub returns-then-last-ne32 : goal.returns-then-last-ne32
returns-then-last-ne32 c =
    behind_other c.loop-last.front.now c.in-Some.before.now c.args.bytes.now c.in-Some.last.now c.in-Some.ensures.cases.0 c.if-last-ne32.true c.loop-last.invariant

pub loop-last-preserved : goal.loop-last-preserved
loop-last-preserved c =
    behind_space c.loop-last.front.now c.in-Some.before.now c.args.bytes.now c.in-Some.last.now c.in-Some.ensures.cases.0 c.if-last-ne32.false c.loop-last.invariant
