use Rattle.std.proofs.Common.{ap, arith}
use Rattle.rv_syntax.specs.Names.{rows}
use Rattle.rv_asm.proofs.Assembling.{reached_more, reached_end, reached_taken}
use Rattle.rv_asm.proofs.assembly.emit.Goals as goal

pub loop-i-preserved : goal.loop-i-preserved
loop-i-preserved c =
    reached_more c.in-Some.piece (rows c.deref.result.now) _ c.loop-i.invariant (omega arith) c.as_bytes.ensures.value c.as_bytes-in-loop-i.ensures.value (ap rows c.deref.ensures.value)
    c.in-Some.ensures.exact c.in-Some.ensures.size c.in_ok-pass.ensures.labels c.in_ok-pass.ensures.address c.in_ok-append_to.ensures

pub returns-clause-ok : goal.returns-clause-ok
returns-clause-ok c = reached_end c.loop-i.invariant (omega arith)

pub returns-clause-taken : goal.returns-clause-taken
returns-clause-taken c = reached_taken c.loop-i.invariant (omega arith)
