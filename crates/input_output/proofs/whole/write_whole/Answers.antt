use Rattle.std.proofs.Common.{arith}
use Rattle.input_output.proofs.OutputParts.{within_piece, part_written, part_failed, for_err}
use Rattle.input_output.proofs.whole.write_whole.Goals as goal

pub returns-in_err-done-clause-failed_prefix : goal.returns-in_err-done-clause-failed_prefix
returns-in_err-done-clause-failed_prefix g c =
    for_err _ (part_failed _ _ _ _ _ c.loop-done.invariant.2 c.in_err-done.ensures.failed_prefix)

pub loop-done-preserved : goal.loop-done-preserved
loop-done-preserved g c = (
  omega arith,
  within_piece c.args.bytes.now c.loop-done.done _ c.loop-done.invariant.1 c.in_ok-done.ensures.at_most,
  part_written _ _ _ _ _ _ c.loop-done.invariant.2 c.in_ok-done.ensures.ok,
)
