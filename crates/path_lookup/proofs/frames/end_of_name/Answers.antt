use Rattle.std.proofs.Common.{arith, ◌∙◌}
use Rattle.path_lookup.proofs.Names.{byte_joined}
use Rattle.path_lookup.proofs.frames.end_of_name.Goals as goal

pub loop-end-preserved : goal.loop-end-preserved
loop-end-preserved c = record {
  after = omega arith;
  within = omega arith;
  same = c.loop-end.invariant.same
      ∙ byte_joined c.args.text.now c.args.from c.loop-end.end c.loop-end.invariant.after (omega arith) c.if-text-end-ne47.true;
}
