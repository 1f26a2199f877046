use Rattle.std.proofs.Common.{arith, ◌∙◌}
use Rattle.input_output.proofs.InputParts.{next_read, still_within}
use Rattle.input_output.proofs.whole.read_whole.Goals as goal

pub loop-bytes-preserved : goal.loop-bytes-preserved
loop-bytes-preserved g c =
    let kept = c.loop-bytes.invariant in
    let appended = c.in_ok-append.ensures.ok in (
      λ n. c.in_ok-count.ensures.content_stays n ∙ kept.0 n,
      λ n h. c.in_ok-count.ensures.may_read_stays n (kept.1 n h),
      omega arith,
      still_within _ _ _ _ _ _ appended c.len-in-loop-bytes.ensures kept.3 (omega arith),
      next_read _ _ _ _ _ _ _ (kept.0 c.args.name.now) c.len.ensures appended (omega (arith, c.in_ok-count.ensures.at_most)) kept.4 c.in_ok-count.ensures.content,
    )
