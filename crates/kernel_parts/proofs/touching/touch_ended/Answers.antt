use Rattle.std.proofs.Common.{ap, ◌∙◌}
use Rattle.std.specs.FinMap.{get}
use Rattle.wait_set.specs.declared.spot.Spot.TheVariants.{Ended}
use Rattle.wait_set.specs.Next.{is_between}
use Rattle.wait_set.specs.Waits.{stands, touched, where_so}
use Rattle.kernel_parts.specs.Keys.{is_own}
use Rattle.kernel_parts.specs.Touching.{gone_if}
use Rattle.kernel_parts.proofs.LeftEntries.{removed_then_left}
use Rattle.kernel_parts.proofs.touching.touch_ended.Goals as goal

pub returns : goal.returns
returns c =
    removed_then_left (stands (Ended c.args.pid)) (is_own c.args.pid) c.args.waits.now c.remove_between.new.self c.touch.new.self
    (λ k. c.remove_between.ensures k ∙ ap (λ b. gone_if b (get c.args.waits.now k)) (λ i. is_between (c.thread_key.ensures i) (c.end_key.ensures i) k))
    (c.touch.ensures.marks ∙ ap (λ p. where_so (stands (Ended p)) (λ _ w. touched w) c.remove_between.new.self) (c.from.ensures ∙ c.pid.view_is))
