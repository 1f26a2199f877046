use Rattle.std.proofs.Common.{nat_lt, ap, ◌∙◌}
use Rattle.wait_set.specs.Waits.{WaitMap, counted, is_running}
use Rattle.wait_set.proofs.wait_set.WaitSet.has_running.Goals as goal

pub returns : goal.returns
returns c = ap (λ n. nat_lt 0 n) (c.self.invariant.runners ∙ ap (λ (w : WaitMap). counted is_running w) c.self.view_is)
