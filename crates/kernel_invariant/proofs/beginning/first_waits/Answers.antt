use Rattle.std.proofs.Common.{ap, ◌∙◌}
use Rattle.std.specs.FinMap.{get, get-empty}
use Rattle.kernel_invariant.proofs.beginning.first_waits.Goals as goal

pub begin-requires : goal.begin-requires
begin-requires c = ap (λ m. get m c.thread_key.result) c.new-waits.ensures ∙ get-empty _ _
