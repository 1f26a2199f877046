use Rattle.std.proofs.Common.{sym, ◌∙◌}
use Rattle.maps.specs.Halves.{not_true}
use Rattle.wait_set.proofs.wait_set.WaitSet.next_test.Goals as goal

pub returns-in_err-left-clause-none : goal.returns-in_err-left-clause-none
returns-in_err-left-clause-none c = λ _ t later left. absurd (not_true (sym (c.in_err-left.ensures t later) ∙ left))
