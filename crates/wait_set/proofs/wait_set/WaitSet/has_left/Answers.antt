use Rattle.std.proofs.Common.{sym, ◌∙◌}
use Rattle.wait_set.proofs.Tying.{none_next}
use Rattle.wait_set.proofs.wait_set.WaitSet.has_left.Goals as goal

pub returns : goal.returns
returns c = λ none. none_next _ c.next_left.result c.next_left.ensures (sym c.is_some.ensures ∙ none)
