use Rattle.std.proofs.Common.{◌≡◌, length}
use Rattle.rv_syntax.specs.Text.{trim_start}
use Rattle.rv_syntax.proofs.text.trim_start.Given as goal

abbrev pub invariant-loop-text : goal.invariant-loop-text
invariant-loop-text l = trim_start l.text ≡ trim_start l.fn.text

abbrev pub decreases-loop-text : goal.decreases-loop-text
decreases-loop-text l = length l.text
