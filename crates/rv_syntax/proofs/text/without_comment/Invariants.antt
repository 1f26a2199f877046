use Rattle.std.proofs.Common.{◌≡◌, false, take, drop, ◌++◌}
use Rattle.rv_syntax.specs.Text.{without_comment}
use Rattle.rv_syntax.proofs.text.without_comment.Given as goal

abbrev pub invariant-loop-i : goal.invariant-loop-i
invariant-loop-i l = take l.i l.line ++ without_comment l.quoted (drop l.i l.line) ≡ without_comment false l.line
