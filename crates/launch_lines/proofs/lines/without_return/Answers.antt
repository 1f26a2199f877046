use Rattle.std.proofs.lemmas.Bool.{ne_eqb}
use Rattle.launch_lines.proofs.Pieces.{return_goes, other_stays}
use Rattle.launch_lines.proofs.lines.without_return.Goals as goal

pub returns-then-last-eq13-clause-value : goal.returns-then-last-eq13-clause-value
returns-then-last-eq13-clause-value c = return_goes _ _ _ c.in-Some.ensures.cases.0 c.if-last-eq13.true

pub returns-else-last-eq13-clause-value : goal.returns-else-last-eq13-clause-value
returns-else-last-eq13-clause-value c = other_stays _ c.in-Some.front.now c.in-Some.last.now c.in-Some.ensures.cases.0 (ne_eqb _ _ c.if-last-eq13.false)
