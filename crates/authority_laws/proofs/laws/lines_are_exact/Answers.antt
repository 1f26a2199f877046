use Rattle.authority_laws.proofs.Copies as copies
use Rattle.authority_laws.proofs.laws.lines_are_exact.Goals as goal

pub returns : goal.returns
returns c = copies.lines_are_exact
