use Rattle.authority_laws.proofs.Copies as copies
use Rattle.authority_laws.proofs.laws.rights_are_lowered.Goals as goal

pub returns : goal.returns
returns c = copies.rights_are_lowered
