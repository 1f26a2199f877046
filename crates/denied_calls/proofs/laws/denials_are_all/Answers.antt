use Rattle.denied_calls.proofs.DenialLaws as laws
use Rattle.denied_calls.proofs.laws.denials_are_all.Goals as goal

pub returns : goal.returns
returns c = laws.denials_are_all
