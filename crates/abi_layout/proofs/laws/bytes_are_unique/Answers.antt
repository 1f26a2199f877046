use Rattle.abi_layout.proofs.Unique as lemmas
use Rattle.abi_layout.proofs.laws.bytes_are_unique.Goals as goal

pub returns : goal.returns
returns c = lemmas.bytes_are_unique
