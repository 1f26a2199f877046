use Rattle.abi_layout.proofs.ReadBack as lemmas
use Rattle.abi_layout.proofs.laws.event_is_read_back.Goals as goal

pub returns : goal.returns
returns c = lemmas.event_is_read_back
