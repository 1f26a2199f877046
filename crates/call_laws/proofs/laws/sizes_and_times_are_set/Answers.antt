use Rattle.call_laws.proofs.Sizes.{sizes_and_times_are_set}
use Rattle.call_laws.proofs.laws.sizes_and_times_are_set.Goals as goal

pub returns : goal.returns
returns c = sizes_and_times_are_set
