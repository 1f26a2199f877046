use Rattle.std.proofs.Common.{length}
use Rattle.channel_calls.proofs.installing.+install.Given as goal

abbrev pub decreases-install : goal.decreases-install
decreases-install l = length l.descriptors.now
