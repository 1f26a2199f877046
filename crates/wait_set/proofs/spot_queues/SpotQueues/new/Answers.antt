use Rattle.wait_set.proofs.Spotting.{nobody}
use Rattle.wait_set.proofs.spot_queues.SpotQueues.new.Goals as goal

pub returns : goal.returns
returns c = nobody _ c.new.ensures c.new-2.ensures c.new-3.ensures
