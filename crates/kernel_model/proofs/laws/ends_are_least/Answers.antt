use Rattle.kernel_model.proofs.Ending.{ends_in_any_order}
use Rattle.kernel_model.proofs.Ends as ends
use Rattle.kernel_model.proofs.laws.ends_are_least.Goals as goal

pub returns-clause-opens : goal.returns-clause-opens
returns-clause-opens c = ends.ends_are_least

pub returns-clause-processes : goal.returns-clause-processes
returns-clause-processes c = ends.killed_by_last_open

pub returns-clause-channels : goal.returns-clause-channels
returns-clause-channels c = λ S channel. (ends.reader_lost_by S channel, ends.writer_lost_by S channel)

pub returns-clause-order : goal.returns-clause-order
returns-clause-order c = λ S T. ends_in_any_order S T
