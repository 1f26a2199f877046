use Rattle.transfer_laws.proofs.EndReads.{reads_keep_sides, reads_take}
use Rattle.transfer_laws.proofs.Receives.{receives_take}
use Rattle.transfer_laws.proofs.Sends.{sends_put}
use Rattle.transfer_laws.proofs.laws.transfers_leave_channels.Goals as goal

pub returns-clause-reads : goal.returns-clause-reads
returns-clause-reads c = reads_take

pub returns-clause-sides : goal.returns-clause-sides
returns-clause-sides c = reads_keep_sides

pub returns-clause-receives : goal.returns-clause-receives
returns-clause-receives c = receives_take

pub returns-clause-sends : goal.returns-clause-sends
returns-clause-sends c = sends_put
