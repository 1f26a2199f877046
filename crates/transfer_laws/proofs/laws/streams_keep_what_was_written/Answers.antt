use Rattle.transfer_laws.proofs.StreamSteps as steps
use Rattle.transfer_laws.proofs.Streams as streams
use Rattle.transfer_laws.proofs.laws.streams_keep_what_was_written.Goals as goal

pub returns-clause-writes : goal.returns-clause-writes
returns-clause-writes c = streams.writes_append

pub returns-clause-reads : goal.returns-clause-reads
returns-clause-reads c = streams.reads_take_first

pub returns-clause-steps : goal.returns-clause-steps
returns-clause-steps c = steps.streams_go_on

pub returns-clause-wakes : goal.returns-clause-wakes
returns-clause-wakes c = steps.wakes_go_on

pub returns-clause-ends : goal.returns-clause-ends
returns-clause-ends c = steps.ends_keep_streams

pub returns-clause-begins : goal.returns-clause-begins
returns-clause-begins c = streams.streams_begin
