use Rattle.call_codec.proofs.Starts.{next_entry}
use Rattle.call_codec.proofs.start.append_entries.Goals as goal

pub loop-number-preserved : goal.loop-number-preserved
loop-number-preserved c = next_entry c.loop-number.bytes c.append_entry.new.bytes _ c.args.entries.now c.loop-number.number-index _ c.loop-number-test.true c.in_ok-append_entry.ensures c.loop-number.invariant
