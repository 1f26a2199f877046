use Rattle.call_codec.proofs.ThreadOutputs.{thread_starts}
use Rattle.call_codec.proofs.laws.threads_start.Goals as goal

pub returns : goal.returns
returns c = thread_starts
