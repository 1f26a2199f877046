use Rattle.std.proofs.Common.{length, ◌-◌, ◌≡◌, ◌≤◌, take}
use Rattle.input_output.specs.Sink.{grown}
use Rattle.input_output.proofs.whole.write_whole.Given as goal

abbrev pub invariant-loop-done : goal.invariant-loop-done
invariant-loop-done g l =
    (g.K.Sink.faults l.fn.sink ≤ g.K.Sink.faults l.sink) × (l.done ≤ length l.bytes)
    × (g.K.Sink.written l.sink ≡ grown (g.K.Sink.written l.fn.sink) (take l.done l.bytes))

abbrev pub decreases-loop-done : goal.decreases-loop-done
decreases-loop-done g l = length l.bytes - l.done
