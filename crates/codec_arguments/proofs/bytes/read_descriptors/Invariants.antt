use Rattle.std.proofs.Common.{◌≡◌, ◌-◌}
use Rattle.codec_arguments.specs.Bytes.{descriptors_in}
use Rattle.codec_arguments.proofs.Gathering.{after_read}
use Rattle.codec_arguments.proofs.bytes.read_descriptors.Given as goal

-- the numbers so far, and those that are left, are all
abbrev pub invariant-loop : goal.invariant-loop
invariant-loop l = after_read l.fds (descriptors_in l.memory l.next (l.count - l.counter)) ≡ descriptors_in l.memory l.at l.count
