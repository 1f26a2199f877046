use Rattle.std.proofs.Common.{◌≡◌, drop}
use Rattle.call_codec.specs.Output.{with_descriptors}
use Rattle.call_codec.proofs.messages.put_descriptors.Given as goal

-- writing the numbers that are left comes to writing all of them
abbrev pub invariant-loop-fd : goal.invariant-loop-fd
invariant-loop-fd l = with_descriptors l.memory l.next (drop l.fd-index l.fds) ≡ with_descriptors l.fn.memory l.at l.fds
