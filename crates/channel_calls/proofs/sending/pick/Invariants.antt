use Rattle.std.proofs.Common.{◌≡◌, ◌+◌, ◌≤◌, length, drop}
use Rattle.kernel_model.specs.Families.ChannelCalls.{picked}
use Rattle.channel_calls.proofs.Sends.{put_all}
use Rattle.channel_calls.proofs.sending.pick.Given as goal

-- those that are left to be copied come behind those that were
abbrev pub invariant-loop-fd : goal.invariant-loop-fd
invariant-loop-fd l = record {
  count : l.count + length (picked l.table (drop l.fd-index l.fds)) ≡ length (picked l.table l.fds);
  within : l.count ≤ l.fd-index;
  filled : put_all l.count (picked l.table (drop l.fd-index l.fds)) l.out ≡ put_all 0 (picked l.table l.fds) l.initial.out;
}
