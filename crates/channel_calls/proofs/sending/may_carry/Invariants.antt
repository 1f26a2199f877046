use Rattle.std.proofs.Common.{drop}
use Rattle.channel_calls.specs.Sends.{AreCarriable}
use Rattle.channel_calls.proofs.sending.may_carry.Given as goal

-- whether all may be carried is decided by those that are left
abbrev pub invariant-loop-descriptor : goal.invariant-loop-descriptor
invariant-loop-descriptor l = AreCarriable l.objects.counts (drop l.descriptor-index l.carried) → AreCarriable l.objects.counts l.carried
