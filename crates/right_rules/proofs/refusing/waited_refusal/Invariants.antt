use Rattle.std.proofs.Common.{◌≡◌}
use Rattle.kernel_model.specs.Need.{refusal}
use Rattle.kernel_model.specs.Families.WaitCalls.{fds_of, wait_rows}
use Rattle.right_rules.proofs.Waits.{left_at, refusal_after}
use Rattle.right_rules.proofs.refusing.waited_refusal.Given as goal

-- the refusal is decided by the lack that was met, if one was, and by the rows that are left
abbrev pub invariant-loop-subscription : goal.invariant-loop-subscription
invariant-loop-subscription l =
    refusal_after l.table l.lack (left_at l.subscriptions l.subscription-index)
    ≡ refusal l.table (fds_of (wait_rows l.subscriptions)) (wait_rows l.subscriptions)
