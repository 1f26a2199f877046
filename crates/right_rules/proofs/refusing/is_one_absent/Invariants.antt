use Rattle.std.proofs.Common.{◌≡◌, drop}
use Rattle.kernel_model.specs.Need.{some_absent}
use Rattle.right_rules.proofs.refusing.is_one_absent.Given as goal

-- whether one is absent is decided by those that are left
abbrev pub invariant-loop-fd : goal.invariant-loop-fd
invariant-loop-fd l = some_absent l.table (drop l.fd-index l.fds) ≡ some_absent l.table l.fds
