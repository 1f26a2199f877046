use Rattle.std.proofs.Common.{◌≡◌, ◌≤◌, ◌-◌}
use Rattle.abi_base.specs.declared.limits.TheConstants.{MOST_DESCRIPTORS}
use Rattle.kernel_parts.proofs.Holding.{IsHeldBelow}
use Rattle.kernel_parts.proofs.table.hold_all.Given as goal

-- what is named under the numbers so far is held once more
abbrev pub invariant-loop-left : goal.invariant-loop-left
invariant-loop-left l = record {
  few : l.fd ≤ MOST_DESCRIPTORS;
  kinds : l.objects.kinds ≡ l.fn.objects.kinds;
  so_far : IsHeldBelow l.fd l.left l.table l.fn.objects.counts l.objects.counts;
}

abbrev pub decreases-loop-left : goal.decreases-loop-left
decreases-loop-left l = MOST_DESCRIPTORS - l.fd
