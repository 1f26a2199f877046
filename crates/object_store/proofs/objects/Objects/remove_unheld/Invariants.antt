use Rattle.std.proofs.Common.{◌≡◌}
use Rattle.std.specs.FinMap.{len}
use Rattle.object_store.specs.Objects.{unheld_removed}
use Rattle.object_store.proofs.objects.Objects.remove_unheld.Given as goal

-- the same is left in the end
abbrev pub invariant-loop : goal.invariant-loop
invariant-loop l = unheld_removed l.self ≡ unheld_removed l.fn.self

-- a turn takes one open away
abbrev pub decreases-loop : goal.decreases-loop
decreases-loop l = len l.self.counts
