use Rattle.std.proofs.Common.{◌≡◌, ◌+◌}
use Rattle.wait_set.specs.Waits.{AreTested, IsExact, is_left, counted}
use Rattle.wait_set.proofs.wait_set.WaitSet.next_settled.Given as goal

abbrev pub invariant-loop-thread : goal.invariant-loop-thread
invariant-loop-thread g l =
    record {
      tested : AreTested (g.P.Parts.ready l.parts) l.fn.self l.self;
      counted : l.steps + counted is_left l.self ≡ l.fn.steps + counted is_left l.fn.self;
      exact : IsExact (g.P.Parts.ready l.parts) l.fn.self → IsExact (g.P.Parts.ready l.parts) l.self;
    }

abbrev pub decreases-loop-thread : goal.decreases-loop-thread
decreases-loop-thread g l = counted is_left l.self
