use Rattle.std.proofs.Common.{◌+◌, ◌-◌, ◌≤◌}
use Rattle.rv_interp.specs.Cache.{AreTrue}
use Rattle.rv_interp.specs.Machine.{machine}
use Rattle.rv_interp.specs.Turns.{Does, fresh}
use Rattle.rv_interp.proofs.turns.turn.Given as goal

-- the instructions that aren't left were done, and the cache is true of the memory
abbrev pub invariant-loop : goal.invariant-loop
invariant-loop l = record {
  done : Does (4096 - l.left) (fresh l.fn.mem l.fn.regs) (machine l.regs l.mem l.held);
  few : l.left + l.counter ≤ 4096;
  slots : AreTrue l.mem l.cache;
}
