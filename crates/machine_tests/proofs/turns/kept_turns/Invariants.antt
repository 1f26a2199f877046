use Rattle.rv_interp.specs.Cache.{AreTrue}
use Rattle.machine_tests.proofs.turns.kept_turns.Given as goal

-- the cache is true of the memory
abbrev pub invariant-loop-turns : goal.invariant-loop-turns
invariant-loop-turns l = AreTrue l.memory l.cache
