use Rattle.std.proofs.Common.{◌-◌, ◌<◌, ◌≤◌, length}
use Rattle.guest_memory.specs.Written.{KeepsUnwritable}
use Rattle.rv_interp.specs.Cache.{AreTrue, IsFound}
use Rattle.rv_interp.specs.Machine.{machine}
use Rattle.rv_interp.specs.Turns.{Does}
use Rattle.rv_interp.proofs.runs.run_regions.Given as goal

-- the instructions so far were done, the slots are true of the memory, and the pc is at a place of them
abbrev pub invariant-loop-done : goal.invariant-loop-done
invariant-loop-done l = record {
  done : Does l.done (machine l.fn.regs l.fn.mem l.fn.held) (machine l.regs l.mem l.held);
  few : l.done ≤ l.fn.most;
  regions : AreTrue l.mem l.fn.regions;
  here : IsFound l.fn.regions l.regs.pc l.here;
  last : l.last < length l.fn.regions;
  unwritable : KeepsUnwritable l.fn.mem l.mem;
}

abbrev pub decreases-loop-done : goal.decreases-loop-done
decreases-loop-done l = l.fn.most - l.done
