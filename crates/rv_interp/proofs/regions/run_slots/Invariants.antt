use Rattle.std.proofs.Common.{◌-◌, ◌<◌, length}
use Rattle.guest_memory.specs.Written.{KeepsUnwritable}
use Rattle.rv_interp.specs.Cache.{AreTrueFrom}
use Rattle.rv_interp.specs.Turns.{Does}
use Rattle.rv_interp.proofs.KeptLaws.{at_place}
use Rattle.rv_interp.proofs.regions.run_slots.Given as goal

-- the instructions so far were done, the slots are true of the memory, and there is one at the place
abbrev pub invariant-loop-done : goal.invariant-loop-done
invariant-loop-done l = record {
  done : Does (l.done - l.fn.from) (at_place l.fn.regs l.fn.base l.fn.at l.fn.mem l.fn.held) (at_place l.regs l.fn.base l.place l.mem l.held);
  slots : AreTrueFrom l.mem l.fn.base l.fn.slots;
  within : l.place < length l.fn.slots;
  unwritable : KeepsUnwritable l.fn.mem l.mem;
}
