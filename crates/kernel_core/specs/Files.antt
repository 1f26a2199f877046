-- Calls that work on the open of a descriptor.
use Rattle.std.specs.Prelude.{ℕ}
use Rattle.std.specs.FinMap.{get}
use Rattle.abi_types.specs.declared.call.Call.{Call}
use Rattle.abi_types.specs.declared.constants.Constants.{Constants}
use Rattle.kernel_model.specs.Families.ClockCalls.{real_time}
use Rattle.kernel_model.specs.Families.FileCalls.{file_meaning}
use Rattle.kernel_model.specs.Families.FileMeaning.{open_of}
use Rattle.kernel_model.specs.Outcome.{Outcome}
use Rattle.kernel_model.specs.State.{State, Table, tree_of}
use Rattle.kernel_model.specs.View.{whole}

-- what the call comes to that works on the open of this descriptor of a table
abbrev pub file_outcome : Constants → State → Table → ℕ → Call → Outcome
file_outcome constants S table fd call =
    (file_meaning call).effect (real_time constants S.clock) (tree_of S) (open_of (whole S) (get table fd))
