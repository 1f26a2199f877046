-- Calls that move the open of a descriptor.
use Rattle.std.specs.Prelude.{ℕ}
use Rattle.std.specs.FinMap.{get}
use Rattle.abi_types.specs.declared.call.Call.{Call}
use Rattle.abi_types.specs.declared.constants.Constants.{Constants}
use Rattle.fd_calls.specs.Calls.{offset_meaning}
use Rattle.kernel_model.specs.Families.ClockCalls.{real_time}
use Rattle.kernel_model.specs.Families.OpenMeaning.{at_descriptor}
use Rattle.kernel_model.specs.Outcome.{Outcome}
use Rattle.kernel_model.specs.State.{State, Table}
use Rattle.kernel_model.specs.View.{whole}

-- what the call comes to that moves the open of this descriptor of a table
abbrev pub offset_outcome : Constants → State → Table → ℕ → Call → Outcome
offset_outcome constants S table fd called =
    at_descriptor ((offset_meaning called).effect (real_time constants S.clock) (whole S)) (whole S) (get table fd)
