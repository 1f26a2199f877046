-- Calls on the socket of a descriptor.
use Rattle.std.specs.Prelude.{ℕ}
use Rattle.std.specs.FinMap.{get}
use Rattle.abi_types.specs.declared.call.Call.{Call}
use Rattle.kernel_model.specs.Outcome.{Outcome}
use Rattle.kernel_model.specs.State.{State, Table}
use Rattle.kernel_parts.specs.Entries.{open_in}
use Rattle.kernel_parts.specs.Waiting.{socket_at}

-- what the call of process p comes to on the open of this descriptor of its table
abbrev pub socket_on : State → ℕ → Table → ℕ → Call → Outcome
socket_on S p table fd called = socket_at p table S.chans (open_in S.opens (get table fd)) called
