-- Events of polls.
use Rattle.std.specs.Prelude.{ℕ}
use Rattle.abi_base.specs.Errno.{number_of}
use Rattle.abi_base.specs.declared.errno.Errno.TheVariants.{Success}
use Rattle.abi_structures.specs.Events.{number_of as type_number}
use Rattle.abi_structures.specs.declared.events.Event.{Event}
use Rattle.abi_structures.specs.declared.events.EventType.{EventType}

-- an event of this type without an error, for the subscription with this number of the caller's; what its type lacks is 0
abbrev pub event_of : ℕ → EventType → Event
event_of userdata kind =
    record { userdata = userdata; error = number_of Success; kind = type_number kind; nbytes = 0; flags = 0; signal = 0; code = 0 }
