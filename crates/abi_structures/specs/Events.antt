use Rattle.std.specs.Prelude.{◌≢◌, ℕ}
use Rattle.abi_structures.specs.declared.events.EventType.{EventType}
use Rattle.abi_structures.specs.declared.events.EventType.TheVariants as types
use Rattle.abi_structures.specs.declared.events.What.{What}
use Rattle.abi_structures.specs.declared.events.What.TheVariants as what

-- the number of each type of event in this profile
abbrev pub number_of : EventType → ℕ
number_of types.Clock = 1
number_of types.Condvar = 2
number_of types.FdRead = 3
number_of types.FdWrite = 4
number_of types.LockRdlock = 5
number_of types.LockWrlock = 6
number_of types.ProcTerminate = 7

-- no type of event has this number
abbrev pub IsOfNoType : ℕ → Type 0
IsOfNoType number = (event_type : EventType) → number_of event_type ≢ number

-- the type of the event that is waited for
abbrev pub type_of : What → EventType
type_of (what.Clock clock timeout precision flags) = types.Clock
type_of (what.Condvar condvar condvar_word lock lock_word condvar_scope lock_scope) = types.Condvar
type_of (what.FdRead fd) = types.FdRead
type_of (what.FdWrite fd) = types.FdWrite
type_of (what.LockRdlock lock word scope) = types.LockRdlock
type_of (what.LockWrlock lock word scope) = types.LockWrlock
type_of (what.ProcTerminate fd) = types.ProcTerminate
