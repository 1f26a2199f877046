-- Where a thread stands that waits in a call: where what it waits for may come by.
--     read_place, write_place, end_place      the channel that an open reads, the one that it writes, the end of the process that it is of
--     awaited_place what      what a subscription waits for behind the open of its number, if for anything but a moment
--     polled_places, call_places      the same of all subscriptions, and of a call
--     wait_places      those of a thread's call, unless it waits for a lock or at a condition variable, and then the moment until which it waits
use Rattle.std.specs.Prelude.{ℕ, Option, None, Some, List, [], ◌∷◌, ◌++◌, if◌then◌else◌}
use Rattle.std.specs.Ordering.{nat_cmp}
use Rattle.std.specs.FinMap.{FinMap}
use Rattle.abi_structures.specs.declared.events.Subscription.{Subscription}
use Rattle.abi_structures.specs.declared.events.What.{What}
use Rattle.abi_structures.specs.declared.events.What.TheVariants as what
use Rattle.abi_types.specs.declared.call.Call.{Call}
use Rattle.abi_types.specs.declared.call.Call.TheVariants.{FdRead, FdWrite, Poll, SockRecv, SockSend}
use Rattle.abi_types.specs.declared.open_kind.OpenKind.{OpenKind}
use Rattle.abi_types.specs.declared.open_kind.OpenKind.TheVariants.{End, Process}
use Rattle.kernel_model.specs.Calls.{meaning_of}
use Rattle.kernel_model.specs.State.{Table}
use Rattle.kernel_parts.specs.Entries.{kind_with}
use Rattle.wait_set.specs.declared.spot.Spot.{Spot}
use Rattle.wait_set.specs.declared.spot.Spot.TheVariants.{Channel, Ended, Moment}

abbrev pub channel_place : Option ℕ → Option Spot
channel_place None = None
channel_place (Some c) = Some (Channel c)

abbrev pub moment_place : Option ℕ → Option Spot
moment_place None = None
moment_place (Some until) = Some (Moment until)

-- ---- behind an open

abbrev pub read_place : Option OpenKind → Option Spot
read_place (Some (End reads writes flags form)) = channel_place reads
read_place other = None

abbrev pub write_place : Option OpenKind → Option Spot
write_place (Some (End reads writes flags form)) = channel_place writes
write_place other = None

abbrev pub end_place : Option OpenKind → Option Spot
end_place (Some (Process p object)) = Some (Ended p)
end_place other = None

-- ---- what a call waits for

-- the place, if there is one, in a list
abbrev pub only : Option Spot → List Spot
only None = []
only (Some spot) = spot ∷ []

module _ (opens : FinMap nat_cmp OpenKind) (table : Option Table) where
  abbrev pub awaited_place : What → Option Spot
  awaited_place (what.FdRead fd) = read_place (kind_with opens table (Some fd))
  awaited_place (what.FdWrite fd) = write_place (kind_with opens table (Some fd))
  awaited_place (what.ProcTerminate fd) = end_place (kind_with opens table (Some fd))
  awaited_place other = None

  abbrev pub polled_places : List Subscription → List Spot
  polled_places [] = []
  polled_places (s ∷ rest) = only (awaited_place s.what) ++ polled_places rest

  abbrev pub call_places : Call → List Spot
  call_places (FdRead fd n) = only (read_place (kind_with opens table (Some fd)))
  call_places (FdWrite fd bytes) = only (write_place (kind_with opens table (Some fd)))
  call_places (SockRecv fd n room flags) = only (read_place (kind_with opens table (Some fd)))
  call_places (SockSend fd bytes fds flags) = only (write_place (kind_with opens table (Some fd)))
  call_places (Poll subscriptions) = polled_places subscriptions
  call_places other = []

  abbrev pub wait_places : Call → Option ℕ → List Spot
  wait_places call until = (if (meaning_of call).by_stage then [] else call_places call) ++ only (moment_place until)
