-- Where threads stand that wait: at all that says whether they go on.
use Rattle.std.specs.Prelude.{◌≡◌, ℕ, Bool, true, false, List, [], ◌∷◌, ◌++◌, Option, None, Some}
use Rattle.std.specs.List.{AllByRecursion}
use Rattle.std.specs.Ordering.{nat_cmp}
use Rattle.std.specs.FinMap.{FinMap, get}
use Rattle.abi_structures.specs.declared.events.Subscription.{Subscription}
use Rattle.abi_structures.specs.declared.events.What.{What}
use Rattle.abi_structures.specs.declared.events.What.TheVariants.{FdRead, FdWrite, ProcTerminate}
use Rattle.abi_types.specs.declared.call.Call.{Call}
use Rattle.abi_types.specs.declared.call.Call.TheVariants as call
use Rattle.abi_types.specs.declared.descriptor.Descriptor.{Descriptor}
use Rattle.abi_types.specs.declared.open_kind.OpenKind.{OpenKind}
use Rattle.abi_types.specs.declared.open_kind.OpenKind.TheVariants.{File, Directory, End, Terminal, Process}
use Rattle.abi_types.specs.declared.thread.Thread.{Thread}
use Rattle.abi_types.specs.declared.thread.Thread.TheVariants.{Runnable, Waits}
use Rattle.kernel_model.specs.Calls.{meaning_of}
use Rattle.kernel_model.specs.Deadlines.{is_due}
use Rattle.kernel_model.specs.Families.ChannelCalls.{is_nonblocking}
use Rattle.kernel_model.specs.State.{State, Table, thread_of}

-- A spot at which threads may stand: a process's descriptors, what an open is of, its flags, a channel, how a process stands, what a thread does, and a
-- moment.
pub data Spot : Type 0 where
  on_table : ℕ → Spot
  on_open : ℕ → Spot
  on_flags : ℕ → Spot
  on_channel : ℕ → Spot
  on_end : ℕ → Spot
  on_thread : ℕ → ℕ → Spot
  on_moment : ℕ → Spot

-- ---- what a call looks at

-- what a call looks for behind an open: at the channel that it reads, at the one that it writes, or at how the process stands that it is of
pub data Purpose : Type 0 where
  to_read : Purpose
  to_write : Purpose
  to_await : Purpose

-- the number of a descriptor at whose open a call looks, whether the open's flags count, and what for it looks
pub record Look : Type 0 where
  pub fd : ℕ
  pub flags : Bool
  pub purpose : Purpose

-- a poll looks at no flags
abbrev pub polled_by : What → List Look → List Look
polled_by (FdRead fd) rest = record { fd = fd; flags = false; purpose = to_read } ∷ rest
polled_by (FdWrite fd) rest = record { fd = fd; flags = false; purpose = to_write } ∷ rest
polled_by (ProcTerminate fd) rest = record { fd = fd; flags = false; purpose = to_await } ∷ rest
polled_by other rest = rest

abbrev pub polled : List Subscription → List Look
polled [] = []
polled (s ∷ rest) = polled_by s.what (polled rest)

abbrev pub looks_of : Call → List Look
looks_of (call.FdRead fd n) = record { fd = fd; flags = true; purpose = to_read } ∷ []
looks_of (call.FdWrite fd bytes) = record { fd = fd; flags = true; purpose = to_write } ∷ []
looks_of (call.SockRecv fd n room flags) = record { fd = fd; flags = true; purpose = to_read } ∷ []
looks_of (call.SockSend fd bytes fds flags) = record { fd = fd; flags = true; purpose = to_write } ∷ []
looks_of (call.Poll subscriptions) = polled subscriptions
looks_of other = []

-- ---- the spots of a thread

abbrev pub channel_spot : Option ℕ → List Spot
channel_spot None = []
channel_spot (Some c) = on_channel c ∷ []

abbrev pub behind_spots : Purpose → Option OpenKind → List Spot
behind_spots to_read (Some (End reads writes flags form)) = channel_spot reads
behind_spots to_write (Some (End reads writes flags form)) = channel_spot writes
behind_spots to_await (Some (Process p object)) = on_end p ∷ []
behind_spots purpose other = []

-- what stands behind an open, after its flags where they count; where nothing stands there nobody waits, whatever the flags say
abbrev pub with_flags : Bool → ℕ → List Spot → List Spot
with_flags counts o [] = []
with_flags false o (spot ∷ rest) = spot ∷ rest
with_flags true o (spot ∷ rest) = on_flags o ∷ spot ∷ rest

-- the open that a descriptor names, its flags where they count, and what stands behind it
abbrev pub descriptor_spots : FinMap nat_cmp OpenKind → Look → Option Descriptor → List Spot
descriptor_spots opens look None = []
descriptor_spots opens look (Some d) = on_open d.id ∷ with_flags look.flags d.id (behind_spots look.purpose (get opens d.id))

-- all that is looked at so by a table
abbrev pub look_spots : FinMap nat_cmp OpenKind → Table → List Look → List Spot
look_spots opens table [] = []
look_spots opens table (look ∷ looks) = descriptor_spots opens look (get table look.fd) ++ look_spots opens table looks

abbrev pub table_spots : FinMap nat_cmp OpenKind → Option Table → List Look → List Spot
table_spots opens None looks = []
table_spots opens (Some table) looks = look_spots opens table looks

abbrev pub moment_spot : Option ℕ → List Spot
moment_spot None = []
moment_spot (Some until) = on_moment until ∷ []

-- What a call looks at while a thread waits in it: its process's descriptors, and what those lead to. For a lock or at a condition variable a
-- thread waits for nothing of that.
abbrev pub call_spots : Bool → State → ℕ → Call → List Spot
call_spots true S p call = []
call_spots false S p call = on_table p ∷ table_spots S.opens (get S.tables p) (looks_of call)

abbrev pub waiting_spots : State → ℕ → Option Thread → List Spot
waiting_spots S p None = []
waiting_spots S p (Some Runnable) = []
waiting_spots S p (Some (Waits call since until stage)) = moment_spot until ++ call_spots (meaning_of call).by_stage S p call

-- The spots at which a thread stands: what it does itself, the moment until which it waits, and what its call looks at.
abbrev pub spots : State → ℕ → ℕ → List Spot
spots S p t = on_thread p t ∷ waiting_spots S p (thread_of S p t)

-- ---- spots that are the same

-- what an open is of, whatever its offset and its flags
abbrev pub bare : Option OpenKind → Option OpenKind
bare None = None
bare (Some (File node offset flags)) = Some (File node 0 0)
bare (Some (Directory node flags)) = Some (Directory node 0)
bare (Some (End reads writes flags form)) = Some (End reads writes 0 form)
bare (Some (Terminal which flags)) = Some (Terminal which 0)
bare (Some (Process p object)) = Some (Process p object)

-- whether it is an end of which nobody waits (NONBLOCK)
abbrev pub never_waits : Option OpenKind → Bool
never_waits (Some (End reads writes flags form)) = is_nonblocking flags
never_waits other = false

-- The spot is the same in both states; a moment is where it has come in both or in none.
abbrev pub IsSame : State → State → Spot → Type 0
IsSame S T (on_table p) = get S.tables p ≡ get T.tables p
IsSame S T (on_open o) = bare (get S.opens o) ≡ bare (get T.opens o)
IsSame S T (on_flags o) = never_waits (get S.opens o) ≡ never_waits (get T.opens o)
IsSame S T (on_channel c) = get S.chans c ≡ get T.chans c
IsSame S T (on_end p) = get S.statuses p ≡ get T.statuses p
IsSame S T (on_thread p t) = thread_of S p t ≡ thread_of T p t
IsSame S T (on_moment until) = is_due S.clock (Some until) ≡ is_due T.clock (Some until)

abbrev pub AreSame : State → State → List Spot → Type 0
AreSame S T those = AllByRecursion (IsSame S T) those
