-- Who holds which descriptors, and what a call leaves of that.
use Rattle.std.specs.Prelude.{ℕ, zero, suc, ◌+◌, ◌-◌, ◌==◌, ◌&&◌, bit_and, not, Bool, true, false, List, [], ◌∷◌, length, Option, None, Some, option_map, slice_get, if◌then◌else◌}
use Rattle.std.specs.FinMap.{FinMap, get, len}
use Rattle.std.specs.Ordering.{nat_cmp}
use Rattle.abi_base.specs.declared.errno.Errno.{Errno}
use Rattle.abi_base.specs.declared.errno.Errno.TheVariants.{Success}
use Rattle.abi_base.specs.declared.grant.Grant.{Grant}
use Rattle.abi_base.specs.declared.signal.Signal.{Signal}
use Rattle.abi_base.specs.declared.flags.TheConstants.{FDSTAT_RIGHTS}
use Rattle.abi_structures.specs.declared.structures.FdStat.{FdStat}
use Rattle.abi_types.specs.declared.reply.Answer.{Answer}
use Rattle.abi_types.specs.declared.reply.Answer.TheVariants as answer
use Rattle.abi_types.specs.declared.call.Call.{Call}
use Rattle.abi_types.specs.declared.call.Call.TheVariants.{FdClose, FdCreate2, FdDup, FdReplace, FdStatPut, FdWrite, FileOpen, ProcExec, ProcExit, ProcFork, ProcRaise, SockRecv, SockSend, ThreadExit}
use Rattle.abi_types.specs.declared.reply.Payload.{Payload}
use Rattle.abi_types.specs.declared.reply.Payload.TheVariants.{Received}
use Rattle.abi_types.specs.declared.reply.Reply.{Reply}
use Rattle.abi_types.specs.declared.descriptor.Descriptor.{Descriptor}
use Rattle.abi_types.specs.declared.open_kind.OpenKind.{OpenKind}
use Rattle.abi_types.specs.declared.open_kind.OpenKind.TheVariants.{End, Process}
use Rattle.abi_types.specs.declared.status.Status.{Status}
use Rattle.abi_types.specs.declared.status.Status.TheVariants.{Live}
use Rattle.kernel_model.specs.Channels.{Channel, Send}
use Rattle.kernel_model.specs.Families.DescriptorCalls.{lowered_to}
use Rattle.kernel_model.specs.Families.Numbers.{object_of}
use Rattle.kernel_model.specs.Families.Opening.{opened_descriptor}
use Rattle.kernel_model.specs.Families.ProcessCalls.{Raised, stops, passes, ends, raised_by, signal_of}
use Rattle.kernel_model.specs.ForkLaws.{nth_held}
use Rattle.kernel_model.specs.Start.{granted_descriptor}
use Rattle.kernel_model.specs.State.{ProcessState, State, Tree, counts_in}
use Rattle.kernel_model.specs.Fits.{fits}

-- what one process holds: the descriptor under each number, where there is one
abbrev pub Row : Type 0
Row = ℕ → Option Descriptor

abbrev pub no_row : Row
no_row n = None

-- the row in which this stands under number n
abbrev pub with_held : Row → ℕ → Option Descriptor → Row
with_held row n held m = if m == n then held else row m

-- the descriptors that each send on a channel carried: by the channel's number, and by which of its sends it was, the first being 1
abbrev pub Sends : Type 0
Sends = ℕ → ℕ → List Descriptor

-- what each process holds, and what each send carried, as it was when it was sent
pub record Ledger : Type 0 where
  pub held : ℕ → Row
  pub sent : Sends

-- the ledger with another row of process p
abbrev pub with_row : Ledger → ℕ → Row → Ledger
with_row l p row = record l { held = λ q. if q == p then row else l.held q }

-- the ledger with other sends
abbrev pub with_sends : Ledger → Sends → Ledger
with_sends l sent = record l { sent = sent }

-- ---- the start

-- what a launch gives: the n-th grant under number n
abbrev pub launch_row : Tree → List Grant → Row
launch_row tree grants n = option_map (granted_descriptor tree n) (slice_get grants n)

-- process 0 holds that, no other process holds anything, and nothing was sent
abbrev pub launch_ledger : Tree → List Grant → Ledger
launch_ledger tree grants = with_row (record { held = λ p. no_row; sent = λ c j. [] }) 0 (launch_row tree grants)

-- ---- what an entry shows of the state after it

-- an object that a process made, and the open that it is, if it is one
pub record Made : Type 0 where
  pub number : ℕ
  pub kind : Option OpenKind

-- the object of this number
abbrev pub object_at : State → ℕ → Made
object_at S number = record { number = number; kind = get S.opens number }

-- The object that a process made last has the number of its count.
abbrev pub last_made : State → ℕ → Made
last_made S p = object_at S (object_of p (counts_in (get S.processes p)).objects)

-- the object that it made last, the one before that, and so on
abbrev pub recently_made : State → ℕ → ℕ → Made
recently_made S p zero = last_made S p
recently_made S p (suc k) = object_at S (object_of p ((counts_in (get S.processes p)).objects - suc k))

-- the process that an open is of, if it is one of a process
abbrev pub process_of : Option OpenKind → Option ℕ
process_of (Some (Process q object)) = Some q
process_of _ = None

-- whether a process of this status is live
abbrev pub is_live : Option Status → Bool
is_live (Some Live) = true
is_live _ = false

-- how many sends a channel has had: those that have left it, and those that wait
abbrev pub sends_in : Option Channel → ℕ
sends_in None = 0
sends_in (Some channel) = channel.left + length channel.waiting

abbrev pub sends_of : State → ℕ → ℕ
sends_of S c = sends_in (get S.chans c)

-- what the first of these sends carries
abbrev pub first_carried : List Send → List Descriptor
first_carried [] = []
first_carried (send ∷ rest) = send.carried

abbrev pub carried_first : Option Channel → List Descriptor
carried_first None = []
carried_first (Some channel) = first_carried channel.waiting

-- what the first send carries that waits for an open, in the channel that this reads
abbrev pub waits_for : FinMap nat_cmp Channel → Option OpenKind → List Descriptor
waits_for chans (Some (End (Some c) writes flags form)) = carried_first (get chans c)
waits_for chans _ = []

-- whether a process has a thread left
abbrev pub has_thread : Option ProcessState → Bool
has_thread None = false
has_thread (Some own) = not (len own.threads == 0)

-- What the ledger reads of the states before and after an entry: of that before it, what the first send carries that waits for each open;
-- of that after it, the objects that the entry's process made, from the last one on; the process
-- that it made, if the last of these is the open of one; what each open is; how many sends each channel has had; whether the process has a
-- thread left; and whether each process is live. No table is among it.
pub record After : Type 0 where
  pub made : ℕ → Made
  pub child : Option ℕ
  pub opened : ℕ → Option OpenKind
  pub sends : ℕ → ℕ
  pub threaded : Bool
  pub live : ℕ → Bool
  pub came : ℕ → List Descriptor

abbrev pub after_of : State → State → ℕ → After
after_of before S p = record {
  made = recently_made S p;
  child = process_of (last_made S p).kind;
  opened = λ o. get S.opens o;
  sends = sends_of S;
  threaded = has_thread (get S.processes p);
  live = λ q. is_live (get S.statuses q);
  came = λ o. waits_for before.chans (get before.opens o);
}

-- ---- what is opened, and what is made

-- the descriptor of an open that was made, with the rights that are asked, as far as its type has them
abbrev pub opened_held : Made → FdStat → Option Descriptor
opened_held made stat = option_map (λ kind. opened_descriptor made.number kind stat) made.kind

-- whether opens of the kind are made of no descriptor: those of processes and of ends of channels
abbrev pub is_new : OpenKind → Bool
is_new (End reads writes flags form) = true
is_new (Process p object) = true
is_new _ = false

-- the descriptor of such an open, with all rights of its type: it passes on none
abbrev pub new_descriptor : ℕ → OpenKind → Descriptor
new_descriptor number kind = record { id = number; base = record { 0 = fits kind }; inheriting = record { 0 = 0 } }

abbrev pub new_held_of : ℕ → Option OpenKind → Option Descriptor
new_held_of number None = None
new_held_of number (Some kind) = if is_new kind then Some (new_descriptor number kind) else None

-- the descriptor of an open that was made of none, if it is one
abbrev pub new_held : Made → Option Descriptor
new_held made = new_held_of made.number made.kind

-- ---- what is received

-- the numbers under which descriptors were installed
abbrev pub installed_fds : Payload → List ℕ
installed_fds (Received bytes fds flags) = fds
installed_fds _ = []

-- the row in which these descriptors stand under these numbers, the first under the first, as long as there are numbers
abbrev pub put_each : Row → List ℕ → List Descriptor → Row
put_each row [] ds = row
put_each row (n ∷ fds) [] = row
put_each row (n ∷ fds) (d ∷ ds) = put_each (with_held row n (Some d)) fds ds

-- what waits first for the open of a descriptor
abbrev pub came_for : After → Option Descriptor → List Descriptor
came_for after None = []
came_for after (Some d) = after.came d.id

-- ---- signals

-- what a process holds that raises a signal, by what that does to it
abbrev pub raised_as : Raised → Row → Row
raised_as ends row = no_row
raised_as stops row = row
raised_as passes row = row

abbrev pub raised_row : Option Signal → Row → Row
raised_row None row = row
raised_row (Some signal) row = raised_as (raised_by signal) row

-- ---- calls

-- the row in which what stands under number n has those of its rights that are asked
abbrev pub lowered_row : Row → ℕ → FdStat → Row
lowered_row row n stat = with_held row n (option_map (λ d. lowered_to d stat) (row n))

-- What a process holds after its call that succeeded with this reply, row being what it held before, by what the state after it
-- shows. Each call that changes what its process holds has a line:
-- fd_close: nothing stands under the descriptor's number.
-- fd_create2: under its two results stand the two ends of channels that were made last, with all rights of their types.
-- fd_dup: under the number that is the result stands what stands under the descriptor's.
-- fd_replace: under the number `to` stands what stands under `from`.
-- fd_stat_put: the rights, which it sets where the flags have RIGHTS, are those held that are asked.
-- file_open: under the number that is the result stands the open made there, with the rights asked that are of its type.
-- proc_exec: under each number stands what stood under the one that the call lists in its place, and nothing under any other.
-- proc_exit: nothing is held.
-- proc_fork: under the number that is the result stands the open of the process that was made, with all rights of its type.
-- proc_raise: nothing is held where the process ends by the signal.
-- sock_recv: under the numbers in its reply stand the descriptors, in their order, that the first send carried that waited for its socket.
-- thread_exit: nothing is held where the process has no thread left, since it ends with its last one.
abbrev pub granted_row : After → Row → Call → Reply → Row
granted_row after row (FdClose fd) reply = with_held row fd None
granted_row after row (FdCreate2 kind) reply = with_held (with_held row reply.r1 (new_held (after.made 1))) reply.r2 (new_held (after.made 0))
granted_row after row (FdDup fd) reply = with_held row reply.r1 (row fd)
granted_row after row (FdReplace from to) reply = with_held row to (row from)
granted_row after row (FdStatPut fd stat flags) reply = if bit_and flags FDSTAT_RIGHTS == 0 then row else lowered_row row fd stat
granted_row after row (FileOpen lookup path oflags stat) reply = with_held row reply.r1 (opened_held (after.made 0) stat)
granted_row after row (ProcExec fd bytes fds) reply = nth_held row fds
granted_row after row (ProcExit code) reply = no_row
granted_row after row (ProcFork left) reply = with_held row reply.r1 (new_held (after.made 0))
granted_row after row (ProcRaise signal) reply = raised_row (signal_of signal) row
granted_row after row (SockRecv fd length fds flags) reply = put_each row (installed_fds reply.payload) (came_for after (row fd))
granted_row after row (ThreadExit lock word scope) reply = if after.threaded then row else no_row
granted_row after row _ reply = row

-- the process that a call made which succeeded: proc_fork makes one
abbrev pub made_child : After → Call → Option ℕ
made_child after (ProcFork left) = after.child
made_child after _ = None

-- ---- sends

-- the channel that an open writes, if it is an end that writes one
abbrev pub written_by : Option OpenKind → Option ℕ
written_by (Some (End reads writes flags form)) = writes
written_by _ = None

-- the channel that the descriptor's open writes
abbrev pub channel_of : After → Option Descriptor → Option ℕ
channel_of after None = None
channel_of after (Some d) = written_by (after.opened d.id)

abbrev pub added : Option Descriptor → List Descriptor → List Descriptor
added None ds = ds
added (Some d) ds = d ∷ ds

-- what stands under these numbers of a row, in their order
abbrev pub picked : Row → List ℕ → List Descriptor
picked row [] = []
picked row (fd ∷ fds) = added (row fd) (picked row fds)

-- the sends of which the last one on this channel, if there is one, carried that
abbrev pub with_sent : After → Option ℕ → List Descriptor → Sends → Sends
with_sent after None carried sent = sent
with_sent after (Some c) carried sent = λ k j. if k == c && j == after.sends c then carried else sent k j

-- What the sends carried, after a call that succeeded of a process that held this before. Each call that sends bytes has a line, and one of
-- no bytes sends nothing:
-- fd_write: the last send on the channel that its descriptor's open writes, if that writes one, carried nothing.
-- sock_send: it carried what stood under the numbers that the call lists.
abbrev pub granted_sends : After → Row → Sends → Call → Sends
granted_sends after row sent (FdWrite fd (b ∷ bytes)) = with_sent after (channel_of after (row fd)) [] sent
granted_sends after row sent (SockSend fd (b ∷ bytes) fds flags) = with_sent after (channel_of after (row fd)) (picked row fds) sent
granted_sends after row sent _ = sent

-- ---- answers

-- what a call that succeeded leaves, or after an error the other
abbrev pub by_success : {X : Type 0} → Errno → X → X → X
by_success Success done otherwise = done
by_success _ done otherwise = otherwise

-- what a process holds after its call that was answered so: the same where its thread waits
abbrev pub answered_row : After → Row → Call → Answer → Row
answered_row after row call (answer.Parked writes) = row
answered_row after row call (answer.Reply reply) = by_success reply.errno (granted_row after row call reply) row

-- what the sends carried after its call that was answered so
abbrev pub answered_sends : After → Row → Sends → Call → Answer → Sends
answered_sends after row sent call (answer.Parked writes) = sent
answered_sends after row sent call (answer.Reply reply) = by_success reply.errno (granted_sends after row sent call) sent

-- the process that a call made which was answered so
abbrev pub answered_child : After → Call → Answer → Option ℕ
answered_child after call (answer.Parked writes) = None
answered_child after call (answer.Reply reply) = by_success reply.errno (made_child after call) None

-- ---- processes

-- the ledger in which this process, if there is one, holds that
abbrev pub with_child : Option ℕ → Row → Ledger → Ledger
with_child None row l = l
with_child (Some q) row l = with_row l q row

-- the ledger in which only the live processes hold what they hold
abbrev pub of_live : (ℕ → Bool) → Ledger → Ledger
of_live live l = record l { held = λ p. if live p then l.held p else no_row }
