-- The calls that threads wait in, and whether they are over.
use Rattle.std.specs.Prelude.{ℕ, not, Bool, Option, None, Some, if◌then◌else◌}
use Rattle.std.specs.Ordering.{nat_cmp}
use Rattle.std.specs.FinMap.{FinMap}
use Rattle.abi_base.specs.declared.errno.Errno.TheVariants.{Badf}
use Rattle.abi_types.specs.declared.call.Call.{Call}
use Rattle.abi_types.specs.declared.constants.Constants.{Constants}
use Rattle.abi_types.specs.declared.family.SocketCall.{SocketCall}
use Rattle.abi_types.specs.declared.family.SocketCall.TheVariants.{SockRecv, SockSend, SockShutdown}
use Rattle.abi_types.specs.declared.open_kind.OpenKind.{OpenKind}
use Rattle.abi_types.specs.declared.status.Status.{Status}
use Rattle.abi_types.specs.declared.thread.Stage.{Stage}
use Rattle.abi_types.specs.declared.thread.Thread.{Thread}
use Rattle.abi_types.specs.declared.thread.Thread.TheVariants.{Runnable, Waits}
use Rattle.channel_calls.specs.Calls.{end_outcome, socket_outcome}
use Rattle.kernel_model.specs.Calls.{meaning_of}
use Rattle.kernel_model.specs.Channels.{Channel}
use Rattle.kernel_model.specs.Deadlines.{is_due}
use Rattle.kernel_model.specs.Outcome.{Outcome, is_parked, replies}
use Rattle.kernel_model.specs.Reply.{refused}
use Rattle.kernel_model.specs.State.{Table}
use Rattle.kernel_model.specs.Step.{outcome_on}
use Rattle.kernel_model.specs.Wakes.{goes_on_at}
use Rattle.poll_set.specs.Polls.{sight}

-- the call that the thread waits in, the moment at which it was made, and how far the wait has come
abbrev pub kept_in : Option Thread → Option (Call × ℕ × Stage)
kept_in None = None
kept_in (Some Runnable) = None
kept_in (Some (Waits call since until stage)) = Some (call, since, stage)

-- Whether a call would be done at the moment `now` and not wait, which was made at the moment `since` by a thread of a process with this
-- table, where there are these opens and channels, and processes stand so. A call that may wait reads nothing else of a state.
abbrev pub is_over : Constants → FinMap nat_cmp OpenKind → FinMap nat_cmp Channel → FinMap nat_cmp Status → ℕ → Option Table → ℕ → Call → Bool
is_over constants opens channels statuses now table since call =
    not (is_parked (outcome_on constants (sight opens channels statuses now)
    (record { pid = 0; tid = 0; since = since; stage = None }) call table).answer)

-- Whether a thread goes on that waits in the call until this moment, and whose wait has come so far: by that, where it waits for a lock or at a
-- condition variable, and else where the call would be done.
abbrev pub goes_on : Constants → FinMap nat_cmp OpenKind → FinMap nat_cmp Channel → FinMap nat_cmp Status → ℕ → Option Table → Call → ℕ → Option ℕ → Stage → Bool
goes_on constants opens channels statuses now table call since until stage =
    if (meaning_of call).by_stage then goes_on_at stage (is_due now until) else is_over constants opens channels statuses now table since call

-- what fd_read and fd_write come to by a descriptor's open, where there are ends of channels alone
abbrev pub end_at : FinMap nat_cmp Channel → Option OpenKind → Call → Outcome
end_at channels None call = replies (refused Badf)
end_at channels (Some kind) call = end_outcome channels kind call

-- the same of calls on sockets, for process p
abbrev pub socket_at : ℕ → Table → FinMap nat_cmp Channel → Option OpenKind → Call → Outcome
socket_at p table channels None call = replies (refused Badf)
socket_at p table channels (Some kind) call = socket_outcome p table channels kind call

-- the descriptor of a call on a socket
abbrev pub fd_of_socket : SocketCall → ℕ
fd_of_socket (SockRecv fd length fds flags) = fd
fd_of_socket (SockSend fd bytes fds flags) = fd
fd_of_socket (SockShutdown fd how) = fd
