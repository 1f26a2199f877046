-- Polls: what each subscription is told once it is ready, and what a poll comes to.
use Rattle.std.specs.Prelude.{ℕ, ◌==◌, ◌&&◌, min, not, Bool, true, false, List, [], ◌∷◌, length, Option, None, Some, if◌then◌else◌}
use Rattle.std.specs.FinMap.{get}
use Rattle.abi_base.specs.Signal.{number_of as signal_number}
use Rattle.abi_base.specs.declared.flags.TheConstants.{EVENT_FD_READWRITE_HANGUP}
use Rattle.abi_structures.specs.declared.events.Event.{Event}
use Rattle.abi_structures.specs.declared.events.EventType.{EventType}
use Rattle.abi_structures.specs.declared.events.EventType.TheVariants as type
use Rattle.abi_structures.specs.declared.events.Subscription.{Subscription}
use Rattle.abi_structures.specs.declared.events.What.{What}
use Rattle.abi_structures.specs.declared.events.What.TheVariants.{Clock, Condvar, FdRead, FdWrite, LockRdlock, LockWrlock, ProcTerminate}
use Rattle.abi_types.specs.declared.constants.Constants.{Constants}
use Rattle.abi_types.specs.declared.open_kind.OpenKind.{OpenKind}
use Rattle.abi_types.specs.declared.open_kind.OpenKind.TheVariants.{End, Process}
use Rattle.abi_types.specs.declared.reply.Payload.TheVariants.{Events}
use Rattle.abi_types.specs.declared.reply.Reply.{Reply}
use Rattle.abi_types.specs.declared.reply.WordWrites.TheVariants.{Zero}
use Rattle.abi_types.specs.declared.status.Status.{Status}
use Rattle.abi_types.specs.declared.status.Status.TheVariants.{Live, Exit, Killed}
use Rattle.kernel_model.specs.Channels.{Channel, bytes_of, is_hung, is_open, must_wait, room}
use Rattle.kernel_model.specs.Deadlines.{is_due, soon}
pub use Rattle.kernel_model.specs.Families.Events.{event_of}
use Rattle.kernel_model.specs.Families.FileMeaning.{open_of}
use Rattle.kernel_model.specs.Families.LockCalls.{lock_poll}
use Rattle.kernel_model.specs.Families.WaitCalls.{clock_deadline, fds_of, wait_rows}
use Rattle.kernel_model.specs.Meaning.{Meaning, answering}
use Rattle.kernel_model.specs.Outcome.{Outcome, parks, replies}
use Rattle.kernel_model.specs.Reply.{success}
use Rattle.kernel_model.specs.State.{Table}
use Rattle.kernel_model.specs.View.{View}

-- ---- events

-- HANGUP is set of an end whose other side is shut or gone
abbrev pub hangup : Bool → ℕ
hangup hung = if hung then EVENT_FD_READWRITE_HANGUP else 0

-- the event that so many bytes wait, or that there is room for so many
abbrev pub bytes_event : ℕ → EventType → ℕ → Bool → Event
bytes_event userdata kind nbytes hung = record (event_of userdata kind) { nbytes = nbytes; flags = hangup hung }

-- that a process has ended: an exit code without a signal, or a signal without a code
abbrev pub ended_event : ℕ → ℕ → ℕ → Event
ended_event userdata signal code = record (event_of userdata type.ProcTerminate) { signal = signal; code = code }

-- ---- ends of channels

-- whether nobody reads the channel any more, and whether nobody writes it
abbrev pub has_no_reader : Option Channel → Bool
has_no_reader None = false
has_no_reader (Some channel) = not (is_open channel.reader)

abbrev pub has_no_writer : Option Channel → Bool
has_no_writer None = false
has_no_writer (Some channel) = not (is_open channel.writer)

-- A channel may be read once a byte waits, or once none can come any more: its writer is shut or gone, or its reader is shut.
abbrev pub reading_event : ℕ → Option Channel → Option Event
reading_event userdata None = Some (bytes_event userdata type.FdRead 0 false)
reading_event userdata (Some channel) =
    if must_wait 1 channel then None else Some (bytes_event userdata type.FdRead (length (bytes_of channel.waiting)) (is_hung channel))

-- It may be written once there is room for a byte, or once its reader is shut or gone.
abbrev pub writing_event : ℕ → Option Channel → Option Event
writing_event userdata None = Some (bytes_event userdata type.FdWrite 0 false)
writing_event userdata (Some channel) =
    if (room channel == 0) && is_open channel.reader
    then None
    else Some (bytes_event userdata type.FdWrite (room channel) (not (is_open channel.reader)))

-- ---- subscriptions

-- FD_READ of an open: an end by the channel that it reads. One that reads none, and a file or a standard stream, is ready.
abbrev pub read_event : ℕ → View → Option OpenKind → Option Event
read_event userdata v (Some (End (Some c) writes flags form)) = reading_event userdata (v.channel c)
read_event userdata v (Some (End None (Some c) flags form)) = Some (bytes_event userdata type.FdRead 0 (has_no_reader (v.channel c)))
read_event userdata v other = Some (bytes_event userdata type.FdRead 0 false)

-- FD_WRITE of an open, in the same way
abbrev pub write_event : ℕ → View → Option OpenKind → Option Event
write_event userdata v (Some (End reads (Some c) flags form)) = writing_event userdata (v.channel c)
write_event userdata v (Some (End (Some c) None flags form)) = Some (bytes_event userdata type.FdWrite 0 (has_no_writer (v.channel c)))
write_event userdata v other = Some (bytes_event userdata type.FdWrite 0 false)

-- PROC_TERMINATE of a process with this status
abbrev pub end_event : ℕ → Option Status → Option Event
end_event userdata (Some Live) = None
end_event userdata (Some (Exit code)) = Some (ended_event userdata 0 code)
end_event userdata (Some (Killed signal)) = Some (ended_event userdata (signal_number signal) 0)
end_event userdata None = Some (ended_event userdata 0 0)

-- PROC_TERMINATE of an open; only those of processes have the right
abbrev pub terminate_event : ℕ → View → Option OpenKind → Option Event
terminate_event userdata v (Some (Process p object)) = end_event userdata (v.status p)
terminate_event userdata v other = Some (ended_event userdata 0 0)

-- whether the time of a clock has come of a call that was made at the moment `since`; one at 2^62 or later never comes
abbrev pub has_come : Constants → ℕ → ℕ → ℕ → ℕ → ℕ → Bool
has_come constants now since clock timeout flags = is_due now (soon (Some (clock_deadline constants since clock timeout flags)))

-- What one subscription is told now, if it is ready, of a call that was made at the moment `since` by a process with this table. A lock
-- and a condition variable have no part in a poll of other things.
abbrev pub event_now : Constants → View → ℕ → Table → ℕ → What → Option Event
event_now constants v since table userdata (Clock clock timeout precision flags) =
    if has_come constants v.clock since clock timeout flags then Some (event_of userdata type.Clock) else None
event_now constants v since table userdata (FdRead fd) = read_event userdata v (open_of v (get table fd))
event_now constants v since table userdata (FdWrite fd) = write_event userdata v (open_of v (get table fd))
event_now constants v since table userdata (ProcTerminate fd) = terminate_event userdata v (open_of v (get table fd))
event_now constants v since table userdata other = None

-- the event before the others, if there is one
abbrev pub and_event : Option Event → List Event → List Event
and_event None events = events
and_event (Some event) events = event ∷ events

-- the events of all that are ready, in the order of the subscriptions
abbrev pub events_now : Constants → View → ℕ → Table → List Subscription → List Event
events_now constants v since table [] = []
events_now constants v since table (s ∷ rest) =
    and_event (event_now constants v since table s.userdata s.what) (events_now constants v since table rest)

-- ---- until when it waits

-- the sooner of two moments
abbrev pub sooner : Option ℕ → Option ℕ → Option ℕ
sooner None other = other
sooner (Some moment) None = Some moment
sooner (Some moment) (Some other) = Some (min moment other)

abbrev pub deadline_in : Constants → ℕ → What → Option ℕ
deadline_in constants since (Clock clock timeout precision flags) = Some (clock_deadline constants since clock timeout flags)
deadline_in constants since other = None

-- the soonest moment of its clocks
abbrev pub soonest : Constants → ℕ → List Subscription → Option ℕ
soonest constants since [] = None
soonest constants since (s ∷ rest) = sooner (deadline_in constants since s.what) (soonest constants since rest)

-- ---- polls

-- the reply with these events, and their count
abbrev pub events_reply : List Event → Reply
events_reply events = record (success (length events) 0) { payload = Events events }

-- the events, if there is one, and else the thread waits
abbrev pub told_or_waits : List Event → Outcome
told_or_waits [] = parks Zero
told_or_waits (event ∷ events) = replies (events_reply (event ∷ events))

-- A poll tells of each subscription that is ready, and waits until one is.
abbrev pub events_poll : List Subscription → Meaning
events_poll subscriptions = record (answering [] (success 0 0)) {
  effect = λ constants v who table. told_or_waits (events_now constants v who.since table subscriptions);
  takes_memory = true;
  may_wait = true;
  deadline = λ constants since. soonest constants since subscriptions;
}

-- whether a lock or a condition variable is waited for
abbrev pub is_of_lock : What → Bool
is_of_lock (Condvar condvar condvar_word lock lock_word condvar_scope lock_scope) = true
is_of_lock (LockRdlock lock word scope) = true
is_of_lock (LockWrlock lock word scope) = true
is_of_lock other = false

-- whether the first subscription is of one, which alone may be
abbrev pub begins_with_lock : List Subscription → Bool
begins_with_lock [] = false
begins_with_lock (first ∷ rest) = is_of_lock first.what

-- a poll of a lock or a condition variable is answered alone, and waits until the time of the other subscription, if there is one
abbrev pub lock_poll_of : List Subscription → Meaning
lock_poll_of [] = events_poll []
lock_poll_of (first ∷ rest) = record (lock_poll first) { deadline = λ constants since. soonest constants since (first ∷ rest) }

-- what a poll does by its first subscription
abbrev pub poll_by : Bool → List Subscription → Meaning
poll_by true subscriptions = lock_poll_of subscriptions
poll_by false subscriptions = events_poll subscriptions

abbrev pub poll : List Subscription → Meaning
poll subscriptions =
    record (poll_by (begins_with_lock subscriptions) subscriptions) { named = fds_of (wait_rows subscriptions); need = wait_rows subscriptions; seen = fds_of (wait_rows subscriptions) }
