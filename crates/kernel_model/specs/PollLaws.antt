-- What polls tell and when they are over, in other words than their meaning: the statements that are the contracts of the functions of
-- src/poll_laws.rt.
--     polls of one clock: PollAwaitsClock, PollIsReady, PollHasDeadline
--     what a subscription waits for, and what its event tells: IsReady, IsEventOf, AreTold
--     polls: PollTellsReady, PollWaits, NoneIsLost, NoneIsMore, PollReadyWhere, PollHasSoonest
use Rattle.std.specs.Prelude.{◌≡◌, ◌≢◌, ◌↔◌, ◌⊎◌, ⊤, ℕ, ◌+◌, ◌-◌, ◌^◌, ◌==◌, ◌<◌, ◌≤◌, true, false, List, [], ◌∷◌, length, None, Some, IsSome, MatchBool, if◌then◌else◌}
use Rattle.std.specs.FinMap.{get}
use Rattle.abi_base.specs.Signal.{number_of as signal_number}
use Rattle.abi_base.specs.declared.errno.Errno.TheVariants.{Success}
use Rattle.abi_base.specs.declared.flags.TheConstants.{CLOCK_REALTIME, EVENT_FD_READWRITE_HANGUP, SUBSCRIPTION_CLOCK_ABSTIME}
use Rattle.abi_structures.specs.Events.{number_of as type_number, type_of}
use Rattle.abi_structures.specs.declared.events.Event.{Event}
use Rattle.abi_structures.specs.declared.events.Subscription.{Subscription}
use Rattle.abi_structures.specs.declared.events.What.{What}
use Rattle.abi_structures.specs.declared.events.What.TheVariants.{Clock, FdRead, FdWrite, ProcTerminate}
use Rattle.abi_types.specs.declared.call.Call.{Call}
use Rattle.abi_types.specs.declared.call.Call.TheVariants.{Poll}
use Rattle.abi_types.specs.declared.constants.Constants.{Constants}
use Rattle.abi_types.specs.declared.descriptor.Descriptor.{Descriptor}
use Rattle.abi_types.specs.declared.open_kind.OpenKind.{OpenKind}
use Rattle.abi_types.specs.declared.open_kind.OpenKind.TheVariants.{End, Process}
use Rattle.abi_types.specs.declared.reply.Answer.{Answer}
use Rattle.abi_types.specs.declared.reply.Answer.TheVariants as answer
use Rattle.abi_types.specs.declared.reply.Payload.TheVariants.{Events}
use Rattle.abi_types.specs.declared.reply.Reply.{Reply}
use Rattle.abi_types.specs.declared.reply.WordWrites.TheVariants.{Zero}
use Rattle.abi_types.specs.declared.status.Status.{Status}
use Rattle.abi_types.specs.declared.status.Status.TheVariants.{Live, Exit, Killed}
use Rattle.abi_types.specs.declared.who.Who.{Who}
use Rattle.kernel_model.specs.Calls.{refusal}
use Rattle.kernel_model.specs.Channels.{Channel, Open, bytes_of}
use Rattle.kernel_model.specs.Families.Polls.{begins_with_lock}
use Rattle.kernel_model.specs.Proper.{IsIn}
use Rattle.kernel_model.specs.State.{State, Table}
use Rattle.kernel_model.specs.Step.{step_answer}
use Rattle.kernel_model.specs.Valid.{IsValid}
use Rattle.kernel_model.specs.Waits.{deadline_of, WaitsIn}
use Rattle.kernel_model.specs.Wakes.{is_ready}

-- ---- the time of a clock

-- what a clock shows at a moment: REALTIME, which is 3, the time since 1970, and the other one that since the run began
abbrev pub shown : Constants → ℕ → ℕ → ℕ
shown constants clock now = if clock == CLOCK_REALTIME then constants.epoch + now else now

-- The time of a subscription has come at this moment: with ABSTIME the clock shows the timeout or more, and without it as much
-- time as the timeout has passed since the call was made.
abbrev pub HasCome : Constants → ℕ → ℕ → ℕ → ℕ → ℕ → Type 0
HasCome constants since clock timeout flags now = MatchBool (flags == SUBSCRIPTION_CLOCK_ABSTIME) (timeout ≤ shown constants clock now) (since + timeout ≤ now)

-- a poll of one clock
abbrev pub clock_call : ℕ → ℕ → ℕ → ℕ → ℕ → Call
clock_call userdata clock timeout precision flags = Poll (record { userdata = userdata; what = Clock clock timeout precision flags } ∷ [])

-- the reply has one event, of type CLOCK, which is 1, without an error, with the subscription's number
pub record HasClockEvent (userdata : ℕ) (reply : Reply) : Type 0 where
  pub errno : reply.errno ≡ Success
  pub count : reply.r1 ≡ 1
  pub events : reply.payload
      ≡ Events (record { userdata = userdata; error = 0; kind = 1; nbytes = 0; flags = 0; signal = 0; code = 0 } ∷ [])
  pub writes : reply.writes ≡ Zero

-- ---- a poll of one clock

-- A poll of one clock answers its event where the time has come at the call's moment, which is 1000 nanoseconds after the state's, and
-- before 2^62. Where the time hasn't come its thread waits.
abbrev pub PollAwaitsClock : Type 0
PollAwaitsClock =
    (constants : Constants) (S : State) (who : Who) (userdata clock timeout precision flags : ℕ) → IsSome (get S.tables who.pid)
    → (HasCome constants who.since clock timeout flags (S.clock + 1000) → S.clock + 1000 < 2 ^ 62
    → (reply : Reply) × (step_answer constants S who (clock_call userdata clock timeout precision flags) ≡ answer.Reply reply) × HasClockEvent userdata reply)
    × (¬ HasCome constants who.since clock timeout flags (S.clock + 1000)
    → step_answer constants S who (clock_call userdata clock timeout precision flags) ≡ answer.Parked Zero)

-- A thread that waits in it is ready exactly where the time has come at the state's moment, if that is before 2^62.
abbrev pub PollIsReady : Type 0
PollIsReady =
    (constants : Constants) (S : State) (who : Who) (userdata clock timeout precision flags : ℕ) → IsSome (get S.tables who.pid)
    → WaitsIn S who (clock_call userdata clock timeout precision flags) → S.clock < 2 ^ 62
    → (is_ready constants S who.pid who.tid ≡ true) ↔ HasCome constants who.since clock timeout flags S.clock

-- Its deadline is the first moment at which the time has come. Where it has none the time doesn't come before 2^62.
pub record PollHasDeadline : Type 0 where
  pub first : (constants : Constants) (userdata clock timeout precision flags since until now : ℕ)
      → deadline_of constants (clock_call userdata clock timeout precision flags) since ≡ Some until
      → HasCome constants since clock timeout flags now ↔ (until ≤ now)
  pub none : (constants : Constants) (userdata clock timeout precision flags since now : ℕ)
      → deadline_of constants (clock_call userdata clock timeout precision flags) since ≡ None → now < 2 ^ 62
      → ¬ HasCome constants since clock timeout flags now

-- ---- what a subscription waits for

-- the state has this channel, and this holds of it
abbrev pub OnChannel : State → ℕ → (Channel → Type 0) → Type 0
OnChannel S c P = (channel : Channel) × (get S.chans c ≡ Some channel) × P channel

-- the table has a descriptor under this number, and this holds of its open
abbrev pub OnOpen : State → Table → ℕ → (OpenKind → Type 0) → Type 0
OnOpen S table fd P = (kind : OpenKind) × ((d : Descriptor) × (get table fd ≡ Some d) × (get S.opens d.id ≡ Some kind)) × P kind

-- nothing can come by the channel any more: the side that writes was shut or has gone, or the side that reads was shut
abbrev pub IsHungUp : Channel → Type 0
IsHungUp channel = (channel.writer ≢ Open) ⊎ (channel.reader ≢ Open)

-- An end that reads a channel is ready once bytes wait there, or once none can come any more. A file, a standard stream and an end that reads
-- none always are.
abbrev pub IsReadable : State → OpenKind → Type 0
IsReadable S (End (Some c) writes flags form) = OnChannel S c (λ channel. (0 < length (bytes_of channel.waiting)) ⊎ IsHungUp channel)
IsReadable S other = ⊤

-- An end that writes a channel is ready once there is room for a byte, of 65,536 in all, or once the side that reads was shut or has gone. A
-- file, a standard stream and an end that writes none always are.
abbrev pub IsWritable : State → OpenKind → Type 0
IsWritable S (End reads (Some c) flags form) = OnChannel S c (λ channel. (length (bytes_of channel.waiting) < 65536) ⊎ (channel.reader ≢ Open))
IsWritable S other = ⊤

-- the open is of a process, and this has ended
abbrev pub IsOfEnded : State → OpenKind → Type 0
IsOfEnded S (Process p object) = (status : Status) × (get S.statuses p ≡ Some status) × (status ≢ Live)
IsOfEnded S other = ⊥

-- it is of a clock, whose time has come at this moment of a call that was made at the moment `since`
abbrev pub ClockHasCome : Constants → ℕ → ℕ → What → Type 0
ClockHasCome constants since now (Clock clock timeout precision flags) = HasCome constants since clock timeout flags now
ClockHasCome constants since now other = ⊥

-- What is waited for is there at this moment, by the state and the table of the caller. A lock and a condition variable have no part in a
-- poll of other things.
abbrev pub IsReady : Constants → State → Table → ℕ → ℕ → What → Type 0
IsReady constants S table since now (FdRead fd) = OnOpen S table fd (IsReadable S)
IsReady constants S table since now (FdWrite fd) = OnOpen S table fd (IsWritable S)
IsReady constants S table since now (ProcTerminate fd) = OnOpen S table fd (IsOfEnded S)
IsReady constants S table since now what = ClockHasCome constants since now what

-- ---- what its event tells

-- HANGUP is set exactly where this holds
abbrev pub HangsUpWhere : Type 0 → ℕ → Type 0
HangsUpWhere P flags = (P × (flags ≡ EVENT_FD_READWRITE_HANGUP)) ⊎ ((¬ P) × (flags ≡ 0))

-- so many bytes, with HANGUP exactly where this holds
pub record TellsBytes (nbytes : ℕ) (hung : Type 0) (event : Event) : Type 0 where
  pub count : event.nbytes ≡ nbytes
  pub hangup : HangsUpWhere hung event.flags
  pub signal : event.signal ≡ 0
  pub code : event.code ≡ 0

-- the end of a process by this signal, or with this code
pub record TellsEnd (signal code : ℕ) (event : Event) : Type 0 where
  pub nbytes : event.nbytes ≡ 0
  pub flags : event.flags ≡ 0
  pub signal_is : event.signal ≡ signal
  pub code_is : event.code ≡ code

-- Of an end that reads a channel as many bytes as wait there; of one that reads none, and of all else, 0. HANGUP is set where nothing more can
-- come, and of the end of a pipe that writes where the side that reads was shut or has gone.
abbrev pub TellsOfRead : State → Event → OpenKind → Type 0
TellsOfRead S event (End (Some c) writes flags form) = OnChannel S c (λ channel. TellsBytes (length (bytes_of channel.waiting)) (IsHungUp channel) event)
TellsOfRead S event (End None (Some c) flags form) = OnChannel S c (λ channel. TellsBytes 0 (channel.reader ≢ Open) event)
TellsOfRead S event other = TellsBytes 0 ⊥ event

-- Of an end that writes a channel as many bytes as there is room for, which is 65,536 less what waits; of one that writes none, and of all
-- else, 0. HANGUP is set where the other side was shut or has gone.
abbrev pub TellsOfWrite : State → Event → OpenKind → Type 0
TellsOfWrite S event (End reads (Some c) flags form) =
    OnChannel S c (λ channel. TellsBytes (65536 - length (bytes_of channel.waiting)) (channel.reader ≢ Open) event)
TellsOfWrite S event (End (Some c) None flags form) = OnChannel S c (λ channel. TellsBytes 0 (channel.writer ≢ Open) event)
TellsOfWrite S event other = TellsBytes 0 ⊥ event

-- of a process that has exited its code and no signal, and of one that was killed its signal and no code
abbrev pub TellsStatus : Event → Status → Type 0
TellsStatus event Live = ⊥
TellsStatus event (Exit code) = TellsEnd 0 code event
TellsStatus event (Killed signal) = TellsEnd (signal_number signal) 0 event

abbrev pub TellsOfEnd : State → Event → OpenKind → Type 0
TellsOfEnd S event (Process p object) = (status : Status) × (get S.statuses p ≡ Some status) × TellsStatus event status
TellsOfEnd S event other = ⊥

abbrev pub Tells : State → Table → Event → What → Type 0
Tells S table event (Clock clock timeout precision flags) = TellsBytes 0 ⊥ event
Tells S table event (FdRead fd) = OnOpen S table fd (TellsOfRead S event)
Tells S table event (FdWrite fd) = OnOpen S table fd (TellsOfWrite S event)
Tells S table event (ProcTerminate fd) = OnOpen S table fd (TellsOfEnd S event)
Tells S table event other = ⊥

-- the event has the subscription's number and type and no error, and it tells what there is
pub record IsEventOf (S : State) (table : Table) (subscription : Subscription) (event : Event) : Type 0 where
  pub userdata : event.userdata ≡ subscription.userdata
  pub kind : event.kind ≡ type_number (type_of subscription.what)
  pub error : event.error ≡ 0
  pub tells : Tells S table event subscription.what

-- the events are those of the subscriptions that are ready, one of each, in their order
pub data AreTold (constants : Constants) (S : State) (table : Table) (since now : ℕ) : List Subscription → List Event → Type 0 where
  tells_none : AreTold constants S table since now [] []
  tells_ready : (s : Subscription) (rest : List Subscription) (event : Event) (events : List Event) → IsReady constants S table since now s.what
      → IsEventOf S table s event → AreTold constants S table since now rest events → AreTold constants S table since now (s ∷ rest) (event ∷ events)
  passes_over : (s : Subscription) (rest : List Subscription) (events : List Event) → ¬ IsReady constants S table since now s.what
      → AreTold constants S table since now rest events → AreTold constants S table since now (s ∷ rest) events

-- each subscription that is ready has its event
abbrev pub NoneIsLost : Type 0
NoneIsLost =
    (constants : Constants) (S : State) (table : Table) (since now : ℕ) (subscriptions : List Subscription) (events : List Event) (s : Subscription)
    → AreTold constants S table since now subscriptions events → IsIn s subscriptions → IsReady constants S table since now s.what
    → (event : Event) × IsIn event events × IsEventOf S table s event

-- and each event is of a subscription that is ready
abbrev pub NoneIsMore : Type 0
NoneIsMore =
    (constants : Constants) (S : State) (table : Table) (since now : ℕ) (subscriptions : List Subscription) (events : List Event) (event : Event)
    → AreTold constants S table since now subscriptions events → IsIn event events
    → (s : Subscription) × IsIn s subscriptions × IsReady constants S table since now s.what × IsEventOf S table s event

-- ---- polls

-- the reply has these events, and their count
pub record HasEvents (events : List Event) (reply : Reply) : Type 0 where
  pub errno : reply.errno ≡ Success
  pub count : reply.r1 ≡ length events
  pub payload : reply.payload ≡ Events events
  pub writes : reply.writes ≡ Zero

-- the answer is a reply with these events, or that the thread waits where there is none
abbrev pub AnswersEvents : List Event → Answer → Type 0
AnswersEvents [] given = given ≡ answer.Parked Zero
AnswersEvents (event ∷ events) given = (reply : Reply) × (given ≡ answer.Reply reply) × HasEvents (event ∷ events) reply

-- A poll of a process with this table, in a valid state: it isn't refused, and it is of no lock and no condition variable.
pub record IsPoll (S : State) (who : Who) (table : Table) (subscriptions : List Subscription) : Type 0 where
  pub valid : IsValid S
  pub own : get S.tables who.pid ≡ Some table
  pub allowed : refusal table (Poll subscriptions) ≡ None
  pub plain : begins_with_lock subscriptions ≡ false

-- A poll answers the events of all subscriptions that are ready at the call's moment, which is 1000 nanoseconds after the state's and before
-- 2^62.
abbrev pub PollTellsReady : Type 0
PollTellsReady =
    (constants : Constants) (S : State) (who : Who) (table : Table) (subscriptions : List Subscription) → IsPoll S who table subscriptions
    → S.clock + 1000 < 2 ^ 62
    → (events : List Event) × AreTold constants S table who.since (S.clock + 1000) subscriptions events
    × AnswersEvents events (step_answer constants S who (Poll subscriptions))

-- Its thread waits exactly where none is.
abbrev pub PollWaits : Type 0
PollWaits =
    (constants : Constants) (S : State) (who : Who) (table : Table) (subscriptions : List Subscription) → IsPoll S who table subscriptions
    → S.clock + 1000 < 2 ^ 62
    → (step_answer constants S who (Poll subscriptions) ≡ answer.Parked Zero)
    ↔ ((s : Subscription) → IsIn s subscriptions → ¬ IsReady constants S table who.since (S.clock + 1000) s.what)

-- A thread that waits in it is ready exactly where some subscription is at the state's moment, if that is before 2^62.
abbrev pub PollReadyWhere : Type 0
PollReadyWhere =
    (constants : Constants) (S : State) (who : Who) (table : Table) (subscriptions : List Subscription) → IsPoll S who table subscriptions
    → WaitsIn S who (Poll subscriptions) → S.clock < 2 ^ 62
    → (is_ready constants S who.pid who.tid ≡ true)
    ↔ ((s : Subscription) × IsIn s subscriptions × IsReady constants S table who.since S.clock s.what)

-- the time of some clock of these has come
abbrev pub SomeClockHasCome : Constants → ℕ → ℕ → List Subscription → Type 0
SomeClockHasCome constants since now subscriptions = (s : Subscription) × IsIn s subscriptions × ClockHasCome constants since now s.what

-- Its deadline is the first moment at which the time of some clock has come. Where it has none no clock's time comes before 2^62.
pub record PollHasSoonest : Type 0 where
  pub first : (constants : Constants) (subscriptions : List Subscription) (since until now : ℕ) → begins_with_lock subscriptions ≡ false
      → deadline_of constants (Poll subscriptions) since ≡ Some until → SomeClockHasCome constants since now subscriptions ↔ (until ≤ now)
  pub none : (constants : Constants) (subscriptions : List Subscription) (since now : ℕ) → begins_with_lock subscriptions ≡ false
      → deadline_of constants (Poll subscriptions) since ≡ None → now < 2 ^ 62 → ¬ SomeClockHasCome constants since now subscriptions
