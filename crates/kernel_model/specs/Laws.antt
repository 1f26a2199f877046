-- What holds of every step of the kernel: the statements that are the contracts of the functions of src/laws.rt.
use Rattle.std.specs.Prelude.{◌≡◌, ◌≢◌, ◌⊎◌, ◌↔◌, ℕ, ◌+◌, Bool, true, false, List, [], length, ◌∷◌, ◌++◌, Option, None, Some, IsSome, if◌then◌else◌}
use Rattle.std.specs.List.{AllByRecursion}
use Rattle.std.specs.FinMap.{get}
use Rattle.abi_types.specs.declared.chan_kind.ChanKind.{ChanKind}
use Rattle.abi_types.specs.declared.reply.Answer.{Answer}
use Rattle.abi_types.specs.declared.reply.Answer.TheVariants as answer
use Rattle.abi_types.specs.declared.call.Call.{Call}
use Rattle.abi_types.specs.declared.reply.Reply.{Reply}
use Rattle.abi_types.specs.declared.constants.Constants.{Constants}
use Rattle.abi_types.specs.declared.descriptor.Denial.{Denial}
use Rattle.abi_types.specs.declared.descriptor.Denial.TheVariants.{Outside}
use Rattle.abi_types.specs.declared.descriptor.Descriptor.{Descriptor}
use Rattle.abi_base.specs.declared.errno.Errno.TheVariants.{Success, Badf, Nomem, Notcapable}
use Rattle.abi_base.specs.declared.grant.Grant.{Grant}
use Rattle.abi_types.specs.declared.needed.Needed.{Needed}
use Rattle.abi_types.specs.declared.open_kind.OpenKind.TheVariants.{End, Process}
use Rattle.abi_types.specs.declared.status.Status.{Status}
use Rattle.abi_types.specs.declared.status.Status.TheVariants.{Live}
use Rattle.abi_types.specs.declared.who.Who.{Who}
use Rattle.maps.specs.Closure.{member}
use Rattle.kernel_model.specs.Calls.{meaning_of, named, need, errors_of, takes_memory, refusal_of}
use Rattle.kernel_model.specs.Channels.{Channel, Gone, is_over}
use Rattle.kernel_model.specs.Need.{has_needed, missing}
use Rattle.kernel_model.specs.Families.Numbers.{can_number}
use Rattle.kernel_model.specs.Proper.{IsIn, IsProper, Waits}
use Rattle.kernel_model.specs.Release.{ends, is_node_kept, is_released, loses_reader, loses_writer, release, without_ended, AllAreHeld, IsEnd, IsEnded, LetsGo}
use Rattle.kernel_model.specs.Reply.{refused, denied}
use Rattle.kernel_model.specs.Sight.{process_parts, behind}
use Rattle.tree_model.specs.Grants.{MayBegin}
use Rattle.kernel_model.specs.Start.{start_state}
use Rattle.kernel_model.specs.State.{State, Tree, Table, Part, at_proc, at_status, at_open, at_node, at_names, at_chan, counts_in, has_part, Agree, AgreeOn}
use Rattle.kernel_model.specs.Step.{made_by, tick, sight, touch, outcome_by, outcome, outside, outside_by, unreleased, step_answer, step_state, failed, MayLackMemory, IsStep, IsUntouched, end_unreleased, end_state}
use Rattle.kernel_model.specs.Threads.{BearsRunning, LeavesCounts, LeavesThreads, child_made, child_told, ends_caller, ends_others, makes_child, makes_thread}
use Rattle.kernel_model.specs.Valid.{IsValid}
use Rattle.kernel_model.specs.View.{whole}
use Rattle.kernel_model.specs.Waits.{may_wait}

-- ---- meanings

-- Each call's meaning keeps to what the laws stand on.
abbrev pub MeaningsAreProper : Type 0
MeaningsAreProper = (call : Call) → IsProper (meaning_of call)

-- ---- what a call reads

-- A call's outcome, which sees only what is in its sight, is what it would be if it saw the whole state.
abbrev pub ReadsSight : Type 0
ReadsSight = (constants : Constants) (S : State) (who : Who) (call : Call) → outcome constants S who call ≡ outcome_by constants (whole (tick S)) who call

-- Where its path leads outside, by its sight, is where it does by the whole state.
abbrev pub OutsideReadsSight : Type 0
OutsideReadsSight = (S : State) (who : Who) (call : Call) → outside S who call ≡ outside_by (whole (tick S)) who call

-- the call sees the same parts in both states, with the same values
abbrev pub HasSameSight : State → State → Who → Call → Type 0
HasSameSight S T who call = (sight S who call ≡ sight T who call) × AgreeOn S T (sight S who call)

-- A call that sees the same in two states has the same outcome in both: the same answer, and the same parts set to the
-- same values.
abbrev pub SightDecides : Type 0
SightDecides =
    (constants : Constants) (S T : State) (who : Who) (call : Call) → HasSameSight S T who call
    → outcome constants S who call ≡ outcome constants T who call

-- the release of both states ends the part or leaves it; and of a channel it ends the same sides
abbrev pub EndsSame : State → State → Part → Type 0
EndsSame S T (at_chan c) = (loses_reader S (ends S) c ≡ loses_reader T (ends T) c) × (loses_writer S (ends S) c ≡ loses_writer T (ends T) c)
EndsSame S T q = is_released S q ≡ is_released T q

-- of these parts, the release of both states ends the same
abbrev pub EndsAlike : State → State → List Part → Type 0
EndsAlike S T parts = (q : Part) → has_part parts q ≡ true → EndsSame S T q

-- A call that sees the same in two states answers the same in both; and where the release after it ends the same of what
-- it sees, each part that it sees has the same value in both states after the step.
abbrev pub StepDecided : Type 0
StepDecided =
    (constants : Constants) (S T : State) (who : Who) (call : Call) → HasSameSight S T who call
    → (step_answer constants S who call ≡ step_answer constants T who call)
    × (EndsAlike (unreleased constants S who call) (unreleased constants T who call) (sight S who call)
    → AgreeOn (step_state constants S who call) (step_state constants T who call) (sight S who call))

-- the table has the descriptor that the row names, with all rights that the row asks
abbrev pub IsMet : Table → Needed → Type 0
IsMet table row = (d : Descriptor) × (get table row.fd ≡ Some d) × (has_needed d row ≡ true)

-- the part is the open of a descriptor that a row names and that has all rights which the row asks, or stands behind it
pub record IsReached (S : State) (table : Table) (rows : List Needed) (q : Part) : Type 0 where
  pub row : Needed
  pub asked : IsIn row rows
  pub d : Descriptor
  pub there : get table row.fd ≡ Some d
  pub has : has_needed d row ≡ true
  pub part : has_part (at_open d.id ∷ behind S (get S.opens d.id)) q ≡ true

-- the call needs no right at all, and the part is the open of a descriptor that it names, or stands behind it
pub record IsReachedByName (S : State) (table : Table) (call : Call) (q : Part) : Type 0 where
  pub none : need call ≡ []
  pub fd : ℕ
  pub asked : IsIn fd (named call)
  pub d : Descriptor
  pub there : get table fd ≡ Some d
  pub part : has_part (at_open d.id ∷ behind S (get S.opens d.id)) q ≡ true

-- each row of the call's needs is met by its process's table, and the part is reached so, or by name where there is no row
abbrev pub IsReachedBy : State → Who → Call → Part → Type 0
IsReachedBy S who call q =
    (table : Table) × (get S.tables who.pid ≡ Some table) × AllByRecursion (IsMet table) (need call)
    × (IsReached S table (need call) q ⊎ IsReachedByName S table call q)

-- What a call sees is the clock, what is the process's own and its status, or it is reached through a descriptor of which the
-- call needs rights, or that it names where it needs none, where none is absent and no right is missing.
abbrev pub SightIsReached : Type 0
SightIsReached =
    (S : State) (who : Who) (call : Call) (q : Part) → has_part (sight S who call) q ≡ true
    → (has_part (process_parts who.pid) q ≡ true) ⊎ IsReachedBy S who call q

-- ---- what a call changes

-- What a call touches it sees, or it makes it.
abbrev pub TouchIsSeen : Type 0
TouchIsSeen =
    (S : State) (who : Who) (call : Call) (q : Part) → has_part (touch S who call) q ≡ true
    → (has_part (sight S who call) q ≡ true) ⊎ (has_part (made_by S who call) q ≡ true)

-- the state has nothing of this part
abbrev pub IsNotThere : State → Part → Type 0
IsNotThere S (at_open o) = get S.opens o ≡ None
IsNotThere S (at_node n) = get S.nodes n ≡ None
IsNotThere S (at_names n) = get S.names n ≡ None
IsNotThere S (at_chan c) = get S.chans c ≡ None
IsNotThere S (at_proc p) = (get S.tables p ≡ None) × (get S.processes p ≡ None)
IsNotThere S (at_status p) = get S.statuses p ≡ None
IsNotThere S q = ⊥

-- What a call may make isn't there in a valid state, as long as its process can number so many objects.
abbrev pub MadeIsNew : Type 0
MadeIsNew =
    (S : State) (who : Who) (call : Call) (q : Part) → IsValid S → can_number who.pid (meaning_of call).numbers (get S.processes who.pid) ≡ true
    → has_part (made_by S who call) q ≡ true → IsNotThere S q

-- After a step each part that the call does not touch and that the release does not end has the value it had.
abbrev pub OthersStay : Type 0
OthersStay =
    (constants : Constants) (S : State) (who : Who) (call : Call) (given : Answer) (T : State) (q : Part) → IsStep constants S who call given T
    → IsUntouched constants S who call q → Agree T S q

-- After the end of a process from outside each part but the clock, what is the process's own, its status and what the
-- release ends has the value it had.
abbrev pub EndKeeps : Type 0
EndKeeps =
    (S : State) (p : ℕ) (status : Status) (q : Part) → has_part (process_parts p) q ≡ false
    → is_released (end_unreleased S p status) q ≡ false → Agree (end_state S p status) S q

-- A call that answers an error, lack of memory among them, changes only the clock of a valid state.
abbrev pub ErrorKeeps : Type 0
ErrorKeeps =
    (constants : Constants) (S : State) (who : Who) (call : Call) (reply : Reply) (T : State) → IsStep constants S who call (answer.Reply reply) T
    → IsValid S → reply.errno ≢ Success → T ≡ failed S who

-- both states have the same of a process: its descriptors, what else is its own, and its status
abbrev pub HasSameProcess : State → State → ℕ → Type 0
HasSameProcess S T q = (get S.tables q ≡ get T.tables q) × (get S.processes q ≡ get T.processes q) × (get S.statuses q ≡ get T.statuses q)

-- From the first state to the second the release has killed the process: it lived, an open of it ended, and it has nothing of its
-- own any more.
abbrev pub IsKilled : State → State → ℕ → Type 0
IsKilled S T q = IsEnded S T (at_proc q) × IsEnded S T (at_status q)

-- A step takes 1000 nanoseconds, changes nothing of other processes but of those that the release after it kills and of the child that its
-- call makes, and of a process that lives on changes the threads as its call and its answer say, and counts what the call makes.
pub record MovesOnly (constants : Constants) (S : State) (who : Who) (call : Call) (given : Answer) (T : State) : Type 0 where
  pub clock : T.clock ≡ S.clock + 1000
  pub others : (q : ℕ) → q ≢ who.pid → child_made call given who.pid (get S.processes who.pid) ≢ Some q → HasSameProcess T S q ⊎ IsKilled S T q
  pub born : BearsRunning who.pid call given S T
  pub threads : get T.statuses who.pid ≡ Some Live → LeavesThreads constants S who call given T
  pub counts : get T.statuses who.pid ≡ Some Live → LeavesCounts call given (counts_in (get S.processes who.pid)) (counts_in (get T.processes who.pid))

abbrev pub StepMovesOnly : Type 0
StepMovesOnly =
    (constants : Constants) (S : State) (who : Who) (call : Call) (given : Answer) (T : State) → IsStep constants S who call given T
    → MovesOnly constants S who call given T

-- The answer to a fork tells the number of the child that it makes, and no other answer to a call tells one.
abbrev pub ForkTellsChild : Type 0
ForkTellsChild =
    (constants : Constants) (S : State) (who : Who) (call : Call) (given : Answer) (T : State) → IsStep constants S who call given T
    → child_told call given ≡ child_made call given who.pid (get S.processes who.pid)

-- A call in which a thread may wait makes no thread, no child and ends no thread, whatever it answers.
abbrev pub WaitedKeepsThreads : Type 0
WaitedKeepsThreads =
    (call : Call) (given : Answer) → may_wait call ≡ true
    → (ends_caller call given ≡ false) × (ends_others call given ≡ false) × (makes_thread call given ≡ false) × (makes_child call given ≡ false)

-- The end of a process from outside takes as long, changes nothing of other processes but of those that the release after it kills,
-- and leaves it its status alone.
pub record EndsOnly (S : State) (p : ℕ) (status : Status) (T : State) : Type 0 where
  pub clock : T.clock ≡ S.clock + 1000
  pub others : (q : ℕ) → q ≢ p → HasSameProcess T S q ⊎ IsKilled S T q
  pub stands : get T.statuses p ≡ Some status
  pub gone : (get T.tables p ≡ None) × (get T.processes p ≡ None)

abbrev pub EndStateEndsOnly : Type 0
EndStateEndsOnly = (S : State) (p : ℕ) (status : Status) → status ≢ Live → EndsOnly S p status (end_state S p status)

-- The opens that end are the least set that has each open which nothing holds once the set has ended.
abbrev pub EndsAreLeast : Type 0
EndsAreLeast = (S : State) → IsEnd S (ends S)

-- The release kills just the processes that live and of which an open ends.
abbrev pub KilledByLastOpen : Type 0
KilledByLastOpen =
    (S : State) (p : ℕ)
    → (is_released S (at_proc p) ≡ true)
    ↔ ((get S.statuses p ≡ Some Live) × ((o : ℕ) × (member o (ends S) ≡ true) × (object : ℕ) × (get S.opens o ≡ Some (Process p object))))

-- A channel loses its reader just where an end that reads it ends, and its writer where one does that writes it.
abbrev pub HungUpByEnd : Type 0
HungUpByEnd =
    (S : State) (c : ℕ)
    → ((loses_reader S (ends S) c ≡ true)
    ↔ ((o : ℕ) × (member o (ends S) ≡ true) × (writes : Option ℕ) × (flags : ℕ) × (form : ChanKind) × (get S.opens o ≡ Some (End (Some c) writes flags form))))
    × ((loses_writer S (ends S) c ≡ true)
    ↔ ((o : ℕ) × (member o (ends S) ≡ true) × (reads : Option ℕ) × (flags : ℕ) × (form : ChanKind) × (get S.opens o ≡ Some (End reads (Some c) flags form))))

-- A channel that has lost its reader or its writer, or not: without its reader nothing waits in it, without its writer what waits still
-- does, and the count of all its sends stays.
pub record IsLeftBy (reader writer : Bool) (before after : Channel) : Type 0 where
  pub reader_gone : reader ≡ true → (after.reader ≡ Gone) × (after.waiting ≡ [])
  pub reader_stays : reader ≡ false → (after.reader ≡ before.reader) × (after.waiting ≡ before.waiting)
  pub writer_gone : writer ≡ true → after.writer ≡ Gone
  pub writer_stays : writer ≡ false → after.writer ≡ before.writer
  pub sends : after.left + length after.waiting ≡ before.left + length before.waiting

-- Each channel is left so by the ends that end, and stays unless it is over then.
abbrev pub ChannelsAreLeft : Type 0
ChannelsAreLeft =
    (S : State) (c : ℕ) (before : Channel) → get S.chans c ≡ Some before
    → (after : Channel) × IsLeftBy (loses_reader S (ends S) c) (loses_writer S (ends S) c) before after
    × (get (release S).chans c ≡ (if is_over after then None else Some after))

-- In whatever order unheld opens end one after another, where none is left the state is the one without the opens that end.
abbrev pub EndsInAnyOrder : Type 0
EndsInAnyOrder = (S T : State) → LetsGo S T → AllAreHeld T → T ≡ without_ended S

-- The release leaves each part that it does not end as it was, and ends each other one.
abbrev pub ReleaseEnds : Type 0
ReleaseEnds = (S : State) (q : Part) → (is_released S q ≡ false → Agree (release S) S q) × (is_released S q ≡ true → IsEnded S (release S) q)

-- After the release each open has a holder or a carrier, and each node is the root, has a name or is open.
abbrev pub NothingUnheldIsLeft : Type 0
NothingUnheldIsLeft =
    (S : State) → AllAreHeld (release S) × ((n : ℕ) → IsSome (get (release S).nodes n) → is_node_kept (release S) n ≡ true)

-- ---- what waits in channels

-- the call succeeded, and the descriptor stands in the table of its process under one of the numbers that it sends
pub record IsSent (S : State) (who : Who) (call : Call) (given : Answer) (d : Descriptor) : Type 0 where
  pub reply : Reply
  pub is : given ≡ answer.Reply reply
  pub success : reply.errno ≡ Success
  pub table : Table
  pub own : get S.tables who.pid ≡ Some table
  pub n : ℕ
  pub listed : IsIn n (meaning_of call).sends
  pub here : get table n ≡ Some d

-- A descriptor that waits in a channel after a step from a valid state waited there before it, or the call sent it, with the rights that it
-- had in the table.
abbrev pub WaitingWasHeld : Type 0
WaitingWasHeld =
    (constants : Constants) (S : State) (who : Who) (call : Call) (given : Answer) (T : State) (c : ℕ) (d : Descriptor) → IsValid S
    → IsStep constants S who call given T → Waits T c d → Waits S c d ⊎ IsSent S who call given d

-- What waits in a channel after the end of a process from outside waited there before it.
abbrev pub EndCarriesNothing : Type 0
EndCarriesNothing = (S : State) (p : ℕ) (status : Status) (c : ℕ) (d : Descriptor) → Waits (end_state S p status) c d → Waits S c d

-- ---- why a call is denied

-- each of these descriptors is in the table
abbrev pub HasAll : Table → List ℕ → Type 0
HasAll table fds = AllByRecursion (λ fd. IsSome (get table fd)) fds

-- the row is the first that is not met: it stands after rows that are met, and its descriptor d lacks a right
pub record IsFirstLack (table : Table) (rows : List Needed) (row : Needed) (d : Descriptor) : Type 0 where
  pub before : List Needed
  pub after : List Needed
  pub splits : rows ≡ before ++ row ∷ after
  pub met : AllByRecursion (IsMet table) before
  pub there : get table row.fd ≡ Some d
  pub lacks : has_needed d row ≡ false

-- Where each descriptor that the call names is there and some lacks a right, the call is denied, with what the first of
-- these lacks.
abbrev pub FirstLackIsNamed : Type 0
FirstLackIsNamed =
    (constants : Constants) (S : State) (who : Who) (call : Call) (table : Table) (row : Needed) (d : Descriptor) → get S.tables who.pid ≡ Some table
    → HasAll table (named call) → IsFirstLack table (need call) row d → step_answer constants S who call ≡ answer.Reply (denied (missing d row))

-- the denial names what the first descriptor that lacks a right lacks, and each descriptor that the call names is there
pub record IsOfFirstLack (S : State) (who : Who) (call : Call) (denial : Denial) : Type 0 where
  pub table : Table
  pub row : Needed
  pub d : Descriptor
  pub own : get S.tables who.pid ≡ Some table
  pub all : HasAll table (named call)
  pub first : IsFirstLack table (need call) row d
  pub names : denial ≡ missing d row

-- Where no descriptor is absent, no right is missing and a path of the call leads outside, the call is denied for that.
abbrev pub OutsideIsDenied : Type 0
OutsideIsDenied =
    (constants : Constants) (S : State) (who : Who) (call : Call) (component : ℕ) → outside S who call ≡ Some component
    → step_answer constants S who call ≡ answer.Reply (denied (Outside component))

-- the denial names the component at which a path of the call leads outside
abbrev pub IsOfPath : State → Who → Call → Denial → Type 0
IsOfPath S who call denial = (component : ℕ) × (outside S who call ≡ Some component) × (denial ≡ Outside component)

-- A call is denied in no other case: the denial is of the first lack, or of a path that leads outside.
abbrev pub DenialIsOfFirstLack : Type 0
DenialIsOfFirstLack =
    (constants : Constants) (S : State) (who : Who) (call : Call) (reply : Reply) (denial : Denial) → step_answer constants S who call ≡ answer.Reply reply
    → reply.denial ≡ Some denial → IsOfFirstLack S who call denial ⊎ IsOfPath S who call denial

-- none of the errors that the call answers of its own is NOTCAPABLE, an error that only denials have
abbrev pub IsNotDeniedEarly : Call → Type 0
IsNotDeniedEarly call = AllByRecursion (λ errno. errno ≢ Notcapable) (errors_of call)

-- A call that answers NOTCAPABLE says what is missing, or where its path leads outside.
abbrev pub NotcapableIsDenied : Type 0
NotcapableIsDenied =
    (constants : Constants) (S : State) (who : Who) (call : Call) (reply : Reply) → IsNotDeniedEarly call
    → step_answer constants S who call ≡ answer.Reply reply → reply.errno ≡ Notcapable → IsSome reply.denial

-- ---- which errors a call answers, and where memory runs out

-- A reply is a success, the refusal for lack of a descriptor or of rights, the denial of a path that leads outside, one of the
-- call's own errors, or lack of memory, and that only of a call that takes memory and would else succeed.
abbrev pub IsListed : Constants → State → Who → Call → Reply → Type 0
IsListed constants S who call reply =
    (reply.errno ≡ Success) ⊎ (refusal_of call (get S.tables who.pid) ≡ Some reply)
    ⊎ ((component : ℕ) × (outside S who call ≡ Some component) × (reply ≡ denied (Outside component))) ⊎ IsIn reply.errno (errors_of call)
    ⊎ (MayLackMemory constants S who call × (reply ≡ refused Nomem))

abbrev pub RepliesAreListed : Type 0
RepliesAreListed =
    (constants : Constants) (S : State) (who : Who) (call : Call) (reply : Reply) (T : State) → IsStep constants S who call (answer.Reply reply) T
    → IsListed constants S who call reply

-- A call that takes no memory has its answer and leaves its state: lack of memory stands in place of neither.
abbrev pub NoMemoryIsExact : Type 0
NoMemoryIsExact =
    (constants : Constants) (S : State) (who : Who) (call : Call) (given : Answer) (T : State) → takes_memory call ≡ false
    → IsStep constants S who call given T → (given ≡ step_answer constants S who call) × (T ≡ step_state constants S who call)

-- Where the answer is an error, a step has no other and leaves the state that the call leaves: lack of memory stands in place of
-- a success alone.
abbrev pub ErrorsAreExact : Type 0
ErrorsAreExact =
    (constants : Constants) (S : State) (who : Who) (call : Call) (reply : Reply) (given : Answer) (T : State)
    → step_answer constants S who call ≡ answer.Reply reply → reply.errno ≢ Success → IsStep constants S who call given T
    → (given ≡ answer.Reply reply) × (T ≡ step_state constants S who call)

-- So where no descriptor is absent, no right is missing and a path of the call leads outside, the answer is the denial for that,
-- whether memory runs out or not.
abbrev pub LeavingIsDenied : Type 0
LeavingIsDenied =
    (constants : Constants) (S : State) (who : Who) (call : Call) (given : Answer) (T : State) (component : ℕ)
    → IsStep constants S who call given T → outside S who call ≡ Some component → given ≡ answer.Reply (denied (Outside component))

-- Where a descriptor that the call names is absent, the answer is BADF, whether memory runs out or not.
abbrev pub AbsentIsBadf : Type 0
AbsentIsBadf =
    (constants : Constants) (S : State) (who : Who) (call : Call) (given : Answer) (T : State) (table : Table) (fd : ℕ)
    → IsStep constants S who call given T → get S.tables who.pid ≡ Some table → IsIn fd (named call) → get table fd ≡ None
    → given ≡ answer.Reply (refused Badf)

-- Where each descriptor that the call names is there and some lacks a right, the answer is the denial, whether memory runs
-- out or not.
abbrev pub LackIsDenied : Type 0
LackIsDenied =
    (constants : Constants) (S : State) (who : Who) (call : Call) (given : Answer) (T : State) (table : Table) (row : Needed) (d : Descriptor)
    → IsStep constants S who call given T → get S.tables who.pid ≡ Some table → HasAll table (named call) → IsFirstLack table (need call) row d
    → given ≡ answer.Reply (denied (missing d row))

-- ---- valid states

-- A step leaves a valid state valid.
abbrev pub StepKeepsValid : Type 0
StepKeepsValid =
    (constants : Constants) (S : State) (who : Who) (call : Call) (given : Answer) (T : State) → IsStep constants S who call given T → IsValid S → IsValid T

-- The end from outside of a process that was made leaves a valid state valid.
abbrev pub EndKeepsValid : Type 0
EndKeepsValid = (S : State) (p : ℕ) (status : Status) → IsSome (get S.statuses p) → status ≢ Live → IsValid S → IsValid (end_state S p status)

-- The state that a launch starts from is valid, where it may begin with its tree and its grants.
abbrev pub StartIsValid : Type 0
StartIsValid = (tree : Tree) (grants : List Grant) (stdin : List ℕ) → MayBegin tree grants → IsValid (start_state tree grants stdin)
