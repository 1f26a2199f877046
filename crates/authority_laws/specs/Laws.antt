-- What the ledger says of every legal history: the statements that are the contracts of the functions of src/laws.rt.
use Rattle.std.specs.Prelude.{◌≡◌, ◌≢◌, ◌⊎◌, ℕ, bit_and, true, false, List, [], ◌∷◌, ◌++◌, None, Some, IsSome}
use Rattle.std.specs.FinMap.{get}
use Rattle.abi_base.specs.declared.errno.Errno.TheVariants.{Success}
use Rattle.abi_base.specs.declared.flags.TheConstants.{FDSTAT_RIGHTS}
use Rattle.tree_model.specs.Grants.{MayBegin}
use Rattle.abi_structures.specs.declared.structures.FdStat.{FdStat}
use Rattle.abi_types.specs.declared.call.Call.{Call}
use Rattle.abi_types.specs.declared.call.Call.TheVariants.{FdDup, FdReplace, FdStatPut, FileOpen}
use Rattle.abi_types.specs.declared.call.Lookup.{Lookup}
use Rattle.abi_types.specs.declared.descriptor.Descriptor.{Descriptor}
use Rattle.abi_types.specs.declared.needed.Needed.{Needed}
use Rattle.abi_types.specs.declared.reply.Answer.TheVariants as answer
use Rattle.abi_types.specs.declared.reply.Reply.{Reply}
use Rattle.abi_types.specs.declared.status.Status.TheVariants.{Live}
use Rattle.abi_types.specs.declared.who.Who.{Who}
use Rattle.run_types.specs.declared.history.Act.TheVariants as act
use Rattle.run_types.specs.declared.history.Entry.{Entry}
use Rattle.run_types.specs.declared.launch.Launch.{Launch}
use Rattle.kernel_model.specs.Calls.{named, need}
use Rattle.kernel_model.specs.Need.{has_needed}
use Rattle.kernel_model.specs.OpenLaws.{OpensStay}
use Rattle.kernel_model.specs.Proper.{IsIn}
use Rattle.kernel_model.specs.Sight.{process_parts, behind}
use Rattle.kernel_model.specs.Release.{is_released}
use Rattle.kernel_model.specs.State.{State, Table, Part, at_open, at_status, has_part}
use Rattle.kernel_model.specs.Step.{sight, unreleased}
use Rattle.run_model.specs.Legal.{Legal}
use Rattle.run_model.specs.World.{who_of, world}
use Rattle.authority_laws.specs.Deliveries.{CountsAt, DeliversAt, WaitsAsNoted}
use Rattle.authority_laws.specs.Ledger.{Ledger, granted_row, launch_ledger}
use Rattle.authority_laws.specs.Origins.{Change, ChangeOfOther, ComesFrom, SendsComeFrom, IsCopied, IsLowered, IsOpened}
use Rattle.authority_laws.specs.Recorded.{Succeeds, after_at, held_after, held_before, ledger, noted}
use Rattle.authority_laws.specs.Traces.{AllOfGrants, AllStay, AllTraced, IsHandedOn, IsWithin, Traced, first_open, root}

-- ---- the ledger of one more entry

-- The ledger of no entry is the launch's.
abbrev pub LedgerBegins : Type 0
LedgerBegins = (launch : Launch) → ledger launch [] ≡ launch_ledger launch.tree launch.grants

-- The ledger of one more entry is the ledger before it, with that entry noted.
abbrev pub LedgerGoesOn : Type 0
LedgerGoesOn =
    (launch : Launch) (history : List Entry) (e : Entry)
    → ledger launch (history ++ e ∷ []) ≡ noted (after_at launch history e) (ledger launch history) e

-- ---- the kernel's tables

-- process p is live, and its table has the descriptor under number n
abbrev pub Holds : State → ℕ → ℕ → Descriptor → Type 0
Holds S p n d = (get S.statuses p ≡ Some Live) × (table : Table) × (get S.tables p ≡ Some table) × (get table n ≡ Some d)

-- The ledger says who holds what in this state: a process's table has under each number what the ledger says, what the
-- ledger says is held stands in the table of a live process, and a process that is not live holds nothing.
pub record Reports (S : State) (l : Ledger) : Type 0 where
  pub tables : (p : ℕ) (table : Table) → get S.tables p ≡ Some table → (n : ℕ) → get table n ≡ l.held p n
  pub held : (p n : ℕ) (d : Descriptor) → l.held p n ≡ Some d → Holds S p n d
  pub ended : (p : ℕ) → get S.statuses p ≢ Some Live → (n : ℕ) → l.held p n ≡ None

-- The ledger of a legal history says who holds what in its world.
abbrev pub LedgerReports : Type 0
LedgerReports =
    (launch : Launch) (history : List Entry) → MayBegin launch.tree launch.grants → Legal launch history → Reports (world launch history).state (ledger launch history)

-- ---- where descriptors come from

-- Each descriptor that a process holds after an entry of a legal history names the open of one that it held before that entry, or that
-- its parent held where the entry made it, with no right that this one lacked; or it names the open that the process made last at
-- that entry, with no right but those that a descriptor passes on which it held before; or it names an open of a process or an end of
-- channels that the process made at that entry, and passes on nothing.
abbrev pub RightsNeverGrow : Type 0
RightsNeverGrow =
    (launch : Launch) (front : List Entry) (e : Entry) (rest : List Entry) → MayBegin launch.tree launch.grants → Legal launch (front ++ e ∷ rest)
    → ComesFrom (after_at launch front e) e (ledger launch front) (ledger launch (front ++ e ∷ []))

-- What a send carries after an entry it carried before it, or the entry's process held it then, with the same rights.
abbrev pub SendsAreHeld : Type 0
SendsAreHeld =
    (launch : Launch) (front : List Entry) (e : Entry) → SendsComeFrom e (ledger launch front) (ledger launch (front ++ e ∷ []))

-- An entry changes what its process holds in one of the few ways of `Change`, and leaves what each other process holds, but for one
-- that isn't live after it and one that it made.
abbrev pub EntryChangesOne : Type 0
EntryChangesOne =
    (launch : Launch) (front : List Entry) (e : Entry)
    → Change (after_at launch front e) (held_before launch front e) (held_after launch front e)
    × ((q : ℕ) → q ≢ e.pid
    → ChangeOfOther (after_at launch front e) e q (held_before launch front e) ((ledger launch front).held q)
    ((ledger launch (front ++ e ∷ [])).held q))

-- After an fd_dup that succeeded there stands under its result, under which nothing stood, what stood under the descriptor's
-- number before it.
abbrev pub DuplicatesAt : Launch → List Entry → Entry → Type 0
DuplicatesAt launch front e =
    (fd : ℕ) (reply : Reply) → Succeeds e (FdDup fd) reply
    → (held_before launch front e reply.r1 ≡ None) × IsCopied (held_before launch front e) (held_after launch front e) fd reply.r1

-- So it is at each entry of a legal history.
abbrev pub DuplicatesAreEqual : Type 0
DuplicatesAreEqual =
    (launch : Launch) (front : List Entry) (e : Entry) (rest : List Entry) → MayBegin launch.tree launch.grants → Legal launch (front ++ e ∷ rest)
    → DuplicatesAt launch front e

-- what the entry lets go by this call does not end its own process
abbrev pub ReleaseKeeps : Launch → List Entry → Entry → Call → Type 0
ReleaseKeeps launch front e call =
    is_released (unreleased (world launch front).constants (world launch front).state (who_of (world launch front).state e) call) (at_status e.pid) ≡ false

-- After a call that succeeded at once its process holds exactly what the call's line of `granted_row` says, unless what it lets go ends the
-- process. Where the call itself ends the process, its line alone says so: it doesn't look at who is live.
abbrev pub LinesAt : Launch → List Entry → Entry → Type 0
LinesAt launch front e =
    (call : Call) (reply : Reply) → e.act ≡ act.Call call (answer.Reply reply) → reply.errno ≡ Success → ReleaseKeeps launch front e call
    → held_after launch front e ≡ granted_row (after_at launch front e) (held_before launch front e) call reply

-- So it is at each entry of a legal history.
abbrev pub LinesAreExact : Type 0
LinesAreExact =
    (launch : Launch) (front : List Entry) (e : Entry) (rest : List Entry) → MayBegin launch.tree launch.grants → Legal launch (front ++ e ∷ rest)
    → LinesAt launch front e

-- After an fd_replace that succeeded there stands under `to`, under which something stood, what stood under `from` before it, unless
-- what it lets go ends its own process.
abbrev pub ReplacesAt : Launch → List Entry → Entry → Type 0
ReplacesAt launch front e =
    (from to : ℕ) (reply : Reply) → Succeeds e (FdReplace from to) reply
    → IsSome (held_before launch front e to)
    × (ReleaseKeeps launch front e (FdReplace from to) → IsCopied (held_before launch front e) (held_after launch front e) from to)

-- So it is at each entry of a legal history.
abbrev pub ReplacementsAreEqual : Type 0
ReplacementsAreEqual =
    (launch : Launch) (front : List Entry) (e : Entry) (rest : List Entry) → MayBegin launch.tree launch.grants → Legal launch (front ++ e ∷ rest)
    → ReplacesAt launch front e

-- After an fd_stat_put with RIGHTS that succeeded the descriptor has exactly those of the rights which it had before it that
-- are asked.
abbrev pub LowersAt : Launch → List Entry → Entry → Type 0
LowersAt launch front e =
    (fd : ℕ) (stat : FdStat) (flags : ℕ) (reply : Reply) → Succeeds e (FdStatPut fd stat flags) reply → bit_and flags FDSTAT_RIGHTS ≢ 0
    → IsLowered (held_before launch front e) (held_after launch front e) fd stat

-- So it is at each entry of a legal history.
abbrev pub RightsAreLowered : Type 0
RightsAreLowered =
    (launch : Launch) (front : List Entry) (e : Entry) (rest : List Entry) → MayBegin launch.tree launch.grants → Legal launch (front ++ e ∷ rest)
    → LowersAt launch front e

-- After a file_open that succeeded there stands under its result, under which nothing stood, the open that it made, with exactly
-- those of the rights asked that are of its type, each among those that the descriptor passed on from which it began; this one has the
-- right FILE_OPEN; and the open is of a file or a directory below the directory of that descriptor, or of a new file that is made below it.
abbrev pub OpensAt : Launch → List Entry → Entry → Type 0
OpensAt launch front e =
    (lookup : Lookup) (path : List ℕ) (oflags : ℕ) (stat : FdStat) (reply : Reply) → Succeeds e (FileOpen lookup path oflags stat) reply
    → IsOpened (world launch front).state (world launch (front ++ e ∷ [])).state ((after_at launch front e).made 0) (held_before launch front e)
    (held_after launch front e) lookup.fd reply.r1 stat

-- So it is at each entry of a legal history.
abbrev pub OpensAreBounded : Type 0
OpensAreBounded =
    (launch : Launch) (front : List Entry) (e : Entry) (rest : List Entry) → MayBegin launch.tree launch.grants → Legal launch (front ++ e ∷ rest)
    → OpensAt launch front e

-- Each descriptor that a sock_recv of a legal history installs is in its place what one sock_send carried: that which put into the channel
-- the send whose turn it was.
abbrev pub ReceivesAreSent : Type 0
ReceivesAreSent =
    (launch : Launch) (front : List Entry) (e : Entry) (rest : List Entry) → MayBegin launch.tree launch.grants → Legal launch (front ++ e ∷ rest)
    → DeliversAt launch front e

-- The numbers of a channel's sends count the entries of a legal history that put something into it.
abbrev pub SendsAreNumbered : Type 0
SendsAreNumbered =
    (launch : Launch) (front : List Entry) (e : Entry) (rest : List Entry) → MayBegin launch.tree launch.grants → Legal launch (front ++ e ∷ rest)
    → CountsAt launch front e

-- What waits in the channels of a legal history's world carries what the ledger says that it carried when it was sent, or nothing.
abbrev pub SendsAreNoted : Type 0
SendsAreNoted = (launch : Launch) (history : List Entry) → MayBegin launch.tree launch.grants → Legal launch history → WaitsAsNoted launch history

-- Each open that is there before and after an entry is after it of the file, the directory, the stream, the channels or the process
-- that it was of before it.
abbrev pub OpensStayAt : Launch → List Entry → Entry → Type 0
OpensStayAt launch front e = OpensStay (world launch front).state (world launch (front ++ e ∷ [])).state

-- So it is at each entry of a legal history.
abbrev pub OpensStayOfWhatTheyAre : Type 0
OpensStayOfWhatTheyAre =
    (launch : Launch) (front : List Entry) (e : Entry) (rest : List Entry) → MayBegin launch.tree launch.grants → Legal launch (front ++ e ∷ rest)
    → OpensStayAt launch front e

-- Each descriptor that the ledger of a legal history says is held is traced: to one of the launch's grants, or to an open of a process
-- or an end of channels that an entry made.
abbrev pub HeldIsTraced : Type 0
HeldIsTraced = (launch : Launch) (history : List Entry) → MayBegin launch.tree launch.grants → Legal launch history → AllTraced launch history

-- Each traced descriptor of a file, a directory or a standard stream is traced to a grant, and has no right but those that this has or
-- passes on.
abbrev pub FilesComeFromGrants : Type 0
FilesComeFromGrants =
    (launch : Launch) (history : List Entry) → MayBegin launch.tree launch.grants → Legal launch history → AllOfGrants launch history

-- The open of each traced descriptor is of what it was of when the launch granted it or an entry opened or made it.
abbrev pub TracedStays : Type 0
TracedStays = (launch : Launch) (history : List Entry) → MayBegin launch.tree launch.grants → Legal launch history → AllStay launch history

-- What is traced is held.
abbrev pub TracedIsHeld : Type 0
TracedIsHeld =
    (launch : Launch) (history : List Entry) (p n : ℕ) (d : Descriptor) → Traced launch history p n d → (ledger launch history).held p n ≡ Some d

-- At each step of a trace what a process held comes to that process itself, to one that it made by the step's entry, or to one that received
-- by it what it had sent. Each trace within a trace is one too, so it is so all along the way.
abbrev pub TracedIsHandedOn : Type 0
TracedIsHandedOn =
    (launch : Launch) (history : List Entry) (p n : ℕ) (d : Descriptor) (trace : Traced launch history p n d) → IsHandedOn launch history p n d trace

-- A traced descriptor has no right but those that the grant at the root of its trace has or passes on. Where an entry made the open at
-- the root, it passes on nothing, and is of an open of a process or an end of channels, or has no right at all.
abbrev pub TracedIsWithinRoot : Type 0
TracedIsWithinRoot =
    (launch : Launch) (history : List Entry) (p n : ℕ) (d : Descriptor) (trace : Traced launch history p n d)
    → IsWithin launch (root launch history p n d trace) (first_open launch history p n d trace) d

-- Each descriptor in a table of a legal history's world is there by the ledger, and traced.
abbrev pub TablesAreRecorded : Type 0
TablesAreRecorded =
    (launch : Launch) (history : List Entry) → MayBegin launch.tree launch.grants → Legal launch history
    → (p n : ℕ) (table : Table) (d : Descriptor) → get (world launch history).state.tables p ≡ Some table → get table n ≡ Some d
    → ((ledger launch history).held p n ≡ Some d) × Traced launch history p n d

-- ---- what a call may read

-- the part is the open of a descriptor which the ledger says that process p holds, which has all rights that a row of the
-- call's needs asks of it, and which is traced; or it stands behind that open
pub record IsReachedByHeld (launch : Launch) (history : List Entry) (p : ℕ) (rows : List Needed) (part : Part) : Type 0 where
  pub row : Needed
  pub asked : IsIn row rows
  pub d : Descriptor
  pub held : (ledger launch history).held p row.fd ≡ Some d
  pub has : has_needed d row ≡ true
  pub traced : Traced launch history p row.fd d
  pub reached : has_part (at_open d.id ∷ behind (world launch history).state (get (world launch history).state.opens d.id)) part ≡ true

-- the call needs no right at all, and the part is the open of a descriptor that it names, which the ledger says that process p
-- holds, and which is traced; or it stands behind that open
pub record IsReachedByNamed (launch : Launch) (history : List Entry) (p : ℕ) (call : Call) (part : Part) : Type 0 where
  pub none : need call ≡ []
  pub fd : ℕ
  pub asked : IsIn fd (named call)
  pub d : Descriptor
  pub held : (ledger launch history).held p fd ≡ Some d
  pub traced : Traced launch history p fd d
  pub reached : has_part (at_open d.id ∷ behind (world launch history).state (get (world launch history).state.opens d.id)) part ≡ true

-- what a call sees is the clock, its process's own and its status, or it is reached by what the ledger says that its process
-- holds: with the rights needed, or by name alone where the call needs none
abbrev pub SeesByHeld : Launch → List Entry → Type 0
SeesByHeld launch history =
    (who : Who) (call : Call) (part : Part) → has_part (sight (world launch history).state who call) part ≡ true
    → (has_part (process_parts who.pid) part ≡ true)
    ⊎ (IsReachedByHeld launch history who.pid (need call) part ⊎ IsReachedByNamed launch history who.pid call part)

-- So it is in the world of a legal history.
abbrev pub SightIsRecorded : Type 0
SightIsRecorded = (launch : Launch) (history : List Entry) → MayBegin launch.tree launch.grants → Legal launch history → SeesByHeld launch history

-- ---- all of it, at each point and at each entry of a history

-- after these entries the ledger says who holds what, all that is held is traced, of files, directories and standard streams to one of
-- the launch's grants, its open is of what it was of when it came, what waits in channels carries what the ledger says, and what a call may
-- read is reached by what is held
pub record IsRecordedAt (launch : Launch) (front : List Entry) : Type 0 where
  pub reports : Reports (world launch front).state (ledger launch front)
  pub traced : AllTraced launch front
  pub granted : AllOfGrants launch front
  pub stay : AllStay launch front
  pub noted : WaitsAsNoted launch front
  pub sees : SeesByHeld launch front

-- at this entry its process is left what the call's line says, copies are equal, rights are lowered to those asked, what is opened is
-- bounded, each open stays of what it was of, and no right comes that was neither held nor passed on, but for a process or an end of
-- channels that was made; what is sent was held; what is received was sent, in its place; and the numbers of sends count them
pub record IsRecordedEntry (launch : Launch) (front : List Entry) (e : Entry) : Type 0 where
  pub lines : LinesAt launch front e
  pub copied : DuplicatesAt launch front e
  pub replaced : ReplacesAt launch front e
  pub lowered : LowersAt launch front e
  pub opened : OpensAt launch front e
  pub stay : OpensStayAt launch front e
  pub never_grows : ComesFrom (after_at launch front e) e (ledger launch front) (ledger launch (front ++ e ∷ []))
  pub sends : SendsComeFrom e (ledger launch front) (ledger launch (front ++ e ∷ []))
  pub delivers : DeliversAt launch front e
  pub counts : CountsAt launch front e

-- so it is at each point of the history, and at each entry
pub record IsRecorded (launch : Launch) (history : List Entry) : Type 0 where
  pub points : (front rest : List Entry) → history ≡ front ++ rest → IsRecordedAt launch front
  pub entries : (front : List Entry) (e : Entry) (rest : List Entry) → history ≡ front ++ e ∷ rest → IsRecordedEntry launch front e

-- A legal history of a launch with proper grants is recorded.
abbrev pub LegalIsRecorded : Type 0
LegalIsRecorded = (launch : Launch) (history : List Entry) → Legal launch history → MayBegin launch.tree launch.grants → IsRecorded launch history
