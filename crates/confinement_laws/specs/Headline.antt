-- What holds of the history of every run, in one statement.
use Rattle.std.specs.Prelude.{◌≡◌, ◌⊎◌, ◌↔◌, ◌+◌, ◌<◌, ℕ, suc, Bool, true, false, List, [], ◌∷◌, ◌++◌, Some, IsSome, slice_get}
use Rattle.std.specs.FinMap.{get}
use Rattle.std.specs.List.{AllByRecursion}
use Rattle.abi_base.specs.Rights.{Has}
use Rattle.abi_base.specs.declared.errno.Errno.TheVariants.{Notcapable}
use Rattle.abi_types.specs.declared.call.Call.{Call}
use Rattle.abi_types.specs.declared.descriptor.Denial.{Denial}
use Rattle.abi_types.specs.declared.descriptor.Denial.TheVariants.{Missing, Outside}
use Rattle.abi_types.specs.declared.descriptor.Descriptor.{Descriptor}
use Rattle.abi_types.specs.declared.needed.Needed.{Needed}
use Rattle.abi_types.specs.declared.reply.Answer.{Answer}
use Rattle.abi_types.specs.declared.reply.Answer.TheVariants as answer
use Rattle.abi_types.specs.declared.reply.Reply.{Reply}
use Rattle.abi_types.specs.declared.wake.WakeIn.TheVariants as wake
use Rattle.run_types.specs.declared.history.Act.TheVariants as act
use Rattle.run_types.specs.declared.history.Entry.{Entry}
use Rattle.run_types.specs.declared.launch.Launch.{Launch}
use Rattle.kernel_model.specs.Calls.{named, need}
use Rattle.kernel_model.specs.Channels.{Channel, Send}
use Rattle.kernel_model.specs.Need.{has_instead, has_needed, lack_base, lack_inheriting, missing}
use Rattle.kernel_model.specs.Reply.{denied}
use Rattle.kernel_model.specs.State.{threads_of}
use Rattle.run_model.specs.Legal.{Asks, Legal}
use Rattle.run_model.specs.Own.{is_own, IsLiveIn, Made, Same}
use Rattle.run_model.specs.World.{World, guest_of, who_of, world}
use Rattle.authority_laws.specs.Deliveries.{IsSend}
use Rattle.authority_laws.specs.Laws.{IsRecordedEntry, Reports}
use Rattle.authority_laws.specs.Ledger.{Row}
use Rattle.authority_laws.specs.Recorded.{Replies, held_before, ledger}
use Rattle.authority_laws.specs.Traces.{AllOfGrants, AllStay, AllTraced}
use Rattle.confinement_laws.specs.Reach.{KeepsWithinReach}

-- ---- descriptors

-- each descriptor that waits in a channel is, in its place, one that the sock_send carried which put the send there, as its process held it then
abbrev pub WaitsAsSent : Launch → List Entry → Type 0
WaitsAsSent launch front =
    (c k i : ℕ) (channel : Channel) (send : Send) (d : Descriptor) → get (world launch front).state.chans c ≡ Some channel
    → slice_get channel.waiting k ≡ Some send → slice_get send.carried i ≡ Some d
    → (carried : List Descriptor) × IsSend launch front c (suc (channel.left + k)) carried × (slice_get carried i ≡ Some d)

-- After these entries each process's table has under each number what the recorded grants say, and what waits in channels is what was
-- sent; each descriptor is traced, of files, directories and standard streams to one of the launch's grants; and its open is of what it was
-- of when it came.
pub record DescriptorsAreTraced (launch : Launch) (front : List Entry) : Type 0 where
  pub reports : Reports (world launch front).state (ledger launch front)
  pub waiting : WaitsAsSent launch front
  pub traced : AllTraced launch front
  pub granted : AllOfGrants launch front
  pub stay : AllStay launch front

-- ---- refusals

-- by what is held, the row is met: its descriptor is there, and has all rights that the row asks
abbrev pub IsMetBy : Row → Needed → Type 0
IsMetBy held row = (d : Descriptor) × (held row.fd ≡ Some d) × (has_needed d row ≡ true)

-- The row is the first one that isn't met by what is held: those before it are, and its descriptor d lacks a right.
pub record IsFirstUnmet (held : Row) (rows : List Needed) (row : Needed) (d : Descriptor) : Type 0 where
  pub before : List Needed
  pub after : List Needed
  pub splits : rows ≡ before ++ row ∷ after
  pub met : AllByRecursion (IsMetBy held) before
  pub there : held row.fd ≡ Some d
  pub lacks : has_needed d row ≡ false

-- What is missing of a descriptor are exactly the rights that are needed and that it lacks, unless it has others that stand for them.
pub record LacksExactly (d : Descriptor) (row : Needed) : Type 0 where
  pub base : has_instead d row ≡ false → (k : ℕ) → k < 64 → Has (lack_base d row).0 k ↔ (Has row.base.0 k × ¬ Has d.base.0 k)
  pub inheriting : (k : ℕ) → k < 64 → Has (lack_inheriting d row).0 k ↔ (Has row.inheriting.0 k × ¬ Has d.inheriting.0 k)

-- each descriptor that the call names is held
abbrev pub HoldsAll : Row → List ℕ → Type 0
HoldsAll held fds = AllByRecursion (λ fd. IsSome (held fd)) fds

-- The denial says what the first descriptor lacks that lacks a right which the call needs: its number, and exactly the rights missing, each bit
-- of them.
pub record NamesFirstUnmet (held : Row) (call : Call) (denial : Denial) : Type 0 where
  pub row : Needed
  pub d : Descriptor
  pub all : HoldsAll held (named call)
  pub first : IsFirstUnmet held (need call) row d
  pub names : denial ≡ missing d row
  pub lacks : LacksExactly d row

-- whether the denial is of missing rights
abbrev pub is_of_rights : Denial → Bool
is_of_rights (Missing fd base inheriting) = true
is_of_rights (Outside component) = false

-- the entry is this call, with this answer; or the wake of a thread that waited in it, with this answer, which found the places of its output
abbrev pub Answers : Entry → Call → Answer → Type 0
Answers e call given = (e.act ≡ act.Call call given) ⊎ ((word : ℕ) × (e.act ≡ act.Wake call (wake.Plain word) given))

-- The refusals of an entry for missing rights, by what the recorded grants say that its process holds. Each names exactly what is missing; and
-- where a right is missing, and each descriptor that the call names is held, the call is refused so. NOTCAPABLE says what is missing, or
-- where a path leads outside.
pub record RefusalsAreExact (launch : Launch) (front : List Entry) (e : Entry) : Type 0 where
  pub exact : (call : Call) (reply : Reply) (denial : Denial) → Replies e call reply → reply.denial ≡ Some denial → is_of_rights denial ≡ true
      → NamesFirstUnmet (held_before launch front e) call denial
  pub refused : (call : Call) (given : Answer) (row : Needed) (d : Descriptor) → Answers e call given → HoldsAll (held_before launch front e) (named call)
      → IsFirstUnmet (held_before launch front e) (need call) row d → given ≡ answer.Reply (denied (missing d row))
  pub told : (call : Call) (reply : Reply) → Replies e call reply → reply.errno ≡ Notcapable → IsSome reply.denial

-- ---- what other processes have

-- The entry leaves each other process that was made before it, and is live after it, as it was: its memory, registers and turns, its descriptors and what
-- else is its own, and its status. And what it asks for hangs on its own process's memory, registers, turns and threads alone: in each world that has the
-- same of these it asks for the same.
pub record KeepsApart (launch : Launch) (front : List Entry) (e : Entry) : Type 0 where
  pub leaves : (q : ℕ) → is_own q e ≡ false → Made (world launch front) q → IsLiveIn (world launch (front ++ e ∷ [])) q
      → Same (world launch (front ++ e ∷ [])) (world launch front) q
  pub asks : (v : World) → guest_of v e.pid ≡ guest_of (world launch front) e.pid
      → threads_of v.state e.pid ≡ threads_of (world launch front).state e.pid
      → Asks v.state (who_of (world launch front).state e) (guest_of v e.pid) e.turns e.act

-- ---- all of it

-- The history of a run: one history, in which each call stands once, with the reply and the effect that the sequential kernel and machine
-- give there. No entry reads or changes anything but the clock, its process's own state, and what that process's descriptors reach with the
-- rights needed; a call changes of these only what it touches; and of memories, registers and turns an entry reads and changes its process's
-- alone. These descriptors are traced through recorded grants. Rights never grow along a grant. And every rights refusal names exactly those
-- missing.
pub record IsConfinedHistory (launch : Launch) (history : List Entry) : Type 0 where
  pub sequential : Legal launch history
  pub confined : (front : List Entry) (e : Entry) (rest : List Entry) → history ≡ front ++ e ∷ rest → KeepsWithinReach launch front e
  pub apart : (front : List Entry) (e : Entry) (rest : List Entry) → history ≡ front ++ e ∷ rest → KeepsApart launch front e
  pub traced : (front rest : List Entry) → history ≡ front ++ rest → DescriptorsAreTraced launch front
  pub never_grow : (front : List Entry) (e : Entry) (rest : List Entry) → history ≡ front ++ e ∷ rest → IsRecordedEntry launch front e
  pub refusals : (front : List Entry) (e : Entry) (rest : List Entry) → history ≡ front ++ e ∷ rest → RefusalsAreExact launch front e
