-- What the meaning of each call keeps to. The laws of all steps follow from it (`Laws.antt`), so a call that is added is
-- shown to keep to this, and nothing else is shown anew.
use Rattle.std.specs.Prelude.{◌≡◌, ◌≢◌, ◌⊎◌, ⊤, ℕ, suc, ◌+◌, ◌≤◌, ◌||◌, Bool, true, false, List, [], ◌∷◌, ◌++◌, length, map, Option, None, Some}
use Rattle.std.specs.List.{AllByRecursion}
use Rattle.std.specs.FinMap.{get}
use Rattle.abi_base.specs.declared.errno.Errno.{Errno}
use Rattle.abi_base.specs.declared.errno.Errno.TheVariants.{Success, Nomem, Pipe}
use Rattle.abi_types.specs.declared.reply.Answer.TheVariants as answer
use Rattle.abi_types.specs.declared.reply.Reply.{Reply}
use Rattle.abi_types.specs.declared.reply.WordWrite.{WordWrite}
use Rattle.abi_types.specs.declared.reply.WordWrites.TheVariants.{Two}
use Rattle.abi_types.specs.declared.constants.Constants.{Constants}
use Rattle.abi_types.specs.declared.descriptor.Denial.TheVariants.{Outside}
use Rattle.abi_types.specs.declared.descriptor.Descriptor.{Descriptor}
use Rattle.abi_types.specs.declared.needed.Needed.{Needed}
use Rattle.abi_types.specs.declared.who.Who.{Who}
use Rattle.kernel_model.specs.Channels.{Channel, Send, carried_of, sends_after, sends_gone}
use Rattle.kernel_model.specs.Deadlines.{is_due, soon}
use Rattle.kernel_model.specs.Meaning.{Meaning}
use Rattle.kernel_model.specs.Families.ChannelCalls.{picked}
use Rattle.kernel_model.specs.Families.Locks.{handed_own}
use Rattle.kernel_model.specs.Outcome.{Outcome, OnReply, is_parked, replies}
use Rattle.kernel_model.specs.OwnChanges.{AllowsChange, LeavesOwn, begins_to_sleep, born_of, made_parts}
use Rattle.kernel_model.specs.Reply.{denied}
use Rattle.kernel_model.specs.Sight.{process_parts, reached}
use Rattle.kernel_model.specs.State.{State, ProcessState, Table, Part, Update, at_proc, at_status, has_part, part_of, put_all, set_chan, set_process}
use Rattle.kernel_model.specs.Step.{tick}
use Rattle.kernel_model.specs.Valid.{IsNearlyValid}
use Rattle.kernel_model.specs.View.{View, restrict, whole}

-- the list has the item
abbrev pub IsIn : {X : Type 0} → X → List X → Type 0
IsIn {X} x xs = (before : List X) × (after : List X) × (xs ≡ before ++ x ∷ after)

-- the descriptor waits in the channel
abbrev pub Waits : State → ℕ → Descriptor → Type 0
Waits S c d = (channel : Channel) × (get S.chans c ≡ Some channel) × IsIn d (carried_of channel.waiting)

-- How a channel goes on, if there was one: nothing waits in it any more; or so many bytes were drawn from it, or none; or one send more
-- stands behind the others, and this holds of what it carries.
pub data GoesOn (carries : List Descriptor → Type 0) (old : Option Channel) (new : Channel) : Type 0 where
  empties : new.waiting ≡ [] → GoesOn carries old new
  draws : (was : Channel) (m : ℕ) → old ≡ Some was → new.waiting ≡ sends_after m was.waiting → new.left ≡ was.left + sends_gone m was.waiting
      → GoesOn carries old new
  adds : (was : Channel) (send : Send) → old ≡ Some was → new.waiting ≡ was.waiting ++ send ∷ [] → new.left ≡ was.left → carries send.carried
      → GoesOn carries old new

-- how many sends a channel has had: those that have left it, and those that wait
abbrev pub sends_had : Channel → ℕ
sends_had channel = channel.left + length channel.waiting

-- a call that sends may answer PIPE, and no other call does
abbrev pub is_pipe : Errno → Bool
is_pipe Pipe = true
is_pipe errno = false

abbrev pub may_send : List Errno → Bool
may_send [] = false
may_send (errno ∷ errors) = is_pipe errno || may_send errors

-- a channel that was there has had as many sends as before, or one more, by a call that sends; and one that wasn't has had none
abbrev pub IsCounted : Bool → Option Channel → Channel → Type 0
IsCounted sends None new = sends_had new ≡ 0
IsCounted sends (Some was) new = (sends_had new ≡ sends_had was) ⊎ ((sends ≡ true) × (sends_had new ≡ suc (sends_had was)))

-- a process's table, the numbers of the descriptors that a call of it sends, and whether it is a call that sends
abbrev pub Sender : Type 0
Sender = Table × List ℕ × Bool

-- nothing is carried, or what stands in the table under the numbers, in their order
abbrev pub IsSentBy : Sender → List Descriptor → Type 0
IsSentBy sender carried = (carried ≡ []) ⊎ (carried ≡ picked sender.0 sender.1)

-- where the update sets a channel, this goes on from what it was, a send more carries what is sent, and it is counted
abbrev pub CarriesOn : State → Sender → Update → Type 0
CarriesOn S sender (set_chan c channel) = GoesOn (IsSentBy sender) (get S.chans c) channel × IsCounted sender.2 (get S.chans c) channel
CarriesOn S sender _ = ⊤

abbrev pub AllCarryOn : State → Sender → Outcome → Type 0
AllCarryOn S sender o = AllByRecursion (CarriesOn S sender) o.updates

-- the part is none that the outcome sets
abbrev pub IsUnset : Outcome → Part → Type 0
IsUnset o part = has_part (map part_of o.updates) part ≡ false

-- a reply denies nothing, and is a success, or one of these errors with nothing set
abbrev pub IsPlain : List Errno → Outcome → Type 0
IsPlain errors o =
    OnReply (λ (reply : Reply). (reply.denial ≡ None) × ((reply.errno ≡ Success) ⊎ ((o.updates ≡ []) × IsIn reply.errno errors))) o.answer

-- where a path leads outside the call is denied for it with nothing set, and else its reply is plain
abbrev pub IsDeniedOutside : List Errno → Option ℕ → Outcome → Type 0
IsDeniedOutside errors None o = IsPlain errors o
IsDeniedOutside errors (Some component) o = o ≡ replies (denied (Outside component))

-- The outcome of a call of process p, that has this of its own, sets nothing; or its thread begins to wait at a condition variable, and hands on
-- the lock whose word it writes.
pub data SetsWaiters (p : ℕ) (own : Option ProcessState) (o : Outcome) : Type 0 where
  nothing_set : begins_to_sleep o.answer ≡ false → o.updates ≡ [] → SetsWaiters p own o
  handed_on : (condvar lock : WordWrite) (was : ProcessState) → o.answer ≡ answer.Parked (Two condvar lock) → own ≡ Some was
      → o.updates ≡ set_process p (handed_own lock.address was) ∷ [] → SetsWaiters p own o

-- This holds of the outcome of a call of process p, that has this of its own; or the call is one in which a thread may wait, and it does, with
-- nothing set but how others wait in its process.
abbrev pub OrWaits : Bool → ℕ → Option ProcessState → Outcome → Type 0 → Type 0
OrWaits false p own o P = P
OrWaits true p own o P = ((is_parked o.answer ≡ true) × SetsWaiters p own o) ⊎ P

-- How a thread waits in a call in which it may.
pub record IsPatient (m : Meaning) : Type 0 where
  -- where it waits it has waited at each earlier moment: a call that is done at some moment is done at each later one
  pub patient : (constants : Constants) (v : View) (who : Who) (table : Table) (before : ℕ) → before ≤ v.clock
      → is_parked (m.effect constants v who table).answer ≡ true
      → is_parked (m.effect constants (record v { clock = before }) who table).answer ≡ true
  -- once its deadline has come it doesn't wait, unless it goes on by how far its wait has come
  pub due : m.by_stage ≡ false → (constants : Constants) (v : View) (who : Who) (table : Table) → is_due v.clock (soon (m.deadline constants who.since)) ≡ true
      → is_parked (m.effect constants v who table).answer ≡ false
  -- no path of it leads outside
  pub inside : (v : View) (table : Table) → m.outside v table ≡ None
  -- memory may run out, since the call is kept while its thread waits
  pub keeps : m.takes_memory ≡ true

-- the call needs a right of this descriptor
abbrev pub NeedsOf : List Needed → ℕ → Type 0
NeedsOf rows fd = (row : Needed) × IsIn row rows × (row.fd ≡ fd)

-- the call needs a right of the descriptor; or it needs no right at all, and names it
abbrev pub MaySee : Meaning → ℕ → Type 0
MaySee m fd = NeedsOf m.need fd ⊎ ((m.need ≡ []) × IsIn fd m.named)

pub record IsProper (m : Meaning) : Type 0 where
  -- the descriptors of which it needs a right it names, and it sees only what it may
  pub names : AllByRecursion (λ (row : Needed). IsIn row.fd m.named) m.need
  pub sees : AllByRecursion (MaySee m) m.seen
  -- by what it sees it does what it does by the whole state
  pub reads : (constants : Constants) (S : State) (who : Who) (table : Table)
      → m.effect constants (restrict S (process_parts who.pid ++ reached S table m.seen)) who table ≡ m.effect constants (whole S) who table
  -- and by what it sees its path leads outside where it does by the whole state
  pub walks : (S : State) (who : Who) (table : Table)
      → m.outside (restrict S (process_parts who.pid ++ reached S table m.seen)) table ≡ m.outside (whole S) table
  -- it sets no part beside its process's own, the child and the objects that it makes and what it says that it changes, and it sees
  -- what it changes
  pub sets : (constants : Constants) (S : State) (who : Who) (table : Table) (part : Part)
      → has_part (process_parts who.pid ++ (made_parts m.own who.pid m.numbers (get S.processes who.pid) ++ m.touched S table)) part ≡ false
      → IsUnset (m.effect constants (whole (tick S)) who table) part
  pub touched : (S : State) (table : Table) (part : Part) → has_part (m.touched S table) part ≡ true → has_part (reached S table m.seen) part ≡ true
  -- where its path leads outside it is denied for that alone; else its thread waits, where it may, with nothing set, or its reply
  -- is a success, or one of its errors with nothing set; and of these none is lack of memory where that may be
  pub plain : (constants : Constants) (v : View) (who : Who) (table : Table)
      → OrWaits m.may_wait who.pid (v.process who.pid) (m.effect constants v who table) (IsDeniedOutside m.errors (m.outside v table) (m.effect constants v who table))
  pub waits : m.may_wait ≡ true → IsPatient m
  pub lacks : m.takes_memory ≡ true → AllByRecursion (λ errno. errno ≢ Nomem) m.errors
  -- it sets nothing that another process has of its own, but of the child that it makes
  pub others : (constants : Constants) (v : View) (who : Who) (table : Table) (q : ℕ) → q ≢ who.pid → born_of m.own who.pid (v.process who.pid) ≢ Some q
      → IsUnset (m.effect constants v who table) (at_proc q) × IsUnset (m.effect constants v who table) (at_status q)
  -- of what its process has of its own beside its descriptors it changes what it says; it may number objects, and end
  -- the process; and that allows it.
  pub own : (constants : Constants) (S : State) (who : Who) (table : Table)
      → LeavesOwn m.own who.pid who.tid (m.effect constants (whole S) who table).answer S (put_all (m.effect constants (whole S) who table).updates S)
  pub allows : (constants : Constants) (S : State) (who : Who) (table : Table)
      → AllowsChange m.own who.tid (m.effect constants (whole S) who table).answer (get S.processes who.pid)
  -- in a state that is nearly valid it draws from channels or drops what waits there, or it puts behind this what it sends
  pub carries : (constants : Constants) (S : State) (who : Who) (table : Table) → IsNearlyValid S
      → AllCarryOn S (table, m.sends, may_send m.errors) (m.effect constants (whole S) who table)
  -- a state that is nearly valid, and in which its process has this table, it leaves so
  pub valid : (constants : Constants) (S : State) (who : Who) (table : Table) → get S.tables who.pid ≡ Some table → IsNearlyValid S
      → IsNearlyValid (put_all (m.effect constants (whole S) who table).updates S)
