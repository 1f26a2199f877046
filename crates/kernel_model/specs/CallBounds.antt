-- What no call of a kind does: the statements that are the contracts of the functions of src/call_bounds.rt.
use Rattle.std.specs.Prelude.{◌≡◌, ◌⊎◌, ℕ, bit_and, true, false, Bool, [], Ok, None, Some}
use Rattle.std.specs.FinMap.{get}
use Rattle.abi_base.specs.declared.errno.Errno.TheVariants.{Badf}
use Rattle.abi_types.specs.Numbers.{number_of_call}
use Rattle.abi_types.specs.declared.call.Call.{Call}
use Rattle.abi_types.specs.declared.call.Call.TheVariants as call
use Rattle.abi_types.specs.declared.call_number.CallNumber.{CallNumber}
use Rattle.abi_types.specs.declared.call_number.CallNumber.TheVariants as number
use Rattle.abi_types.specs.declared.constants.Constants.{Constants}
use Rattle.abi_types.specs.declared.place.Place.{Place}
use Rattle.abi_types.specs.declared.place.Place.TheVariants as place
use Rattle.abi_types.specs.declared.reply.Answer.{Answer}
use Rattle.abi_types.specs.declared.reply.Answer.TheVariants as answer
use Rattle.abi_types.specs.declared.reply.Reply.{Reply}
use Rattle.abi_types.specs.declared.who.Who.{Who}
use Rattle.kernel_model.specs.Calls.{named, seen}
use Rattle.kernel_model.specs.Proper.{IsIn}
use Rattle.kernel_model.specs.State.{State, Table, at_node, at_names, has_part}
use Rattle.kernel_model.specs.Step.{touch, step_answer, step_state, IsStep}
use Rattle.kernel_model.specs.Valid.{IsValid}

-- ---- what is seen

-- Calls on descriptors alone see nothing behind them.
pub record NamesAlone : Type 0 where
  pub close : (fd : ℕ) → seen (call.FdClose fd) ≡ []
  pub dup : (fd : ℕ) → seen (call.FdDup fd) ≡ []
  pub replace : (from to : ℕ) → seen (call.FdReplace from to) ≡ []

-- ---- what is changed

-- the calls that read, whatever they read
abbrev pub reads : CallNumber → Bool
reads number.FdDatasync = true
reads number.FdPread = true
reads number.FdRead = true
reads number.FdSeek = true
reads number.FdStatGet = true
reads number.FdSync = true
reads number.FileAdvise = true
reads number.FileReaddir = true
reads number.FileReadlink = true
reads number.FileStatFget = true
reads number.FileStatGet = true
reads number.MemMap = true
reads other = false

-- A call that reads touches no file or directory, and no name.
abbrev pub ReadersKeepTree : Type 0
ReadersKeepTree =
    (S : State) (who : Who) (call : Call) (number : CallNumber) (n : ℕ) → number_of_call call ≡ Ok number → reads number ≡ true
    → (has_part (touch S who call) (at_node n) ≡ false) × (has_part (touch S who call) (at_names n) ≡ false)

-- ---- where memory never runs out

-- the calls that take no memory
abbrev pub never_lacks : CallNumber → Bool
never_lacks number.ClockResGet = true
never_lacks number.ClockTimeGet = true
never_lacks number.CondvarSignal = true
never_lacks number.FdClose = true
never_lacks number.FdCreate1 = true
never_lacks number.FdDatasync = true
never_lacks number.FdReplace = true
never_lacks number.FdSeek = true
never_lacks number.FdStatGet = true
never_lacks number.FdStatPut = true
never_lacks number.FdSync = true
never_lacks number.FileAdvise = true
never_lacks number.FileStatPut = true
never_lacks number.LockUnlock = true
never_lacks number.MemAdvise = true
never_lacks number.MemProtect = true
never_lacks number.MemSync = true
never_lacks number.MemUnmap = true
never_lacks number.ProcExit = true
never_lacks number.ProcRaise = true
never_lacks number.SockShutdown = true
never_lacks number.ThreadExit = true
never_lacks number.ThreadYield = true
never_lacks other = false

-- These calls have the answer and leave the state of their definition, whether there is memory or not.
abbrev pub NeverLack : Type 0
NeverLack =
    (constants : Constants) (S : State) (who : Who) (call : Call) (number : CallNumber) (given : Answer) (T : State)
    → number_of_call call ≡ Ok number → never_lacks number ≡ true → IsStep constants S who call given T
    → (given ≡ step_answer constants S who call) × (T ≡ step_state constants S who call)

-- ---- where the answer is BADF

-- the process has no table, or its table lacks a descriptor that the call names
abbrev pub IsAbsentIn : State → Who → Call → Type 0
IsAbsentIn S who call =
    (get S.tables who.pid ≡ None)
    ⊎ ((table : Table) × (fd : ℕ) × (get S.tables who.pid ≡ Some table) × IsIn fd (named call) × (get table fd ≡ None))

-- the mapping has no place, and the error for that is BADF
abbrev pub HasBadfPlace : Place → Type 0
HasBadfPlace (place.At address) = ⊥
HasBadfPlace (place.Refused errno) = errno ≡ Badf

-- The call is one that had BADF before the kernel looked at it; or it is a file_stat_fput that sets no size and no time, which no
-- program's registers give.
abbrev pub IsBadfBefore : Call → Type 0
IsBadfBefore (call.Memory number errno) = errno ≡ Badf
IsBadfBefore (call.Refused number errno) = errno ≡ Badf
IsBadfBefore (call.MemMap place length prot flags fd offset) = HasBadfPlace place
IsBadfBefore (call.FileStatFput fd stat flags) = bit_and flags 31 ≡ 0
IsBadfBefore other = ⊥

-- In a valid state a call answers BADF only where its process has no table or a descriptor that it names is absent, or where it
-- had that error before.
abbrev pub BadfIsAbsent : Type 0
BadfIsAbsent =
    (constants : Constants) (S : State) (who : Who) (call : Call) (reply : Reply) (T : State) → IsValid S
    → IsStep constants S who call (answer.Reply reply) T → reply.errno ≡ Badf → IsAbsentIn S who call ⊎ IsBadfBefore call
