-- Which numbers new descriptors get: the statements that are the contracts of `numbers_are_lowest` in src/laws.rt.
use Rattle.std.specs.Prelude.{◌≡◌, ◌⊎◌, ⊤, ℕ, ◌<◌, List, [], ◌∷◌, None, Some, IsSome}
use Rattle.std.specs.FinMap.{get}
use Rattle.abi_base.specs.declared.errno.Errno.TheVariants.{Success}
use Rattle.abi_types.specs.declared.call.Call.{Call}
use Rattle.abi_types.specs.declared.call.Call.TheVariants.{FdCreate1, FdCreate2, FdDup, FileOpen, ProcFork, SockRecv}
use Rattle.abi_types.specs.declared.constants.Constants.{Constants}
use Rattle.abi_types.specs.declared.reply.Answer.TheVariants as answer
use Rattle.abi_types.specs.declared.reply.Payload.{Payload}
use Rattle.abi_types.specs.declared.reply.Payload.TheVariants.{Received}
use Rattle.abi_types.specs.declared.reply.Reply.{Reply}
use Rattle.abi_types.specs.declared.wake.WakeIn.{WakeIn}
use Rattle.abi_types.specs.declared.who.Who.{Who}
use Rattle.kernel_model.specs.Families.DescriptorCalls.{lowest_free}
use Rattle.kernel_model.specs.State.{State, Table}
use Rattle.kernel_model.specs.Step.{IsStep}
use Rattle.kernel_model.specs.Wakes.{IsWake}

-- ---- the lowest number

-- The lowest number that is free, as other laws cite it: none has it, each lower one is taken, and there is none where all 1024 are.
pub record LowestIsLowest : Type 0 where
  pub free : (table : Table) (n : ℕ) → lowest_free table ≡ Some n → get table n ≡ None
  pub small : (table : Table) (n : ℕ) → lowest_free table ≡ Some n → n < 1024
  pub lower : (table : Table) (n m : ℕ) → lowest_free table ≡ Some n → m < n → IsSome (get table m)
  pub none : (table : Table) (m : ℕ) → lowest_free table ≡ None → m < 1024 → IsSome (get table m)

-- ---- the numbers that a call gives

-- whether a number has a descriptor
abbrev pub IsTaken : Table → ℕ → Type 0
IsTaken table n = IsSome (get table n)

-- the number is the lowest of 1024 that isn't taken
pub record IsLowest (Taken : ℕ → Type 0) (n : ℕ) : Type 0 where
  pub free : ¬ Taken n
  pub small : n < 1024
  pub lower : (m : ℕ) → m < n → Taken m

-- each of the numbers is the lowest that is free once those before it are taken
abbrev pub AreLowest : (ℕ → Type 0) → List ℕ → Type 0
AreLowest Taken [] = ⊤
AreLowest Taken (n ∷ ns) = IsLowest Taken n × AreLowest (λ m. (m ≡ n) ⊎ Taken m) ns

-- the numbers that a reply to a call has, of descriptors that are new in its process
abbrev pub received_numbers : Payload → List ℕ
received_numbers (Received bytes fds flags) = fds
received_numbers other = []

abbrev pub given_numbers : Call → Reply → List ℕ
given_numbers (FdCreate1 kind) reply = reply.r1 ∷ []
given_numbers (FdCreate2 kind) reply = reply.r1 ∷ reply.r2 ∷ []
given_numbers (FdDup fd) reply = reply.r1 ∷ []
given_numbers (FileOpen lookup path oflags stat) reply = reply.r1 ∷ []
given_numbers (ProcFork left) reply = reply.r1 ∷ []
given_numbers (SockRecv fd length room flags) reply = received_numbers reply.payload
given_numbers other reply = []

-- The numbers that a call gives are the lowest that its process had free before it, in their order.
abbrev pub GivesLowest : Type 0
GivesLowest =
    (constants : Constants) (S : State) (who : Who) (call : Call) (reply : Reply) (T : State) (table : Table) → get S.tables who.pid ≡ Some table
    → IsStep constants S who call (answer.Reply reply) T → reply.errno ≡ Success → AreLowest (IsTaken table) (given_numbers call reply)

-- So are those that come by the wake of a thread that waited.
abbrev pub WakesGiveLowest : Type 0
WakesGiveLowest =
    (constants : Constants) (S : State) (who : Who) (call : Call) (given : WakeIn) (reply : Reply) (T : State) (table : Table)
    → get S.tables who.pid ≡ Some table → IsWake constants S who call given (answer.Reply reply) T → reply.errno ≡ Success
    → AreLowest (IsTaken table) (given_numbers call reply)
