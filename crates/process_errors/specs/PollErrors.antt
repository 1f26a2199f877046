-- What a poll of no lock and no condition variable comes to, in other words than its meaning.
use Rattle.std.specs.Prelude.{◌≡◌, ◌↔◌, ⊤, ℕ, ◌+◌, ◌^◌, ◌<◌, List, [], ◌∷◌}
use Rattle.abi_structures.specs.declared.events.Subscription.{Subscription}
use Rattle.abi_structures.specs.declared.events.What.{What}
use Rattle.abi_structures.specs.declared.events.What.TheVariants.{Clock, Condvar, FdRead, FdWrite, LockRdlock, LockWrlock, ProcTerminate}
use Rattle.abi_types.specs.declared.call.Call.TheVariants.{Poll}
use Rattle.abi_types.specs.declared.constants.Constants.{Constants}
use Rattle.abi_types.specs.declared.who.Who.{Who}
use Rattle.kernel_model.specs.PollLaws.{IsReady}
use Rattle.kernel_model.specs.Proper.{IsIn}
use Rattle.kernel_model.specs.State.{ProcessState, State, Table}
use Rattle.kernel_model.specs.Step.{step_answer}
use Rattle.process_errors.specs.Verdicts.{Verdict, done, verdict_of, waits, IsUnrefused}

-- it waits for no lock and no condition variable
abbrev pub IsPlain : What → Type 0
IsPlain (Clock clock timeout precision flags) = ⊤
IsPlain (FdRead fd) = ⊤
IsPlain (FdWrite fd) = ⊤
IsPlain (ProcTerminate fd) = ⊤
IsPlain (LockRdlock lock word scope) = ⊥
IsPlain (LockWrlock lock word scope) = ⊥
IsPlain (Condvar condvar condvar_word lock lock_word condvar_scope lock_scope) = ⊥

-- the first subscription does so, if there is one
abbrev pub BeginsPlain : List Subscription → Type 0
BeginsPlain [] = ⊤
BeginsPlain (first ∷ rest) = IsPlain first.what

-- What it comes to at this moment, by a call that was made at the moment `since`: it has no error. `IsReady` says when a subscription is.
pub data PollComesTo (constants : Constants) (S : State) (table : Table) (since now : ℕ) (subscriptions : List Subscription) : Verdict → Type 0 where
  -- it is done where some subscription is ready
  some_ready : (s : Subscription) → IsIn s subscriptions → IsReady constants S table since now s.what
      → PollComesTo constants S table since now subscriptions done
  -- and its thread waits where none is
  none_ready : ((s : Subscription) → IsIn s subscriptions → ¬ IsReady constants S table since now s.what)
      → PollComesTo constants S table since now subscriptions waits

-- The call's moment is 1000 nanoseconds after the state's, and before 2^62.
abbrev pub PollIsListed : Type 0
PollIsListed =
    (constants : Constants) (S : State) (who : Who) (subscriptions : List Subscription) (table : Table) (own : ProcessState) (verdict : Verdict)
    → IsUnrefused S who (Poll subscriptions) table own → BeginsPlain subscriptions → S.clock + 1000 < 2 ^ 62
    → PollComesTo constants S table who.since (S.clock + 1000) subscriptions verdict
    ↔ (verdict ≡ verdict_of (step_answer constants S who (Poll subscriptions)))
