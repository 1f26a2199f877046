-- What proc_exit and proc_raise do, in other words than their meanings: the statements that are the contracts of `processes_end_as_told` in
-- src/laws.rt.
use Rattle.std.specs.Prelude.{◌≡◌, ◌⊎◌, ℕ, ◌<◌, None, Some, IsSome}
use Rattle.std.specs.FinMap.{get}
use Rattle.abi_base.specs.Signal.{number_of}
use Rattle.abi_base.specs.declared.errno.Errno.TheVariants.{Inval, Notsup}
use Rattle.abi_base.specs.declared.signal.Signal.{Signal}
use Rattle.abi_types.specs.declared.call.Call.TheVariants.{ProcExit, ProcRaise}
use Rattle.abi_types.specs.declared.constants.Constants.{Constants}
use Rattle.abi_types.specs.declared.reply.Answer.{Answer}
use Rattle.abi_types.specs.declared.reply.Answer.TheVariants as answer
use Rattle.abi_types.specs.declared.status.Status.{Status}
use Rattle.abi_types.specs.declared.status.Status.TheVariants.{Exit, Killed}
use Rattle.abi_types.specs.declared.who.Who.{Who}
use Rattle.kernel_model.specs.Reply.{refused, success}
use Rattle.kernel_model.specs.State.{State}
use Rattle.kernel_model.specs.Step.{end_state, IsStep}
use Rattle.kernel_model.specs.ThreadLaws.{OnlyAnswers}
use Rattle.kernel_model.specs.Valid.{IsValid}

-- The call succeeds, and its process has ended with this status, as from outside. Nothing else is left of the process: it has no descriptor,
-- no thread and no counts any more.
pub record EndsAs (S : State) (who : Who) (status : Status) (given : Answer) (T : State) : Type 0 where
  pub answers : given ≡ answer.Reply (success 0 0)
  pub ends : T ≡ end_state S who.pid status
  pub stands : get T.statuses who.pid ≡ Some status
  pub gone : (get T.tables who.pid ≡ None) × (get T.processes who.pid ≡ None)

-- A proc_exit ends its process with the code.
abbrev pub ExitEnds : Type 0
ExitEnds =
    (constants : Constants) (S : State) (who : Who) (code : ℕ) (given : Answer) (T : State) → IsSome (get S.tables who.pid)
    → IsStep constants S who (ProcExit code) given T → EndsAs S who (Exit code) given T

-- CHLD, CONT and URG leave the process; STOP, TSTP, TTIN and TTOU would stop it
abbrev pub IsPassed : ℕ → Type 0
IsPassed number = (number ≡ 4) ⊎ (number ≡ 5) ⊎ (number ≡ 21)

abbrev pub IsStopping : ℕ → Type 0
IsStopping number = (number ≡ 14) ⊎ (number ≡ 18) ⊎ (number ≡ 19) ⊎ (number ≡ 20)

-- the numbers of signals are 1 to 26
abbrev pub IsNoSignal : ℕ → Type 0
IsNoSignal number = (number ≡ 0) ⊎ (26 < number)

-- What a signal does that a process raises.
pub record RaiseEnds : Type 0 where
  -- three change nothing, and four are refused, as is each number that is no signal's
  pub passes : (constants : Constants) (S : State) (who : Who) (number : ℕ) (given : Answer) (T : State) → IsValid S → IsSome (get S.tables who.pid)
      → IsPassed number → IsStep constants S who (ProcRaise number) given T → OnlyAnswers S who given T (success 0 0)
  pub stops : (constants : Constants) (S : State) (who : Who) (number : ℕ) (given : Answer) (T : State) → IsValid S → IsSome (get S.tables who.pid)
      → IsStopping number → IsStep constants S who (ProcRaise number) given T → OnlyAnswers S who given T (refused Notsup)
  pub none : (constants : Constants) (S : State) (who : Who) (number : ℕ) (given : Answer) (T : State) → IsValid S → IsSome (get S.tables who.pid)
      → IsNoSignal number → IsStep constants S who (ProcRaise number) given T → OnlyAnswers S who given T (refused Inval)
  -- by each other one its process ends
  pub ends : (constants : Constants) (S : State) (who : Who) (signal : Signal) (given : Answer) (T : State) → IsSome (get S.tables who.pid)
      → ¬ IsPassed (number_of signal) → ¬ IsStopping (number_of signal) → IsStep constants S who (ProcRaise (number_of signal)) given T
      → EndsAs S who (Killed signal) given T
