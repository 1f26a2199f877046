-- What proc_exit, proc_raise, proc_fork and proc_exec come to, in other words than their meanings: a line for each case, with all of its
-- conditions.
use Rattle.std.specs.Prelude.{◌≡◌, ◌↔◌, ◌⊎◌, ℕ, ◌+◌, ◌-◌, ◌*◌, ◌^◌, ◌<◌, ◌≤◌, List, None, Some}
use Rattle.elf_image.specs.Checks.{fault_of}
use Rattle.elf_image.specs.declared.fault.ElfFault.{ElfFault}
use Rattle.tree_model.specs.Changes.{bytes_of}
use Rattle.abi_base.specs.declared.errno.Errno.TheVariants.{Again, Inval, Mfile, Noexec, Notsup}
use Rattle.abi_types.specs.declared.call.Call.TheVariants.{ProcExec, ProcExit, ProcFork, ProcRaise}
use Rattle.abi_types.specs.declared.constants.Constants.{Constants}
use Rattle.abi_types.specs.declared.open_kind.OpenKind.TheVariants.{File}
use Rattle.abi_types.specs.declared.reply.Answer.{Answer}
use Rattle.abi_types.specs.declared.reply.Answer.TheVariants as answer
use Rattle.abi_types.specs.declared.reply.Payload.TheVariants.{Child}
use Rattle.abi_types.specs.declared.who.Who.{Who}
use Rattle.kernel_model.specs.Reply.{refused, success}
use Rattle.kernel_model.specs.State.{ProcessState, State, Table, tree_of}
use Rattle.kernel_model.specs.Step.{step_answer}
use Rattle.process_errors.specs.FreeNumbers.{AreAllTaken, IsFirstFree}
use Rattle.process_errors.specs.Verdicts.{Verdict, done, fails, verdict_of, IsOpenOn, IsUnrefused}

-- ---- proc_exit

-- It is always done.
abbrev pub ExitIsListed : Type 0
ExitIsListed =
    (constants : Constants) (S : State) (who : Who) (code : ℕ) (table : Table) (own : ProcessState) → IsUnrefused S who (ProcExit code) table own
    → step_answer constants S who (ProcExit code) ≡ answer.Reply (success 0 0)

-- ---- proc_raise

-- STOP, TSTP, TTIN and TTOU, which would stop the process
abbrev pub IsStopping : ℕ → Type 0
IsStopping number = (number ≡ 14) ⊎ (number ≡ 18) ⊎ (number ≡ 19) ⊎ (number ≡ 20)

-- What a proc_raise of the signal with this number comes to.
pub data RaiseComesTo (number : ℕ) : Answer → Type 0 where
  -- INVAL: no signal has the number; they have 1 to 26
  no_signal : (number ≡ 0) ⊎ (26 < number) → RaiseComesTo number (answer.Reply (refused Inval))
  -- NOTSUP: the signal would stop the process
  stopping : IsStopping number → RaiseComesTo number (answer.Reply (refused Notsup))
  -- each other signal is raised
  raised : 0 < number → number ≤ 26 → ¬ IsStopping number → RaiseComesTo number (answer.Reply (success 0 0))

abbrev pub RaiseIsListed : Type 0
RaiseIsListed =
    (constants : Constants) (S : State) (who : Who) (number : ℕ) (table : Table) (own : ProcessState) (given : Answer)
    → IsUnrefused S who (ProcRaise number) table own → RaiseComesTo number given ↔ (given ≡ step_answer constants S who (ProcRaise number))

-- ---- proc_fork

-- The process may have no child more: it has fewer than 16 turns left, a depth of 4, or 254 children behind it; or its two objects would have no
-- number, as in no run.
abbrev pub MayNotFork : ℕ → ℕ → ProcessState → Type 0
MayNotFork left p own =
    (left < 16) ⊎ (4 ≤ own.depth) ⊎ (254 ≤ own.counts.forks) ⊎ (0xffffffff ≤ p) ⊎ (2 ^ 32 ≤ own.counts.objects + 2)

-- What a proc_fork of process p comes to that has so many turns left.
pub data ForkComesTo (left p : ℕ) (table : Table) (own : ProcessState) : Answer → Type 0 where
  -- MFILE: no number is free for the descriptor
  no_number : AreAllTaken table → ForkComesTo left p table own (answer.Reply (refused Mfile))
  -- AGAIN: the process may have no child more
  no_child : (fd : ℕ) → IsFirstFree table 0 fd → MayNotFork left p own → ForkComesTo left p table own (answer.Reply (refused Again))
  -- else it makes the next child, and the descriptor has the lowest free number
  made : (fd : ℕ) → IsFirstFree table 0 fd → ¬ MayNotFork left p own
      → ForkComesTo left p table own (answer.Reply (record (success fd 0) { payload = Child (p + (own.counts.forks + 1) * 256 ^ (3 - own.depth)) }))

abbrev pub ForkIsListed : Type 0
ForkIsListed =
    (constants : Constants) (S : State) (who : Who) (left : ℕ) (table : Table) (own : ProcessState) (given : Answer)
    → IsUnrefused S who (ProcFork left) table own
    → ForkComesTo left who.pid table own given ↔ (given ≡ step_answer constants S who (ProcFork left))

-- ---- proc_exec

-- What a proc_exec by the descriptor under this number comes to. It has the right for that, which only files have.
pub data ExecComesTo (S : State) (fd : ℕ) (table : Table) (own : ProcessState) : Verdict → Type 0 where
  -- NOEXEC: the file is no program, for this fault
  no_program : (node offset flags : ℕ) (fault : ElfFault) → IsOpenOn S table fd (File node offset flags) → fault_of (bytes_of (tree_of S) node) ≡ Some fault
      → ExecComesTo S fd table own (fails Noexec)
  -- AGAIN: the process has drawn so many random words that there are no 16 more for the canary, as in no run
  no_words : (node offset flags : ℕ) → IsOpenOn S table fd (File node offset flags) → fault_of (bytes_of (tree_of S) node) ≡ None
      → 2 ^ 63 ≤ own.counts.words + 16 → ExecComesTo S fd table own (fails Again)
  -- else the program begins
  begins : (node offset flags : ℕ) → IsOpenOn S table fd (File node offset flags) → fault_of (bytes_of (tree_of S) node) ≡ None
      → own.counts.words + 16 < 2 ^ 63 → ExecComesTo S fd table own done

abbrev pub ExecIsListed : Type 0
ExecIsListed =
    (constants : Constants) (S : State) (who : Who) (fd : ℕ) (bytes fds : List ℕ) (table : Table) (own : ProcessState) (verdict : Verdict)
    → IsUnrefused S who (ProcExec fd bytes fds) table own
    → ExecComesTo S fd table own verdict ↔ (verdict ≡ verdict_of (step_answer constants S who (ProcExec fd bytes fds)))
