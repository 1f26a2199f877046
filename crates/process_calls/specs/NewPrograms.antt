-- The program that a call lets begin in its process.
use Rattle.std.specs.Prelude.{◌≡◌, ℕ, true, List, [], ◌∷◌, Option, None, Some}
use Rattle.std.specs.FinMap.{get}
use Rattle.clock_random.specs.Random.{random_bytes}
use Rattle.elf_image.specs.Checks.{fault_of}
use Rattle.abi_base.specs.declared.errno.Errno.TheVariants.{Badf}
use Rattle.abi_types.specs.declared.reply.Answer.TheVariants as answer
use Rattle.fd_table.specs.Table.{IsTable}
use Rattle.kernel_model.specs.Families.ClockCalls.{can_draw}
use Rattle.kernel_model.specs.Families.ForkCalls.{exec_checked, exec_open, image_reply, listed}
use Rattle.kernel_model.specs.Families.OpenMeaning.{at_descriptor}
use Rattle.kernel_model.specs.Outcome.{Outcome, replies}
use Rattle.kernel_model.specs.OwnChanges.{begun_anew}
use Rattle.kernel_model.specs.Reply.{refused}
use Rattle.kernel_model.specs.Start.{canary_words}
use Rattle.kernel_model.specs.State.{ProcessState, State, Table, Update, set_process, set_table}
use Rattle.kernel_model.specs.View.{whole}
use Rattle.process_calls.specs.declared.programs.NewProgram.{NewProgram}
use Rattle.process_calls.specs.Forks.{IsOpenOf}

-- what the call comes to of thread t of process p, whose table is this, by the open of this descriptor
abbrev pub exec_outcome : List ℕ → State → ℕ → ℕ → Table → ℕ → List ℕ → Outcome
exec_outcome key S p t table fd fds = at_descriptor (λ o. exec_open key p t (listed table fds) (whole S)) (whole S) (get table fd)

-- the same by the bytes of the program, if it is by an open of a file
abbrev pub exec_bytes : List ℕ → ℕ → ℕ → Table → Option ProcessState → Option (List ℕ) → Outcome
exec_bytes key p t table own None = replies (refused Badf)
exec_bytes key p t table own (Some elf) = exec_checked key p t table elf own (fault_of elf)

-- what is set as a program begins
abbrev pub begun_updates : ℕ → ℕ → ProcessState → Table → List Update
begun_updates p t own table = set_process p (begun_anew canary_words t own) ∷ set_table p table ∷ []

abbrev pub begun : ℕ → ℕ → ProcessState → NewProgram → Outcome
begun p t own new = record { answer = answer.Reply (image_reply new.elf new.canary); updates = begun_updates p t own new.table }

-- that is the program, with its canary and the descriptors that are listed of the table
pub record IsProgram (key : List ℕ) (p : ℕ) (own : ProcessState) (table : Table) (elf fds : List ℕ) (new : NewProgram) : Type 0 where
  pub sound : fault_of elf ≡ None
  pub can : can_draw canary_words own ≡ true
  pub elf_is : new.elf ≡ elf
  pub canary_is : new.canary ≡ random_bytes key p own.counts.words 64
  pub table_is : new.table ≡ listed table fds
  pub small : IsTable new.table

-- The call comes to this: that program begins, in a process that is there.
pub record Begins (outcome : Outcome) (S : State) (p t : ℕ) (new : NewProgram) : Type 0 where
  pub own : ProcessState
  pub there : get S.processes p ≡ Some own
  pub can : can_draw canary_words own ≡ true
  pub small : IsTable new.table
  pub opens : (n : ℕ) → IsOpenOf S.opens (get new.table n)
  pub comes : outcome ≡ begun p t own new
