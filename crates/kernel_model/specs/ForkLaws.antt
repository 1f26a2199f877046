-- What proc_fork and proc_exec do, in other words than their meanings: the statements that are the contracts of the functions of
-- src/fork_laws.rt.
use Rattle.std.specs.Prelude.{◌≡◌, ℕ, zero, suc, ◌+◌, ◌-◌, ◌*◌, ◌^◌, ◌<◌, ◌≤◌, List, [], ◌∷◌, Option, None, Some}
use Rattle.std.specs.FinMap.{empty, get, insert}
use Rattle.clock_random.specs.Random.{random_bytes}
use Rattle.elf_image.specs.Checks.{fault_of}
use Rattle.tree_model.specs.Changes.{bytes_of}
use Rattle.abi_base.specs.declared.errno.Errno.TheVariants.{Success}
use Rattle.abi_types.specs.OpenTypes.{rights_of}
use Rattle.abi_types.specs.declared.call.Call.TheVariants.{ProcExec, ProcFork}
use Rattle.abi_types.specs.declared.constants.Constants.{Constants}
use Rattle.abi_types.specs.declared.descriptor.Descriptor.{Descriptor}
use Rattle.abi_types.specs.declared.open_kind.OpenKind.TheVariants.{File, Process}
use Rattle.abi_types.specs.declared.open_type.OpenType.TheVariants as open_type
use Rattle.abi_types.specs.declared.reply.Answer.TheVariants as answer
use Rattle.abi_types.specs.declared.reply.Payload.TheVariants.{Child}
use Rattle.abi_types.specs.declared.reply.Reply.{Reply}
use Rattle.abi_types.specs.declared.status.Status.TheVariants.{Live}
use Rattle.abi_types.specs.declared.thread.Thread.TheVariants.{Runnable}
use Rattle.abi_types.specs.declared.who.Who.{Who}
use Rattle.kernel_model.specs.ChildLaws.{IsUnmade}
use Rattle.kernel_model.specs.Families.DescriptorCalls.{lowest_free}
use Rattle.kernel_model.specs.Families.ForkCalls.{child_descriptor, child_kind, child_number, child_open, child_process, forked_reply, image_reply}
use Rattle.kernel_model.specs.Families.Numbers.{made_more}
use Rattle.kernel_model.specs.OwnChanges.{with_next_child}
use Rattle.kernel_model.specs.Reply.{success}
use Rattle.kernel_model.specs.State.{ProcessState, State, Table, tree_of}
use Rattle.kernel_model.specs.Step.{IsStep}
use Rattle.kernel_model.specs.ThreadLaws.{IsCaller}
use Rattle.kernel_model.specs.Valid.{IsValid}

-- ---- proc_fork

-- A fork that succeeds is of a thread of its process, which has 16 turns left at least, a depth of less than 4, fewer than 254 children before
-- this one, and a free number for a descriptor. The child was not made before: no process has its number, and no object that it would make is
-- there. It is live, with the same descriptors as its parent had, under the same numbers, with the thread that made it. The parent has
-- a descriptor of it more, and nothing else of any process and of any open is changed.
pub record IsForked (S : State) (who : Who) (left : ℕ) (reply : Reply) (T : State) : Type 0 where
  pub own : ProcessState
  pub caller : IsCaller S who own
  pub turns : 16 ≤ left
  pub few : (own.depth < 4) × (own.counts.forks < 254)
  pub table : Table
  pub had : get S.tables who.pid ≡ Some table
  pub fd : ℕ
  pub free : lowest_free table ≡ Some fd
  pub answers : reply ≡ forked_reply fd (child_number who.pid own)
  pub new : IsUnmade S (child_number who.pid own)
  pub absent : get S.opens (child_open who.pid own) ≡ None
  pub tables : T.tables ≡ insert (insert S.tables (child_number who.pid own) table) who.pid (insert table fd (child_descriptor who.pid own))
  pub processes : T.processes
      ≡ insert (insert S.processes who.pid (made_more 2 (with_next_child own))) (child_number who.pid own) (child_process who.tid own)
  pub statuses : T.statuses ≡ insert S.statuses (child_number who.pid own) Live
  pub opens : T.opens ≡ insert S.opens (child_open who.pid own) (child_kind who.pid own)

-- What these are, in numbers, of thread t of process p, which has this of its own.
pub record IsNumbered (p t : ℕ) (own : ProcessState) : Type 0 where
  -- the child is the parent's next one, and its number has the place among these in the byte of the parent's depth, counted from the most
  -- significant of four
  pub number : child_number p own ≡ p + (own.counts.forks + 1) * 256 ^ (3 - own.depth)
  -- it has the thread t, which runs, and no other; its threads are numbered on from its parent's; it has made no object, drawn no random word
  -- and has no child; and it is one deeper
  pub child : child_process t own
      ≡ record {
        threads = insert empty t Runnable;
        counts = record { objects = 0; threads = own.counts.threads; forks = 0; words = 0 };
        depth = own.depth + 1;
      }
  -- the parent has counted two objects more, the child's and that of its open, and a child
  pub parent : made_more 2 (with_next_child own)
      ≡ record own { counts = record own.counts { objects = own.counts.objects + 2; forks = own.counts.forks + 1 } }
  pub kind : child_kind p own ≡ Process (child_number p own) (p * 2 ^ 32 + (own.counts.objects + 1))
  -- its descriptor of the child has FILE_STAT_FGET and POLL_PROC_TERMINATE, and passes on nothing
  pub descriptor : child_descriptor p own
      ≡ record { id = p * 2 ^ 32 + (own.counts.objects + 2); base = record { 0 = rights_of open_type.Process }; inheriting = record { 0 = 0 } }
  -- the result is the descriptor's number, and the run is told the child's
  pub reply : (fd : ℕ) → forked_reply fd (child_number p own) ≡ record (success fd 0) { payload = Child (child_number p own) }

abbrev pub ForksAreNumbered : Type 0
ForksAreNumbered = (p t : ℕ) (own : ProcessState) → own.depth < 4 → IsNumbered p t own

abbrev pub ForkMakesChild : Type 0
ForkMakesChild =
    (constants : Constants) (S : State) (who : Who) (left : ℕ) (reply : Reply) (T : State) → IsValid S
    → IsStep constants S who (ProcFork left) (answer.Reply reply) T → reply.errno ≡ Success → IsForked S who left reply T

-- ---- proc_exec

-- what stands under the n-th of these numbers
abbrev pub nth_held : (ℕ → Option Descriptor) → List ℕ → ℕ → Option Descriptor
nth_held row [] n = None
nth_held row (fd ∷ fds) zero = row fd
nth_held row (fd ∷ fds) (suc n) = nth_held row fds n

-- A proc_exec that succeeds is by a descriptor of a file whose bytes are a program. Its reply has these, and the next 64 random bytes of the
-- process. A process that lives on has under each number the descriptor that was listed there, and no other.
pub record IsBegun (constants : Constants) (S : State) (who : Who) (fd : ℕ) (fds : List ℕ) (reply : Reply) (T : State) : Type 0 where
  pub own : ProcessState
  pub there : get S.processes who.pid ≡ Some own
  pub table : Table
  pub had : get S.tables who.pid ≡ Some table
  pub d : Descriptor
  pub program : get table fd ≡ Some d
  pub node : ℕ
  pub offset : ℕ
  pub flags : ℕ
  pub opened : get S.opens d.id ≡ Some (File node offset flags)
  pub sound : fault_of (bytes_of (tree_of S) node) ≡ None
  pub answers : reply ≡ image_reply (bytes_of (tree_of S) node) (random_bytes constants.key who.pid own.counts.words 64)
  pub has : get T.statuses who.pid ≡ Some Live → (after : Table) × (get T.tables who.pid ≡ Some after) × ((n : ℕ) → get after n ≡ nth_held (get table) fds n)

abbrev pub ExecBegins : Type 0
ExecBegins =
    (constants : Constants) (S : State) (who : Who) (fd : ℕ) (bytes fds : List ℕ) (reply : Reply) (T : State)
    → IsStep constants S who (ProcExec fd bytes fds) (answer.Reply reply) T → reply.errno ≡ Success → IsBegun constants S who fd fds reply T
