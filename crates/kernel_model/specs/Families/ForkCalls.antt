-- Calls that make a process of another, or let another program begin in one.
use Rattle.std.specs.Prelude.{ℕ, ◌+◌, ◌&&◌, nat_le, Bool, true, false, List, [], ◌∷◌, Option, None, Some, is_some}
use Rattle.std.specs.FinMap.{empty, get, insert}
use Rattle.clock_random.specs.Random.{random_bytes}
use Rattle.elf_image.specs.Checks.{fault_of}
use Rattle.elf_image.specs.declared.fault.ElfFault.{ElfFault}
use Rattle.tree_model.specs.Changes.{bytes_of}
use Rattle.abi_base.specs.declared.errno.Errno.TheVariants.{Again, Badf, Mfile, Noexec}
use Rattle.abi_base.specs.declared.rights.TheConstants.Rights.{PROC_EXEC}
use Rattle.abi_types.specs.declared.descriptor.Descriptor.{Descriptor}
use Rattle.abi_types.specs.declared.open_kind.OpenKind.{OpenKind}
use Rattle.abi_types.specs.declared.open_kind.OpenKind.TheVariants.{File, Process}
use Rattle.abi_types.specs.declared.reply.Answer.TheVariants as answer
use Rattle.abi_types.specs.declared.reply.Payload.TheVariants.{Child, Image}
use Rattle.abi_types.specs.declared.reply.Reply.{Reply}
use Rattle.abi_types.specs.declared.status.Status.TheVariants.{Live}
use Rattle.abi_types.specs.declared.thread.Thread.TheVariants.{Runnable}
use Rattle.kernel_model.specs.Families.Children.{child_of}
use Rattle.kernel_model.specs.Families.ClockCalls.{can_draw}
use Rattle.kernel_model.specs.Families.DescriptorCalls.{lowest_free}
use Rattle.kernel_model.specs.Families.Numbers.{can_number, made_more, next_object}
use Rattle.kernel_model.specs.Families.OpenMeaning.{OpenMeaning, at_descriptor, by_open}
use Rattle.kernel_model.specs.Fits.{fits}
use Rattle.kernel_model.specs.Meaning.{Meaning, answering}
use Rattle.kernel_model.specs.Outcome.{Outcome, replies}
use Rattle.kernel_model.specs.OwnChanges.{begins_anew, begun_anew, forks_one, may_bear, with_next_child}
use Rattle.kernel_model.specs.Reply.{refused, success}
use Rattle.kernel_model.specs.Rows.{base_row}
use Rattle.kernel_model.specs.Start.{canary_words}
use Rattle.kernel_model.specs.State.{ProcessState, Table, Update, set_open, set_process, set_status, set_table}
use Rattle.kernel_model.specs.View.{View}

-- ---- proc_fork

-- how many turns a process must have left to make a child, which gets a sixteenth of them
abbrev pub least_turns : ℕ
least_turns = 16

-- What the child starts with beside its descriptors, where thread t makes it: that thread alone, which runs; it goes on numbering threads where
-- its parent is; it has made nothing and drawn nothing yet; nobody waits; and it is one deeper.
abbrev pub child_process : ℕ → ProcessState → ProcessState
child_process t own = record {
  threads = insert empty t Runnable;
  counts = record { objects = 0; threads = own.counts.threads; forks = 0; words = 0 };
  depth = own.depth + 1;
}

-- the number of the next child of process p, that of its object, and that of its open: the parent counts two objects
abbrev pub child_number : ℕ → ProcessState → ℕ
child_number p own = child_of p own.depth (own.counts.forks + 1)

abbrev pub child_object : ℕ → ProcessState → ℕ
child_object p own = next_object p (Some own) 1

abbrev pub child_open : ℕ → ProcessState → ℕ
child_open p own = next_object p (Some own) 2

-- what its open is
abbrev pub child_kind : ℕ → ProcessState → OpenKind
child_kind p own = Process (child_number p own) (child_object p own)

-- the parent's descriptor of it, with all rights of its type: it passes on none
abbrev pub child_descriptor : ℕ → ProcessState → Descriptor
child_descriptor p own =
    record { id = child_open p own; base = record { 0 = fits (child_kind p own) }; inheriting = record { 0 = 0 } }

-- The parent has counted a child and two objects more, and has the descriptor of the child. The child is live, and has all the descriptors
-- that the parent had before.
abbrev pub fork_updates : ℕ → ℕ → ProcessState → Table → ℕ → List Update
fork_updates p t own table fd =
    set_process p (made_more 2 (with_next_child own)) ∷ set_table (child_number p own) table
    ∷ set_process (child_number p own) (child_process t own) ∷ set_status (child_number p own) Live
    ∷ set_open (child_open p own) (child_kind p own) ∷ set_table p (insert table fd (child_descriptor p own)) ∷ []

-- Whether thread t of the process can make a child with so many turns left: these are enough, and the process may have a child more. That the
-- thread is one of it and there are numbers for the child's object and its open is so in each run.
abbrev pub can_fork : ℕ → ℕ → ℕ → ProcessState → Bool
can_fork left p t own = nat_le least_turns left && (may_bear own && (is_some (get own.threads t) && can_number p 2 (Some own)))

-- The first result is the number of the parent's descriptor. The child's own number is not for the parent: the run makes the child by it.
abbrev pub forked_reply : ℕ → ℕ → Reply
forked_reply fd child = record (success fd 0) { payload = Child child }

abbrev pub fork_if : Bool → ℕ → ℕ → ProcessState → Table → ℕ → Outcome
fork_if false p t own table fd = replies (refused Again)
fork_if true p t own table fd =
    record { answer = answer.Reply (forked_reply fd (child_number p own)); updates = fork_updates p t own table fd }

abbrev pub fork_in : ℕ → ℕ → ℕ → Table → ℕ → Option ProcessState → Outcome
fork_in left p t table fd None = replies (refused Again)
fork_in left p t table fd (Some own) = fork_if (can_fork left p t own) p t own table fd

abbrev pub fork_at : ℕ → ℕ → ℕ → Option ProcessState → Table → Option ℕ → Outcome
fork_at left p t own table None = replies (refused Mfile)
fork_at left p t own table (Some fd) = fork_in left p t table fd own

-- the result is the number of the parent's descriptor, the lowest that is free
abbrev pub proc_fork : ℕ → Meaning
proc_fork left = record (answering (Mfile ∷ Again ∷ []) (success 0 0)) {
  effect = λ constants v who table. fork_at left who.pid who.tid (v.process who.pid) table (lowest_free table);
  numbers = 2;
  own = forks_one;
  takes_memory = true;
}

-- ---- proc_exec

-- the table with the descriptor under one number more, if there is one
abbrev pub put_where : Option Descriptor → ℕ → Table → Table
put_where None n table = table
put_where (Some d) n table = insert table n d

-- what stands under these numbers of a table, under the numbers from n on, in their order
abbrev pub listed_from : Table → ℕ → List ℕ → Table
listed_from table n [] = empty
listed_from table n (fd ∷ fds) = put_where (get table fd) n (listed_from table (n + 1) fds)

-- what is listed of a table, under the numbers from 0 on: what is listed more than once is there so often
abbrev pub listed : Table → List ℕ → Table
listed table fds = listed_from table 0 fds

-- the reply has the program, and the canary with which it starts
abbrev pub image_reply : List ℕ → List ℕ → Reply
image_reply elf canary = record (success 0 0) { payload = Image elf canary }

-- Another program begins in the process, by its thread t, with the descriptors that are listed. Its canary is the next 64 random bytes.
abbrev pub exec_if : Bool → List ℕ → ℕ → ℕ → ProcessState → Table → List ℕ → Outcome
exec_if false key p t own table elf = replies (refused Again)
exec_if true key p t own table elf = record {
  answer = answer.Reply (image_reply elf (random_bytes key p own.counts.words 64));
  updates = set_process p (begun_anew canary_words t own) ∷ set_table p table ∷ [];
}

-- In each run the process can draw the words.
abbrev pub exec_in : List ℕ → ℕ → ℕ → Table → List ℕ → Option ProcessState → Outcome
exec_in key p t table elf None = replies (refused Again)
exec_in key p t table elf (Some own) = exec_if (can_draw canary_words own) key p t own table elf

-- a file with a fault is no program
abbrev pub exec_checked : List ℕ → ℕ → ℕ → Table → List ℕ → Option ProcessState → Option ElfFault → Outcome
exec_checked key p t table elf own (Some fault) = replies (refused Noexec)
exec_checked key p t table elf own None = exec_in key p t table elf own

abbrev pub exec_open : List ℕ → ℕ → ℕ → Table → View → Option OpenKind → Outcome
exec_open key p t table v (Some (File node offset flags)) =
    exec_checked key p t table (bytes_of v.branch node) (v.process p) (fault_of (bytes_of v.branch node))
exec_open key p t table v _ = replies (refused Badf)

abbrev pub executing : List ℕ → ℕ → ℕ → Table → OpenMeaning
executing key p t table = record {
  effect = λ now v o. exec_open key p t table v;
  moves = λ kind. false;
  touched = λ kind. [];
  errors = Badf ∷ Noexec ∷ Again ∷ [];
  takes_memory = true;
  may_wait = false;
}

-- the program, and the descriptors that the process has afterwards
abbrev pub proc_exec : ℕ → List ℕ → Meaning
proc_exec fd fds = record (by_open (base_row fd PROC_EXEC) (executing [] 0 0 empty)) {
  named = fd ∷ fds;
  effect = λ constants v who table. at_descriptor (λ o. exec_open constants.key who.pid who.tid (listed table fds) v) v (get table fd);
  touched = λ S table. [];
  own = begins_anew canary_words;
}
