-- Calls on processes and threads.
use Rattle.std.specs.Prelude.{ℕ, ◌-◌, ◌^◌, ◌==◌, ◌&&◌, nat_lt, not, Bool, true, false, List, [], ◌∷◌, Option, None, Some, is_some}
use Rattle.std.specs.FinMap.{get, len, remove}
use Rattle.std.specs.List.{find}
use Rattle.abi_base.specs.declared.errno.Errno.TheVariants.{Again, Inval, Notsup, Perm}
use Rattle.abi_base.specs.declared.signal.Signal.{Signal}
use Rattle.abi_base.specs.declared.signal.Signal.TheVariants.{Abrt, Alrm, Bus, Chld, Cont, Fpe, Hup, Ill, Int, Kill, Pipe, Quit, Segv, Stop, Sys, Term, Trap, Tstp, Ttin, Ttou, Urg, Usr1, Usr2, Vtalrm, Xcpu, Xfsz}
use Rattle.abi_base.specs.Signal.{number_of}
use Rattle.abi_base.specs.declared.limits.TheConstants.{MOST_THREADS}
use Rattle.abi_types.specs.declared.reply.Answer.TheVariants as answer
use Rattle.abi_types.specs.declared.status.Status.{Status}
use Rattle.abi_types.specs.declared.status.Status.TheVariants.{Exit, Killed}
use Rattle.kernel_model.specs.Families.LockCalls.{word_reply}
use Rattle.kernel_model.specs.Families.Locks.{release_of, released_word, unlocked_own}
use Rattle.kernel_model.specs.Meaning.{Meaning, answering}
use Rattle.kernel_model.specs.Outcome.{Outcome, replies}
use Rattle.kernel_model.specs.OwnChanges.{ends_one, makes_one, next_thread, with_next_thread, without_thread}
use Rattle.kernel_model.specs.Reply.{refused, success}
use Rattle.kernel_model.specs.State.{ProcessState, Update, drop_own, set_process, set_status}

-- the end of a process: it has a status, and nothing of its own any more
abbrev pub end_updates : ℕ → Status → List Update
end_updates p status = set_status p status ∷ drop_own p ∷ []

-- the calling process ends; the reply reaches no thread
abbrev pub exit_of : ℕ → ℕ → Outcome
exit_of p code = record { answer = answer.Reply (success 0 0); updates = end_updates p (Exit code) }

abbrev pub proc_exit : ℕ → Meaning
proc_exit code = record (answering [] (success 0 0)) { effect = λ constants v who table. exit_of who.pid code }

-- ---- proc_raise

-- what a signal does to the process that raises it: it would stop it, which no process can be; it leaves it; or the process ends by it
pub data Raised : Type 0 where
  stops : Raised
  passes : Raised
  ends : Raised

abbrev pub raised_by : Signal → Raised
raised_by Stop = stops
raised_by Tstp = stops
raised_by Ttin = stops
raised_by Ttou = stops
raised_by Chld = passes
raised_by Cont = passes
raised_by Urg = passes
raised_by signal = ends

-- all signals, and the one with a number
abbrev pub signals : List Signal
signals =
    Abrt ∷ Alrm ∷ Bus ∷ Chld ∷ Cont ∷ Fpe ∷ Hup ∷ Ill ∷ Int ∷ Kill ∷ Pipe ∷ Quit ∷ Segv ∷ Stop ∷ Sys ∷ Term ∷ Trap ∷ Tstp ∷ Ttin ∷ Ttou ∷ Urg
    ∷ Usr1 ∷ Usr2 ∷ Vtalrm ∷ Xcpu ∷ Xfsz ∷ []

abbrev pub signal_of : ℕ → Option Signal
signal_of number = find (λ signal. number_of signal == number) signals

abbrev pub raise_as : Raised → ℕ → Signal → Outcome
raise_as stops p signal = replies (refused Notsup)
raise_as passes p signal = replies (success 0 0)
raise_as ends p signal = record { answer = answer.Reply (success 0 0); updates = end_updates p (Killed signal) }

abbrev pub raise_of : ℕ → Option Signal → Outcome
raise_of p None = replies (refused Inval)
raise_of p (Some signal) = raise_as (raised_by signal) p signal

-- The calling process gets the signal. A number that is no signal's, and a signal that would stop it, are refused by what the call's
-- registers show, and here again.
abbrev pub proc_raise : ℕ → Meaning
proc_raise number = record (answering (Inval ∷ Notsup ∷ []) (success 0 0)) {
  effect = λ constants v who table. raise_of who.pid (signal_of number);
}

-- ---- threads

-- whether there is a number for the process's next thread: none has it, as in each valid state, and it is less than 2^30 - 1, so that the
-- words of locks have room for it. No run comes so far that there is none.
abbrev pub has_next_number : ProcessState → Bool
has_next_number own = not (is_some (get own.threads (next_thread own))) && nat_lt (next_thread own) (2 ^ 30 - 1)

-- whether thread t of the process can make one more: it is one of its threads, fewer than 64 live, and there is a number
abbrev pub can_make_thread : ℕ → ProcessState → Bool
can_make_thread t own = is_some (get own.threads t) && (nat_lt (len own.threads) MOST_THREADS && has_next_number own)

-- the process has one thread more, whose number is the result
abbrev pub made_if : Bool → ℕ → ProcessState → Outcome
made_if true p own = record { answer = answer.Reply (success (next_thread own) 0); updates = set_process p (with_next_thread own) ∷ [] }
made_if false p own = replies (refused Again)

abbrev pub made_in : ℕ → ℕ → Option ProcessState → Outcome
made_in p t None = replies (refused Again)
made_in p t (Some own) = made_if (can_make_thread t own) p own

-- A new thread of the process, with its next number. Where it begins is a matter of its registers, which are no part of the kernel.
abbrev pub thread_create : Meaning
thread_create = record (answering (Again ∷ []) (success 0 0)) {
  effect = λ constants v who table. made_in who.pid who.tid (v.process who.pid);
  own = makes_one;
  takes_memory = true;
}

-- whether the process has no thread but this one
abbrev pub is_last_thread : ℕ → ProcessState → Bool
is_last_thread t own = len (remove own.threads t) == 0

-- what is left of the process as its thread ends: with its last one it exits with 0
abbrev pub left_if_last : Bool → ℕ → ℕ → ProcessState → List Update
left_if_last true p t own = end_updates p (Exit 0)
left_if_last false p t own = set_process p (without_thread t own) ∷ []

abbrev pub left_updates : ℕ → ℕ → Option ProcessState → List Update
left_updates p t None = end_updates p (Exit 0)
left_updates p t (Some own) = left_if_last (is_last_thread t own) p t own

-- the thread lets go of a lock, whose word becomes this and which leaves the process so, and ends; where it may not let go it goes on
abbrev pub left_with : ℕ → ℕ → Option ProcessState → ℕ → Option ℕ → Outcome
left_with p t own lock None = replies (refused Perm)
left_with p t own lock (Some word) = record { answer = answer.Reply (word_reply lock word); updates = left_updates p t own }

abbrev pub left_in : ℕ → ℕ → ℕ → ℕ → Option ProcessState → Outcome
left_in p t lock word None = replies (refused Perm)
left_in p t lock word (Some own) = left_with p t (Some (unlocked_own lock word t own)) lock (released_word (release_of t word) lock own.threads)

-- the end of the thread, and before it what lock_unlock does of this lock, whose word is this
abbrev pub thread_exit : ℕ → ℕ → Meaning
thread_exit lock word = record (answering (Perm ∷ []) (success 0 0)) {
  effect = λ constants v who table. left_in who.pid who.tid lock word (v.process who.pid);
  own = ends_one lock word;
}

abbrev pub thread_yield : Meaning
thread_yield = answering [] (success 0 0)
