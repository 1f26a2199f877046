-- What registers and memory that encode random_get, lock_unlock, condvar_signal, thread_create and thread_exit are like.
--     random_written      as many bytes as random_get asks for are written
--     exit_word_written, unlock_word_written      the word of the lock that is let go is written
--     signal_word_written      that of the condition variable that is signalled is written
--     thread_starts      the registers of a thread that thread_create makes
use Rattle.std.proofs.Common.{◌≡◌, ℕ, zero, suc, ◌+◌, ◌%◌, ◌^◌, ◌≤◌, ◌==◌, not, nat_lt, true, false, T, List, replicate, get_or, set, Result, Ok, IsOk, inl, inr, refl, sym, ap, subst, ◌∙◌, arith}
use Rattle.std.proofs.lemmas.Bool.{leb-false, ltb-false}
use Rattle.std.proofs.lemmas.Bool.Decides.{eqb_tells}
use Rattle.std.proofs.lemmas.List.{get_or-set_other}
use Rattle.abi_base.specs.declared.errno.Errno.{Errno}
use Rattle.abi_base.specs.declared.errno.Errno.TheVariants.{Inval}
use Rattle.abi_base.specs.Registers.{Registers}
use Rattle.abi_structures.specs.declared.structures.ThreadAttr.{ThreadAttr}
use Rattle.abi_types.specs.declared.call.Call.{Call}
use Rattle.abi_types.specs.declared.call.Call.TheVariants.{CondvarSignal, LockUnlock, RandomGet, ThreadCreate, ThreadExit}
use Rattle.guest_memory.specs.declared.access.Access.TheVariants.{Write}
use Rattle.guest_memory.specs.Bytes.{bytes_from}
use Rattle.guest_memory.specs.Page.{Pages}
use Rattle.codec_arguments.specs.Arguments.{argument, low}
use Rattle.codec_arguments.specs.Bytes.{writable}
use Rattle.codec_arguments.specs.Reading.{◌>>=◌}
use Rattle.codec_arguments.specs.Structures.{threadattr_at}
use Rattle.codec_calls.specs.LockCalls.{condvar_signal_of, is_misaligned, lock_unlock_of, locked_at, scope_known, thread_exit_of}
use Rattle.codec_calls.specs.ProcessCalls.{random_get_of}
use Rattle.codec_calls.specs.ThreadCalls.{entry_misaligned, stack_passes}
use Rattle.codec_calls.specs.declared.process_calls.TheConstants.{MOST_RANDOM}
use Rattle.call_codec.specs.Arguments.{read_of}
use Rattle.call_codec.specs.OutputLaws.{ExitWordIsWritten, RandomIsWritten, SignalWordIsWritten, UnlockWordIsWritten}
use Rattle.call_codec.specs.Start.{thread_registers}
use Rattle.call_codec.specs.ThreadLaws.{IsNewThread, ThreadStarts}
use Rattle.call_codec.proofs.Outputs.{had_ok, write_made}
use Rattle.call_codec.proofs.Puts.{call_suits}
use Rattle.call_codec.proofs.Readings.{not_refused, passed}
use Rattle.call_codec.proofs.WokenOutputs.{word_room, word_written}

-- ---- random_get

random_room : (m : Pages) (r : Registers) (size : ℕ) → random_get_of m r ≡ Ok (RandomGet size)
    → (size ≤ MOST_RANDOM) × IsOk (bytes_from Write m (argument r 0) size)
random_room m r size is =
    let few = not_refused (nat_lt MOST_RANDOM (argument r 1)) Inval _ (RandomGet size) is in
    let has = passed (writable m (argument r 0) (argument r 1)) _ (RandomGet size) few.1 in
    let same : argument r 1 ≡ size = cc has.2 in (
      subst (λ (n : ℕ). n ≤ MOST_RANDOM) same (ltb-false MOST_RANDOM (argument r 1) few.0),
      subst (λ (n : ℕ). IsOk (bytes_from Write m (argument r 0) n)) same (had_ok (bytes_from Write m (argument r 0) (argument r 1)) has.0 has.1),
    )

pub random_written : RandomIsWritten
unfolding read_of
random_written m r left size encoded =
    let room = random_room m r size (call_suits m r left (RandomGet size) (sym encoded)) in
    (room.0, λ bytes less. write_made m (argument r 0) size bytes less room.1)

-- ---- locks and condition variables

-- the word at an address that was read is written
at_room : (m : Pages) (r : Registers) (a : ℕ) (call : Call) (rest : ℕ → Result Call Errno)
    → ((word : ℕ) → rest word ≡ Ok call → argument r 0 ≡ a) → (locked_at m (argument r 0) (low (argument r 1)) >>= rest) ≡ Ok call
    → IsOk (bytes_from Write m a 4)
at_room m r a call rest same is =
    let read = passed (locked_at m (argument r 0) (low (argument r 1))) rest call is in
    let aligned = not_refused (is_misaligned (argument r 0)) Inval _ read.0 read.1 in
    let known = passed (scope_known (low (argument r 1))) _ read.0 aligned.1 in
    subst (λ (at : ℕ). IsOk (bytes_from Write m at 4)) (same read.0 read.2) (word_room m (argument r 0) read.0 known.2)

exit_room : (m : Pages) (r : Registers) (lock word scope : ℕ) → thread_exit_of m r ≡ Ok (ThreadExit lock word scope)
    → IsOk (bytes_from Write m lock 4)
exit_room m r lock word scope is = at_room m r lock (ThreadExit lock word scope) _ (λ found e. let same : argument r 0 ≡ lock = cc e in same) is

unlock_room : (m : Pages) (r : Registers) (lock word scope : ℕ) → lock_unlock_of m r ≡ Ok (LockUnlock lock word scope)
    → IsOk (bytes_from Write m lock 4)
unlock_room m r lock word scope is = at_room m r lock (LockUnlock lock word scope) _ (λ found e. let same : argument r 0 ≡ lock = cc e in same) is

signal_room : (m : Pages) (r : Registers) (condvar word scope n : ℕ) → condvar_signal_of m r ≡ Ok (CondvarSignal condvar word scope n)
    → IsOk (bytes_from Write m condvar 4)
signal_room m r condvar word scope n is =
    at_room m r condvar (CondvarSignal condvar word scope n) _ (λ found e. let same : argument r 0 ≡ condvar = cc e in same) is

pub exit_word_written : ExitWordIsWritten
unfolding read_of
exit_word_written m r left lock word scope becomes encoded =
    word_written m lock becomes (exit_room m r lock word scope (call_suits m r left (ThreadExit lock word scope) (sym encoded)))

pub unlock_word_written : UnlockWordIsWritten
unfolding read_of
unlock_word_written m r left lock word scope becomes encoded =
    word_written m lock becomes (unlock_room m r lock word scope (call_suits m r left (LockUnlock lock word scope) (sym encoded)))

pub signal_word_written : SignalWordIsWritten
unfolding read_of
signal_word_written m r left condvar word scope n becomes encoded =
    word_written m condvar becomes (signal_room m r condvar word scope n (call_suits m r left (CondvarSignal condvar word scope n) (sym encoded)))

-- ---- thread_create

none_over : (n : ℕ) → not (n == 0) ≡ false → n ≡ 0
none_over n h =
    elim (eqb_tells n 0) [
      | inl same ↦ same.1
      | inr other ↦ let both : true ≡ false = sym (ap not other.0) ∙ h in absurd (subst T both tt)
    ]

zeros : (count n : ℕ) → get_or (replicate {A = ℕ} count 0) n 0 ≡ 0
zeros zero n = refl
zeros (suc count) zero = refl
zeros (suc count) (suc n) = zeros count n

new_thread : (attributes : ThreadAttr) (tid : ℕ) → stack_passes attributes ≡ false → entry_misaligned attributes ≡ false
    → IsNewThread attributes tid (thread_registers attributes tid)
new_thread attributes tid fits aligned =
    let below = leb-false (2 ^ 64) (attributes.stack + attributes.stacklen) fits in
    let sp : ℕ = (attributes.stack + attributes.stacklen) % 2 ^ 64 in
    let first : List ℕ = set (replicate 32 0) 2 sp in
    record {
      entry = refl;
      aligned = none_over (attributes.entry % 4) aligned;
      stack = let same : sp ≡ attributes.stack + attributes.stacklen = omega (arith, below) in same;
      number = refl;
      argument = refl;
      others = λ n no_sp no_a0 no_a1.
          get_or-set_other (set first 10 tid) 11 n attributes.argument 0 no_a1
          ∙ get_or-set_other first 10 n tid 0 no_a0
          ∙ get_or-set_other (replicate 32 0) 2 n sp 0 no_sp
          ∙ zeros 32 n;
    }

pub thread_starts : ThreadStarts
unfolding read_of
thread_starts m r left attributes tid encoded =
    let is = call_suits m r left (ThreadCreate attributes) (sym encoded) in
    let read = passed (threadattr_at m (argument r 0)) _ (ThreadCreate attributes) is in
    let fits = not_refused (stack_passes read.0) Inval _ (ThreadCreate attributes) read.2 in
    let aligned = not_refused (entry_misaligned read.0) Inval _ (ThreadCreate attributes) fits.1 in
    let same : read.0 ≡ attributes = cc aligned.1 in
    new_thread attributes tid (subst (λ (a : ThreadAttr). stack_passes a ≡ false) same fits.0)
    (subst (λ (a : ThreadAttr). entry_misaligned a ≡ false) same aligned.0)
