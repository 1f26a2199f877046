-- What a child goes on with, and what the calls about processes are that are encoded.
--     child_goes_on      a child's thread and its parent's
--     fork_turns, exec_bounds, raised_signal      the turns of a fork, what a program is given, and a signal
use Rattle.std.proofs.Common.{◌≡◌, ◌≢◌, Bool, ℕ, zero, suc, ◌+◌, ◌%◌, ◌^◌, ◌<◌, ◌≤◌, nat_le, nat_lt, ◌&&◌, not, true, false, List, [], ◌∷◌, length, get_or, set, Result, Ok, Err, refl, sym, ap, subst, ◌∙◌, arith}
use Rattle.std.proofs.lemmas.Bool.{leb-true, ltb-false}
use Rattle.std.proofs.lemmas.List.{get_or-set_same, get_or-set_other, length-set}
use Rattle.abi_base.specs.declared.errno.Errno.{Errno}
use Rattle.abi_base.specs.declared.errno.Errno.TheVariants.{Inval, Notsup, Success, TooBig}
use Rattle.abi_base.specs.declared.limits.TheConstants.{MOST_ARGDATA}
use Rattle.abi_base.specs.Registers.{Registers}
use Rattle.abi_types.specs.declared.call.Call.TheVariants.{ProcExec, ProcFork, ProcRaise}
use Rattle.abi_types.specs.declared.reply.Reply.{Reply}
use Rattle.guest_memory.specs.declared.access.Access.{Access}
use Rattle.guest_memory.specs.declared.access.Access.TheVariants.{Read}
use Rattle.guest_memory.specs.declared.fault.MemFault.{MemFault}
use Rattle.guest_memory.specs.Bytes.{byte_at, bytes_from, in_front}
use Rattle.guest_memory.specs.Page.{Pages}
use Rattle.codec_arguments.specs.Arguments.{argument, low}
use Rattle.codec_arguments.specs.Bytes.{bytes_in, descriptors_in, number_in}
use Rattle.codec_arguments.specs.Reading.{or_fault}
use Rattle.codec_calls.specs.ProcessCalls.{is_signal, is_stop, proc_exec_of, proc_raise_of}
use Rattle.codec_calls.specs.declared.process_calls.TheConstants.{MOST_ARGUMENT_DATA, MOST_EXEC_DESCRIPTORS}
use Rattle.call_codec.specs.Arguments.{read_of}
use Rattle.call_codec.specs.Processes.{ChildGoesOn, ExecIsBounded, ForkHasTurns, GoesOnAsChild, RaisedIsSignal, child_registers, no_descriptor}
use Rattle.call_codec.specs.Put.{put_of}
use Rattle.call_codec.proofs.Polls.{array_length}
use Rattle.call_codec.proofs.Puts.{call_suits}
use Rattle.call_codec.proofs.Readings.{not_refused, passed}

-- ---- a child

-- the registers after a fork that succeeded, in which a0, a1 and a2 have been written
abbrev written : List ℕ → ℕ → ℕ → List ℕ
written xs first second = set (set (set xs 10 0) 11 first) 12 second

apart : (a b : ℕ) → a < b → a ≡ b → ⊥
apart a b less same = omega (arith, less, same)

written_descriptor : (xs : List ℕ) (first second : ℕ) → length xs ≡ 32 → get_or (written xs first second) 11 0 ≡ first
written_descriptor xs first second size =
    let start : List ℕ = set xs 10 0 in
    get_or-set_other (set start 11 first) 12 11 second 0 (apart 11 12 (omega arith))
    ∙ get_or-set_same start 11 first 0 (let long = length-set xs 10 0 in omega (arith, long, size))

written_number : (xs : List ℕ) (first second : ℕ) → length xs ≡ 32 → get_or (written xs first second) 12 0 ≡ second
written_number xs first second size =
    let start : List ℕ = set xs 10 0 in
    get_or-set_same (set start 11 first) 12 second 0
    (let long = length-set xs 10 0 in let longer = length-set start 11 first in omega (arith, longer, long, size))

written_others : (xs : List ℕ) (first second other another n : ℕ) → n ≢ 11 → n ≢ 12
    → get_or (written xs first second) n 0 ≡ get_or (written xs other another) n 0
written_others xs first second other another n no_a1 no_a2 =
    let start : List ℕ = set xs 10 0 in
    get_or-set_other (set start 11 first) 12 n second 0 no_a2
    ∙ get_or-set_other start 11 n first 0 no_a1
    ∙ sym (get_or-set_other start 11 n other 0 no_a1)
    ∙ sym (get_or-set_other (set start 11 other) 12 n another 0 no_a2)

child_of : (r : Registers) (left t : ℕ) (reply : Reply) (errno : Errno) → length r.x ≡ 32 → errno ≡ Success
    → GoesOnAsChild t (child_registers r t) (put_of r (ProcFork left) (record reply { errno = errno }))
child_of r left t reply Success size done = record {
  place = refl;
  descriptor = written_descriptor r.x no_descriptor t size;
  number = written_number r.x no_descriptor t size;
  others = λ n no_a1 no_a2. written_others r.x no_descriptor t reply.r1 reply.r2 n no_a1 no_a2;
}
child_of r left t reply errno size done = absurd (cc)

pub child_goes_on : ChildGoesOn
child_goes_on r left t reply size done = child_of r left t reply reply.errno size done

-- ---- a fork

pub fork_turns : ForkHasTurns
unfolding read_of
fork_turns m r left turns encoded = let is = call_suits m r left (ProcFork turns) (sym encoded) in cc is

-- ---- a program

front_length : (b : Result ℕ MemFault) (rest : Result (List ℕ) MemFault) (n : ℕ) (all : List ℕ)
    → ((bytes : List ℕ) → rest ≡ Ok bytes → length bytes ≡ n) → in_front b rest ≡ Ok all → length all ≡ suc n
front_length (Ok b) (Ok bytes) n all h e = let same : b ∷ bytes ≡ all = cc e in sym (ap length same) ∙ ap suc (h bytes refl)
front_length (Ok b) (Err fault) n all h e = absurd (cc e)
front_length (Err fault) rest n all h e = absurd (cc e)

bytes_length : (access : Access) (m : Pages) (a n : ℕ) (bytes : List ℕ) → bytes_from access m a n ≡ Ok bytes → length bytes ≡ n
unfolding bytes_from
bytes_length access m a zero bytes e = let same : [] ≡ bytes = cc e in sym (ap length same)
bytes_length access m a (suc n) bytes e =
    front_length (byte_at access m a) (bytes_from access m ((a + 1) % 2 ^ 64) n) n bytes (bytes_length access m ((a + 1) % 2 ^ 64) n) e

read_length : (found : Result (List ℕ) MemFault) (n : ℕ) (bytes : List ℕ) → ((all : List ℕ) → found ≡ Ok all → length all ≡ n)
    → or_fault found ≡ Ok bytes → length bytes ≡ n
read_length (Ok all) n bytes h e = let same : all ≡ bytes = cc e in sym (ap length same) ∙ h all refl
read_length (Err fault) n bytes h e = absurd (cc e)

exec_bounded : (m : Pages) (r : Registers) (fd : ℕ) (argdata fds : List ℕ) → proc_exec_of m r ≡ Ok (ProcExec fd argdata fds)
    → (length argdata ≤ MOST_ARGDATA) × (length fds ≤ MOST_EXEC_DESCRIPTORS)
exec_bounded m r fd argdata fds is =
    let call = ProcExec fd argdata fds in
    let short = not_refused (nat_lt MOST_ARGUMENT_DATA (argument r 2)) TooBig _ call is in
    let few = not_refused (nat_lt MOST_EXEC_DESCRIPTORS (argument r 4)) Inval _ call short.1 in
    let bytes = passed (bytes_in m (argument r 1) (argument r 2)) _ call few.1 in
    let listed = passed (descriptors_in m (argument r 3) (argument r 4)) _ call bytes.2 in
    let same_bytes : bytes.0 ≡ argdata = cc listed.2 in
    let same_list : listed.0 ≡ fds = cc listed.2 in
    let size = read_length (bytes_from Read m (argument r 1) (argument r 2)) (argument r 2) bytes.0
    (bytes_length Read m (argument r 1) (argument r 2)) bytes.1 in
    let count = array_length (number_in m) 4 (argument r 3) (argument r 4) listed.0 listed.1 in
    let most_bytes = ltb-false MOST_ARGUMENT_DATA (argument r 2) short.0 in
    let most_fds = ltb-false MOST_EXEC_DESCRIPTORS (argument r 4) few.0 in (
      subst (λ (xs : List ℕ). length xs ≤ MOST_ARGDATA) same_bytes (omega (arith, size, most_bytes)),
      subst (λ (xs : List ℕ). length xs ≤ MOST_EXEC_DESCRIPTORS) same_list (omega (arith, count, most_fds)),
    )

pub exec_bounds : ExecIsBounded
unfolding read_of
exec_bounds m r left fd argdata fds encoded = exec_bounded m r fd argdata fds (call_suits m r left (ProcExec fd argdata fds) (sym encoded))

-- ---- a signal

both_hold : (a b : Bool) → not (a && b) ≡ false → (a ≡ true) × (b ≡ true)
both_hold true true e = (refl, refl)
both_hold true false e = absurd (cc e)
both_hold false b e = absurd (cc e)

raised : (m : Pages) (r : Registers) (signal : ℕ) → proc_raise_of r ≡ Ok (ProcRaise signal) → (1 ≤ signal) × (signal ≤ 26) × (is_stop signal ≡ false)
raised m r signal is =
    let call = ProcRaise signal in
    let given = low (argument r 0) in
    let known = not_refused (not (is_signal given)) Inval _ call is in
    let kept = not_refused (is_stop given) Notsup _ call known.1 in
    let same : given ≡ signal = cc kept.1 in
    let within = both_hold (nat_le 1 given) (nat_le given 26) known.0 in
    subst (λ n. (1 ≤ n) × (n ≤ 26) × (is_stop n ≡ false)) same (leb-true 1 given within.0, leb-true given 26 within.1, kept.0)

pub raised_signal : RaisedIsSignal
unfolding read_of
raised_signal m r left signal encoded = raised m r signal (call_suits m r left (ProcRaise signal) (sym encoded))
