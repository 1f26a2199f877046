-- The calls that name a lock or a condition variable. Such an address is a multiple of 4, and its word may be read and
-- written. Its scope is PRIVATE; SHARED isn't supported.
use Rattle.std.specs.Prelude.{ℕ, ◌%◌, Bool, not, ◌==◌, Result, Ok}
use Rattle.abi_base.specs.declared.errno.Errno.{Errno}
use Rattle.abi_base.specs.declared.errno.Errno.TheVariants.{Inval, Notsup}
use Rattle.abi_base.specs.Registers.{Registers}
use Rattle.abi_base.specs.declared.flags.TheConstants.{SCOPE_PRIVATE, SCOPE_SHARED}
use Rattle.abi_types.specs.declared.call.Call.{Call}
use Rattle.abi_types.specs.declared.call.Call.TheVariants.{CondvarSignal, LockUnlock, ThreadExit}
use Rattle.guest_memory.specs.Page.{Pages}
use Rattle.codec_arguments.specs.Arguments.{argument, low}
use Rattle.codec_arguments.specs.Bytes.{word_at}
use Rattle.codec_arguments.specs.Reading.{◌>>=◌, refuse_when}

-- an address that no lock and no condition variable has
abbrev pub is_misaligned : ℕ → Bool
is_misaligned a = not (a % 4 == 0)

-- the scope is one that is supported
abbrev pub scope_known : ℕ → Result (Unit {0}) Errno
scope_known scope =
    refuse_when (scope == SCOPE_SHARED) Notsup >>= λ _.
    refuse_when (not (scope == SCOPE_PRIVATE)) Inval

-- the word at an address of a scope
abbrev pub locked_at : Pages → ℕ → ℕ → Result ℕ Errno
locked_at m a scope =
    refuse_when (is_misaligned a) Inval >>= λ _.
    scope_known scope >>= λ _.
    word_at m a

-- condvar_signal: a condition variable, its scope, and how many are woken
abbrev pub condvar_signal_of : Pages → Registers → Result Call Errno
condvar_signal_of m r =
    locked_at m (argument r 0) (low (argument r 1)) >>= λ word.
    Ok (CondvarSignal (argument r 0) word (low (argument r 1)) (low (argument r 2)))

-- lock_unlock: a lock and its scope
abbrev pub lock_unlock_of : Pages → Registers → Result Call Errno
lock_unlock_of m r =
    locked_at m (argument r 0) (low (argument r 1)) >>= λ word.
    Ok (LockUnlock (argument r 0) word (low (argument r 1)))

-- thread_exit: a lock and its scope
abbrev pub thread_exit_of : Pages → Registers → Result Call Errno
thread_exit_of m r =
    locked_at m (argument r 0) (low (argument r 1)) >>= λ word.
    Ok (ThreadExit (argument r 0) word (low (argument r 1)))
