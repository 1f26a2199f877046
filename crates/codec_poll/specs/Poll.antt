-- The poll that registers and memory encode.
use Rattle.std.specs.Prelude.{ℕ, ◌*◌, Bool, true, false, not, ◌==◌, ◌||◌, ◌&&◌, nat_le, List, [], ◌∷◌, Option, Some, None, Result, Ok, Err, if◌then◌else◌}
use Rattle.std.specs.List.{list_any}
use Rattle.abi_base.specs.declared.errno.Errno.{Errno}
use Rattle.abi_base.specs.declared.errno.Errno.TheVariants.{Inval, Notsup}
use Rattle.abi_base.specs.declared.flags.TheConstants.{SUBSCRIPTION_CLOCK_ABSTIME}
use Rattle.abi_base.specs.Registers.{Registers}
use Rattle.abi_layout.specs.Layout.{number_from}
use Rattle.abi_structures.specs.declared.events.Subscription.{Subscription}
use Rattle.abi_structures.specs.declared.events.What.{What}
use Rattle.abi_structures.specs.declared.events.What.TheVariants as what
use Rattle.abi_types.specs.declared.call.Call.{Call}
use Rattle.abi_types.specs.declared.call.Call.TheVariants.{Poll}
use Rattle.guest_memory.specs.Page.{Pages}
use Rattle.codec_arguments.specs.Arguments.{argument}
use Rattle.codec_arguments.specs.Arrays.{array_at, in_front}
use Rattle.codec_arguments.specs.Bytes.{bytes_in, word_at, writable}
use Rattle.codec_arguments.specs.Reading.{◌>>=◌, refuse_when}
use Rattle.codec_calls.specs.ClockCalls.{is_cpu_clock, is_time_clock}
use Rattle.codec_calls.specs.Flags.{has_unknown}
use Rattle.codec_calls.specs.LockCalls.{is_misaligned, scope_known}
use Rattle.codec_poll.specs.declared.polling.TheConstants.{MOST_SUBSCRIPTIONS}

-- ---- its subscriptions, as they stand in memory

-- what a subscription of a type waits for, by its bytes; the words of locks and condition variables are 0. CLOCK is 1,
-- CONDVAR 2, FD_READ 3, FD_WRITE 4, LOCK_RDLOCK 5, LOCK_WRLOCK 6, PROC_TERMINATE 7, and there is no other type
abbrev pub what_of : ℕ → List ℕ → Option What
what_of kind bytes =
    if kind == 1 then Some (what.Clock (number_from 24 4 bytes) (number_from 32 8 bytes) (number_from 40 8 bytes) (number_from 48 2 bytes))
    else if kind == 2 then Some (what.Condvar (number_from 16 8 bytes) 0 (number_from 24 8 bytes) 0 (number_from 32 1 bytes) (number_from 33 1 bytes))
    else if kind == 3 then Some (what.FdRead (number_from 16 4 bytes))
    else if kind == 4 then Some (what.FdWrite (number_from 16 4 bytes))
    else if kind == 5 then Some (what.LockRdlock (number_from 16 8 bytes) 0 (number_from 24 1 bytes))
    else if kind == 6 then Some (what.LockWrlock (number_from 16 8 bytes) 0 (number_from 24 1 bytes))
    else if kind == 7 then Some (what.ProcTerminate (number_from 16 4 bytes))
    else None

-- the subscription of a number that its event gives back
abbrev pub subscribed : ℕ → Option What → Option Subscription
subscribed userdata None = None
subscribed userdata (Some waited) = Some (record { userdata = userdata; what = waited })

-- the subscription in 56 bytes, if its type is known
abbrev pub subscription_of : List ℕ → Option Subscription
subscription_of bytes = subscribed (number_from 0 8 bytes) (what_of (number_from 8 1 bytes) bytes)

-- what is waited for, with the words that stand at its addresses
abbrev pub worded : Pages → What → Result What Errno
worded m (what.Condvar condvar condvar_word lock lock_word condvar_scope lock_scope) =
    word_at m condvar >>= λ found.
    word_at m lock >>= λ locked.
    Ok (what.Condvar condvar found lock locked condvar_scope lock_scope)
worded m (what.LockRdlock lock word scope) = word_at m lock >>= λ found. Ok (what.LockRdlock lock found scope)
worded m (what.LockWrlock lock word scope) = word_at m lock >>= λ found. Ok (what.LockWrlock lock found scope)
worded m other = Ok other

-- a subscription with the words that stand at its addresses; one of no known type has none
abbrev pub with_words : Pages → Option Subscription → Result (Option Subscription) Errno
with_words m None = Ok None
with_words m (Some s) = worded m s.what >>= λ waited. Ok (Some (record { userdata = s.userdata; what = waited }))

-- the subscription at an address
abbrev pub found_at : Pages → ℕ → Result (Option Subscription) Errno
found_at m a = bytes_in m a 56 >>= λ bytes. with_words m (subscription_of bytes)

-- n subscriptions from an address on
abbrev pub all_found : Pages → ℕ → ℕ → Result (List (Option Subscription)) Errno
all_found m a n = array_at (found_at m) 56 a n

-- ---- what they must be like

-- a subscription, if its type is known
abbrev pub known : Option Subscription → Result Subscription Errno
known None = Err Inval
known (Some s) = Ok s

-- the subscriptions, if the types of all are known
abbrev pub all_known : List (Option Subscription) → Result (List Subscription) Errno
all_known [] = Ok []
all_known (s ∷ others) = in_front (known s) (all_known others)

-- a CLOCK of a clock or with a flag that there isn't
abbrev pub unknown_clock_in : What → Bool
unknown_clock_in (what.Clock clock timeout precision flags) = not (is_cpu_clock clock || is_time_clock clock) || has_unknown flags SUBSCRIPTION_CLOCK_ABSTIME
unknown_clock_in other = false

abbrev pub has_unknown_clock : Subscription → Bool
has_unknown_clock s = unknown_clock_in s.what

-- a CLOCK of a processor's time
abbrev pub cpu_clock_in : What → Bool
cpu_clock_in (what.Clock clock timeout precision flags) = is_cpu_clock clock
cpu_clock_in other = false

abbrev pub has_cpu_clock : Subscription → Bool
has_cpu_clock s = cpu_clock_in s.what

-- a LOCK or a CONDVAR
abbrev pub lock_in : What → Bool
lock_in (what.Condvar condvar condvar_word lock lock_word condvar_scope lock_scope) = true
lock_in (what.LockRdlock lock word scope) = true
lock_in (what.LockWrlock lock word scope) = true
lock_in other = false

abbrev pub has_lock : Subscription → Bool
has_lock s = lock_in s.what

-- a CLOCK with ABSTIME, the one flag that there is
abbrev pub deadline_in : What → Bool
deadline_in (what.Clock clock timeout precision flags) = flags == SUBSCRIPTION_CLOCK_ABSTIME
deadline_in other = false

abbrev pub is_deadline : Subscription → Bool
is_deadline s = deadline_in s.what

-- one subscription, or two of which the second is a CLOCK with ABSTIME
abbrev pub stand_for_lock : List Subscription → Bool
stand_for_lock [] = true
stand_for_lock (first ∷ []) = true
stand_for_lock (first ∷ second ∷ []) = is_deadline second
stand_for_lock (first ∷ second ∷ third ∷ others) = false

-- a LOCK or a CONDVAR stands alone, or first of two of which the second is a CLOCK with ABSTIME
abbrev pub are_placed : List Subscription → Bool
are_placed subscriptions = not (list_any has_lock subscriptions) || stand_for_lock subscriptions

-- an address of a lock or a condition variable that isn't a multiple of 4, or one address for both
abbrev pub bad_address_in : What → Bool
bad_address_in (what.Condvar condvar condvar_word lock lock_word condvar_scope lock_scope) =
    is_misaligned condvar || is_misaligned lock || condvar == lock
bad_address_in (what.LockRdlock lock word scope) = is_misaligned lock
bad_address_in (what.LockWrlock lock word scope) = is_misaligned lock
bad_address_in other = false

abbrev pub has_bad_address : Subscription → Bool
has_bad_address s = bad_address_in s.what

-- the scopes are supported, a condition variable's before its lock's
abbrev pub scopes_in : What → Result (Unit {0}) Errno
scopes_in (what.Condvar condvar condvar_word lock lock_word condvar_scope lock_scope) =
    scope_known condvar_scope >>= λ _. scope_known lock_scope
scopes_in (what.LockRdlock lock word scope) = scope_known scope
scopes_in (what.LockWrlock lock word scope) = scope_known scope
scopes_in other = Ok tt

-- those of the first subscription, which alone may be a LOCK or a CONDVAR
abbrev pub scopes_known : List Subscription → Result (Unit {0}) Errno
scopes_known [] = Ok tt
scopes_known (first ∷ others) = scopes_in first.what

-- subscriptions of known types are as they must be
abbrev pub allowed : List Subscription → Result (Unit {0}) Errno
allowed subscriptions =
    refuse_when (list_any has_unknown_clock subscriptions) Inval >>= λ _.
    refuse_when (list_any has_cpu_clock subscriptions) Notsup >>= λ _.
    refuse_when (not (are_placed subscriptions)) Inval >>= λ _.
    refuse_when (list_any has_bad_address subscriptions) Inval >>= λ _.
    scopes_known subscriptions

-- ---- the poll

-- poll: the address of subscriptions, the address for events, and how many there are of each, from 1 to 256. An event has 32
-- bytes
abbrev pub poll_of : Pages → Registers → Result Call Errno
poll_of m r =
    refuse_when (not (nat_le 1 (argument r 2) && nat_le (argument r 2) MOST_SUBSCRIPTIONS)) Inval >>= λ _.
    all_found m (argument r 0) (argument r 2) >>= λ found.
    writable m (argument r 1) (32 * argument r 2) >>= λ _.
    all_known found >>= λ subscriptions.
    allowed subscriptions >>= λ _.
    Ok (Poll subscriptions)
