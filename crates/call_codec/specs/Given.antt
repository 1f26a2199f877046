-- What a thread that waited in a call is given when it goes on. It is the check of its memory that was made as the call was read: the
-- word of the lock that it waits for may be read and written, and the places of its output, as its registers and its memory name them
-- now, may be written and have the room that the call asked for.
use Rattle.std.specs.Prelude.{ℕ, ◌*◌, min, nat_lt, List, [], ◌∷◌, length, Option, Some, None, Result, Ok, Err}
use Rattle.abi_base.specs.declared.errno.Errno.{Errno}
use Rattle.abi_base.specs.declared.errno.Errno.TheVariants.{Fault}
use Rattle.abi_base.specs.Registers.{Registers}
use Rattle.abi_structures.specs.declared.events.Subscription.{Subscription}
use Rattle.abi_structures.specs.declared.events.What.{What}
use Rattle.abi_structures.specs.declared.events.What.TheVariants as what
use Rattle.abi_types.specs.declared.call.Call.{Call}
use Rattle.abi_types.specs.declared.call.Call.TheVariants.{FdRead, FdWrite, Poll, SockRecv, SockSend}
use Rattle.abi_types.specs.declared.wake.WakeIn.{WakeIn}
use Rattle.abi_types.specs.declared.wake.WakeIn.TheVariants as wake
use Rattle.guest_memory.specs.Page.{Pages}
use Rattle.codec_arguments.specs.Arguments.{argument}
use Rattle.codec_arguments.specs.Bytes.{word_at, writable}
use Rattle.codec_arguments.specs.Ranges.{room_in}
use Rattle.codec_arguments.specs.Reading.{◌>>=◌, refuse_when}
use Rattle.codec_arguments.specs.Structures.{recv_in_at}
use Rattle.codec_calls.specs.declared.socket_calls.TheConstants.{MOST_SENT_DESCRIPTORS}
use Rattle.call_codec.specs.Output.{iovecs_in}

-- a thread may wait in the call
abbrev pub CanWait : Call → Type 0
CanWait (FdRead fd length) = Unit {0}
CanWait (FdWrite fd bytes) = Unit {0}
CanWait (Poll subscriptions) = Unit {0}
CanWait (SockRecv fd length fds flags) = Unit {0}
CanWait (SockSend fd bytes fds flags) = Unit {0}
CanWait other = ⊥

-- ---- the word

-- the address of the lock that is waited for, if there is one: for a condition variable that of the lock that is taken afterwards
abbrev pub lock_of : What → Option ℕ
lock_of (what.Condvar condvar condvar_word lock lock_word condvar_scope lock_scope) = Some lock
lock_of (what.LockRdlock lock word scope) = Some lock
lock_of (what.LockWrlock lock word scope) = Some lock
lock_of other = None

-- that of the first subscription, which alone may be of a lock or of a condition variable
abbrev pub first_lock : List Subscription → Option ℕ
first_lock [] = None
first_lock (first ∷ others) = lock_of first.what

abbrev pub lock_awaited : Call → Option ℕ
lock_awaited (Poll subscriptions) = first_lock subscriptions
lock_awaited other = None

-- the word of a lock, and 0 for none
abbrev pub word_or_zero : Pages → Option ℕ → Result ℕ Errno
word_or_zero m (Some lock) = word_at m lock
word_or_zero m None = Ok 0

-- ---- the places

-- there is room for as much as the call asked
abbrev pub has_room : ℕ → ℕ → Result (Unit {0}) Errno
has_room asked room = refuse_when (nat_lt room asked) Fault

-- The places of a message may be written, and have room for so many bytes and so many descriptors. The structure at the address in a1
-- has them: the ranges of an iovec array, and an address for descriptors, of which at most 16 come. How much it was goes to the address
-- in a2.
abbrev pub has_message : Pages → Registers → ℕ → ℕ → Result (Unit {0}) Errno
has_message m r asked fds =
    recv_in_at m (argument r 1) >>= λ places.
    room_in m places.iovs (iovecs_in places) >>= λ room.
    has_room asked room >>= λ _.
    writable m places.fds (4 * min places.fds_count MOST_SENT_DESCRIPTORS) >>= λ _.
    has_room fds places.fds_count >>= λ _.
    writable m (argument r 2) 24

-- The places of a call's output may be written, and have the room that it asked for: poll's are as many events, of 32 bytes each, as a2
-- says, from the address in a1 on, fd_read's are the ranges of the iovec array with its address in a1 and its count in a2, sock_recv's
-- are those of a message, and how much sock_send sent goes to the address in a2. No other call in which a thread may wait has places.
abbrev pub has_places : Pages → Registers → Call → Result (Unit {0}) Errno
has_places m r (FdRead fd asked) = room_in m (argument r 1) (argument r 2) >>= has_room asked
has_places m r (Poll subscriptions) =
    has_room (length subscriptions) (argument r 2) >>= λ _.
    writable m (argument r 1) (32 * argument r 2)
has_places m r (SockRecv fd asked fds flags) = has_message m r asked fds
has_places m r (SockSend fd bytes fds flags) = writable m (argument r 2) 8
has_places m r other = Ok tt

-- ---- what is given

-- the word of the lock that the call waits for, and 0 for none, where its output has its places
abbrev pub awaited_word : Pages → Registers → Call → Result ℕ Errno
awaited_word m r call = has_places m r call >>= λ _. word_or_zero m (lock_awaited call)

-- the word, or that some of this memory isn't accessible any more
abbrev pub given_from : Result ℕ Errno → WakeIn
given_from (Ok word) = wake.Plain word
given_from (Err errno) = wake.Fault

-- what a thread with these registers is given that waited in the call
abbrev pub given_of : Pages → Registers → Call → WakeIn
given_of m r call = given_from (awaited_word m r call)
