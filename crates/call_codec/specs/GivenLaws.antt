-- What holds of the answer to a call in which a thread waited, whose memory may have changed since its registers encoded the call.
use Rattle.std.specs.Prelude.{◌≡◌, ℕ, List, [], ◌∷◌, length, Some, IsOk}
use Rattle.std.specs.Int.{w32, to_le_bytes}
use Rattle.abi_base.specs.Registers.{Registers}
use Rattle.abi_structures.specs.declared.events.Subscription.{Subscription}
use Rattle.abi_structures.specs.declared.events.What.{What}
use Rattle.abi_structures.specs.declared.events.What.TheVariants as what
use Rattle.abi_types.specs.declared.call.Call.{Call}
use Rattle.abi_types.specs.declared.call.Call.TheVariants.{FdRead, Poll, SockRecv, SockSend}
use Rattle.abi_types.specs.declared.wake.WakeIn.TheVariants.{Plain}
use Rattle.guest_memory.specs.Page.{Pages}
use Rattle.guest_memory.specs.Written.{write_of}
use Rattle.codec_arguments.specs.Arguments.{argument}
use Rattle.call_codec.specs.Arguments.{args_of, encoded_call}
use Rattle.call_codec.specs.Given.{given_of, lock_awaited}
use Rattle.call_codec.specs.OutputLaws.{TakesBytes, TakesEvents, TakesMessage, TakesSent}
use Rattle.call_codec.specs.Put.{HasFewRanges}

-- the word of the lock that is waited for, as it was when the call was read, and 0 where there is none
abbrev pub word_of : What → ℕ
word_of (what.Condvar condvar condvar_word lock lock_word condvar_scope lock_scope) = lock_word
word_of (what.LockRdlock lock word scope) = word
word_of (what.LockWrlock lock word scope) = word
word_of other = 0

abbrev pub first_word : List Subscription → ℕ
first_word [] = 0
first_word (first ∷ others) = word_of first.what

abbrev pub word_in : Call → ℕ
word_in (Poll subscriptions) = first_word subscriptions
word_in other = 0

-- A thread whose registers and memory encode the call as they did is given the word that the call has: what a wake looks at is what was
-- looked at as the call was read.
abbrev pub GivenAtCall : Type 0
GivenAtCall = (m : Pages) (r : Registers) (left : ℕ) (call : Call) → call ≡ encoded_call m r left → given_of m r call ≡ Plain (word_in call)

-- Where a wake of fd_read is given a word, as many bytes as it asked for at most are written.
abbrev pub WokenReadIsWritten : Type 0
WokenReadIsWritten = (m : Pages) (r : Registers) (fd most word : ℕ) → given_of m r (FdRead fd most) ≡ Plain word → TakesBytes m r most

-- Where a wake of poll is given a word, as many events as it has subscriptions are written.
abbrev pub WokenEventsAreWritten : Type 0
WokenEventsAreWritten =
    (m : Pages) (r : Registers) (subscriptions : List Subscription) (word : ℕ) → given_of m r (Poll subscriptions) ≡ Plain word
    → TakesEvents m (argument r 1) (length subscriptions)

-- Where a wake of sock_recv is given a word, a message of up to as many bytes and descriptors as it asked for is written.
abbrev pub WokenMessageIsWritten : Type 0
WokenMessageIsWritten =
    (m : Pages) (r : Registers) (fd most fds flags word : ℕ) → given_of m r (SockRecv fd most fds flags) ≡ Plain word → TakesMessage m r most fds

-- Where a wake of sock_send is given a word, how many bytes it sent is written.
abbrev pub WokenSentIsWritten : Type 0
WokenSentIsWritten =
    (m : Pages) (r : Registers) (fd : ℕ) (bytes fds : List ℕ) (flags word : ℕ) → given_of m r (SockSend fd bytes fds flags) ≡ Plain word
    → TakesSent m r

-- Where a wake of a call that waits for a lock is given a word, the lock's word is written, whatever it becomes.
abbrev pub WokenWordIsWritten : Type 0
WokenWordIsWritten =
    (m : Pages) (r : Registers) (call : Call) (lock word becomes : ℕ) → lock_awaited call ≡ Some lock → given_of m r call ≡ Plain word
    → IsOk (write_of m lock (to_le_bytes w32 becomes))

-- ---- calls of a program that runs

-- registers that encoded a call with some memory name few ranges
abbrev pub EncodedHasFewRanges : Type 0
EncodedHasFewRanges = (m : Pages) (r : Registers) (left : ℕ) (call : Call) → call ≡ args_of m r left → HasFewRanges r call
