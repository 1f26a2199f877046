-- A poll that is read is a poll, or it is refused with an error that is listed.
--     poll_gives      so the reading of a poll gives one
use Rattle.std.proofs.Common.{ℕ, List, [], ◌∷◌, Option, Some, None, Ok}
use Rattle.abi_base.specs.declared.errno.Errno.TheVariants.{Inval}
use Rattle.abi_base.specs.Registers.{Registers}
use Rattle.abi_structures.specs.declared.events.Subscription.{Subscription}
use Rattle.abi_structures.specs.declared.events.What.{What}
use Rattle.abi_structures.specs.declared.events.What.TheVariants as what
use Rattle.abi_types.specs.declared.call.Call.{Call}
use Rattle.abi_types.specs.declared.call.Call.TheVariants.{Poll}
use Rattle.codec_arguments.specs.Bytes.{bytes_in}
use Rattle.codec_poll.specs.Poll.{all_found, all_known, allowed, found_at, known, poll_of, scopes_in, scopes_known, subscription_of, with_words, worded}
use Rattle.guest_memory.specs.Page.{Pages}
use Rattle.call_codec.proofs.Readings.{array_refused, front_refused, gives_after, gives_either, gives_error, gives_memory, gives_value, readings, Gives, IsRefusedAsListed}

-- ---- subscriptions

worded_refused : (m : Pages) (waits : What) → IsRefusedAsListed (worded m waits)
worded_refused m (what.Condvar condvar condvar_word lock lock_word condvar_scope lock_scope) = search readings depth 12
worded_refused m (what.LockRdlock lock word scope) = search readings depth 12
worded_refused m (what.LockWrlock lock word scope) = search readings depth 12
worded_refused m _ = search readings depth 12

words_refused : (m : Pages) (s : Option Subscription) → IsRefusedAsListed (with_words m s)
words_refused m None = gives_value (λ (found : Option Subscription). Unit {0}) None tt
words_refused m (Some s) =
    gives_after (λ (found : Option Subscription). Unit {0}) (worded m s.what) (λ waited. Ok (Some (record { userdata = s.userdata; what = waited })))
    (worded_refused m s.what)
    (λ waited. gives_value (λ (found : Option Subscription). Unit {0}) (Some (record { userdata = s.userdata; what = waited })) tt)

found_refused : (m : Pages) (a : ℕ) → IsRefusedAsListed (found_at m a)
found_refused m a =
    gives_after (λ (found : Option Subscription). Unit {0}) (bytes_in m a 56) (λ bytes. with_words m (subscription_of bytes)) (search readings depth 4)
    (λ bytes. words_refused m (subscription_of bytes))

known_refused : (s : Option Subscription) → IsRefusedAsListed (known s)
known_refused None = gives_error (λ (s : Subscription). Unit {0}) Inval tt
known_refused (Some s) = gives_value (λ (s : Subscription). Unit {0}) s tt

all_known_refused : (found : List (Option Subscription)) → IsRefusedAsListed (all_known found)
all_known_refused [] = gives_value (λ (all : List Subscription). Unit {0}) [] tt
all_known_refused (s ∷ others) = front_refused (known s) (all_known others) (known_refused s) (all_known_refused others)

scopes_refused : (waits : What) → IsRefusedAsListed (scopes_in waits)
scopes_refused (what.Condvar condvar condvar_word lock lock_word condvar_scope lock_scope) = search readings depth 12
scopes_refused (what.LockRdlock lock word scope) = search readings depth 12
scopes_refused (what.LockWrlock lock word scope) = search readings depth 12
scopes_refused _ = search readings depth 12

first_scopes_refused : (subscriptions : List Subscription) → IsRefusedAsListed (scopes_known subscriptions)
first_scopes_refused [] = gives_value (λ (done : Unit {0}). Unit {0}) tt tt
first_scopes_refused (first ∷ others) = scopes_refused first.what

ruleset parts = (gives_value, gives_error, gives_either, gives_memory, gives_after, first_scopes_refused)

allowed_refused : (subscriptions : List Subscription) → IsRefusedAsListed (allowed subscriptions)
allowed_refused subscriptions = search parts depth 16

-- ---- polls

ruleset steps = (gives_value, gives_error, gives_either, gives_memory, gives_after, all_known_refused, allowed_refused)

poll_read : (P : Call → Type 0) → ((subscriptions : List Subscription) → P (Poll subscriptions)) → (m : Pages) (r : Registers)
    → ((a n : ℕ) → IsRefusedAsListed (all_found m a n)) → Gives P (poll_of m r)
poll_read P polls m r found = search (steps, polls, found) depth 16

pub poll_gives : (P : Call → Type 0) → ((subscriptions : List Subscription) → P (Poll subscriptions)) → (m : Pages) (r : Registers) → Gives P (poll_of m r)
poll_gives P polls m r = poll_read P polls m r (λ a n. array_refused (found_at m) 56 a n (found_refused m))
