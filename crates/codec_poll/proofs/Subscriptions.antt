-- What is read of a subscription's bytes is the definition's subscription.
use Rattle.std.proofs.Common.{◌≡◌, ℕ, List, None, Some, arith}
use Rattle.std.proofs.lemmas.Bool.Decides.{nat_tests}
use Rattle.abi_structures.specs.declared.events.Subscription.{Subscription}
use Rattle.abi_structures.specs.declared.events.EventType.TheVariants as types
use Rattle.abi_structures.specs.declared.events.What.{What}
use Rattle.abi_structures.specs.declared.events.What.TheVariants as what
use Rattle.abi_layout.specs.Layout.{number_from}
use Rattle.abi_layout.specs.Events.{HasNoType, IsSubscriptionIn}
use Rattle.codec_poll.specs.Poll.{subscription_of}

waits_for : (bytes : List ℕ) (userdata : ℕ) (waited : What) → IsSubscriptionIn bytes (record { userdata = userdata; what = waited })
    → Some (record { userdata = userdata; what = waited }) ≡ subscription_of bytes
waits_for bytes userdata (what.Clock clock timeout precision flags) h =
    let kind : number_from 8 1 bytes ≡ 1 = cc h.values in
    rw kind (cc h.values)
waits_for bytes userdata (what.Condvar condvar condvar_word lock lock_word condvar_scope lock_scope) h =
    let kind : number_from 8 1 bytes ≡ 2 = cc h.values in
    rw kind (cc (h.values, h.words.0, h.words.1))
waits_for bytes userdata (what.FdRead fd) h =
    let kind : number_from 8 1 bytes ≡ 3 = cc h.values in
    rw kind (cc h.values)
waits_for bytes userdata (what.FdWrite fd) h =
    let kind : number_from 8 1 bytes ≡ 4 = cc h.values in
    rw kind (cc h.values)
waits_for bytes userdata (what.LockRdlock lock word scope) h =
    let kind : number_from 8 1 bytes ≡ 5 = cc h.values in
    rw kind (cc (h.values, h.words))
waits_for bytes userdata (what.LockWrlock lock word scope) h =
    let kind : number_from 8 1 bytes ≡ 6 = cc h.values in
    rw kind (cc (h.values, h.words))
waits_for bytes userdata (what.ProcTerminate fd) h =
    let kind : number_from 8 1 bytes ≡ 7 = cc h.values in
    rw kind (cc h.values)

pub known_subscription : (bytes : List ℕ) (s : Subscription) → IsSubscriptionIn bytes s → Some s ≡ subscription_of bytes
known_subscription bytes s h = waits_for bytes s.userdata s.what h

pub no_subscription : (bytes : List ℕ) → HasNoType bytes → None ≡ subscription_of bytes
no_subscription bytes h =
    grind (arith, nat_tests, h types.Clock, h types.Condvar, h types.FdRead, h types.FdWrite, h types.LockRdlock, h types.LockWrlock, h types.ProcTerminate)
