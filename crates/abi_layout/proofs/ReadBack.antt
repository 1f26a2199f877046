-- An event or a subscription that is read of the bytes of one is that one.
use Rattle.std.proofs.Common.{◌≡◌, ◌==◌, ℕ, Bool, true, false, List, [], ◌∷◌, if◌then◌else◌, refl, sym, ap, ◌∙◌, arith}
use Rattle.abi_structures.specs.declared.events.Event.{Event}
use Rattle.abi_structures.specs.declared.events.EventType.{EventType}
use Rattle.abi_structures.specs.declared.events.EventType.TheVariants as types
use Rattle.abi_structures.specs.declared.events.Subscription.{Subscription}
use Rattle.abi_structures.specs.declared.events.What.{What}
use Rattle.abi_structures.specs.declared.events.What.TheVariants as what
use Rattle.abi_structures.specs.Events.{number_of, type_of}
use Rattle.abi_layout.specs.Layout.{number_from, numbers}
use Rattle.abi_layout.specs.Events.{WordsAreZero, is_transfer, is_end, outcome_fields, outcome_values}
use Rattle.abi_layout.specs.Events.{what_fields, what_values}
use Rattle.abi_layout.specs.Laws.{EventIsReadBack, SubscriptionIsReadBack}

-- ---- subscriptions

type_numbered : ℕ → EventType
type_numbered n =
    if n == 1 then types.Clock
    else (if n == 2 then types.Condvar
    else (if n == 3 then types.FdRead
    else (if n == 4 then types.FdWrite
    else (if n == 5 then types.LockRdlock
    else (if n == 6 then types.LockWrlock
    else types.ProcTerminate)))))

type_of_number : (t : EventType) → type_numbered (number_of t) ≡ t
unfolding type_numbered
type_of_number types.Clock = refl
type_of_number types.Condvar = refl
type_of_number types.FdRead = refl
type_of_number types.FdWrite = refl
type_of_number types.LockRdlock = refl
type_of_number types.LockWrlock = refl
type_of_number types.ProcTerminate = refl

-- what a subscription of a type waits for, by its bytes
what_in : EventType → List ℕ → What
what_in types.Clock bytes =
    what.Clock (number_from 24 4 bytes) (number_from 32 8 bytes) (number_from 40 8 bytes) (number_from 48 2 bytes)
what_in types.Condvar bytes =
    what.Condvar (number_from 16 8 bytes) 0 (number_from 24 8 bytes) 0
    (number_from 32 1 bytes) (number_from 33 1 bytes)
what_in types.FdRead bytes = what.FdRead (number_from 16 4 bytes)
what_in types.FdWrite bytes = what.FdWrite (number_from 16 4 bytes)
what_in types.LockRdlock bytes = what.LockRdlock (number_from 16 8 bytes) 0 (number_from 24 1 bytes)
what_in types.LockWrlock bytes = what.LockWrlock (number_from 16 8 bytes) 0 (number_from 24 1 bytes)
what_in types.ProcTerminate bytes = what.ProcTerminate (number_from 16 4 bytes)

what_is : (w : What) (bytes : List ℕ) → WordsAreZero w → what_values w ≡ numbers (what_fields w) bytes
    → w ≡ what_in (type_of w) bytes
unfolding what_in
what_is (what.Clock clock timeout precision flags) bytes words e = cc
what_is (what.Condvar condvar condvar_word lock lock_word condvar_scope lock_scope) bytes words e = cc
what_is (what.FdRead fd) bytes words e = cc
what_is (what.FdWrite fd) bytes words e = cc
what_is (what.LockRdlock lock word scope) bytes words e = cc
what_is (what.LockWrlock lock word scope) bytes words e = cc
what_is (what.ProcTerminate fd) bytes words e = cc

subscription_from : (first second : Subscription) → first.userdata ≡ second.userdata → first.what ≡ second.what
    → first ≡ second
subscription_from first second userdata what = λ i. record { userdata = userdata i; what = what i }

pub subscription_is_read_back : SubscriptionIsReadBack
subscription_is_read_back value bytes words laid =
    let there : number_from 8 1 bytes ≡ number_of (type_of value.what) = cc (laid.values_at) in
    let rest : what_values value.what ≡ numbers (what_fields value.what) bytes = cc (laid.values_at) in (
      λ none. none (type_of value.what) (sym there),
      λ read is.
          let kind : number_of (type_of read.what) ≡ number_of (type_of value.what) = cc (is.values) in
          let same : type_of read.what ≡ type_of value.what =
          sym (type_of_number (type_of read.what)) ∙ ap type_numbered kind ∙ type_of_number (type_of value.what) in
          let read_rest : what_values read.what ≡ numbers (what_fields read.what) bytes = cc (is.values) in
          subscription_from read value (cc (is.values, laid.values_at))
          (what_is read.what bytes is.words read_rest ∙ ap (λ (t : EventType). what_in t bytes) same
          ∙ sym (what_is value.what bytes words rest)),
    )

-- ---- events

abbrev pub OutcomesAreSame : Event → Event → Type 0
OutcomesAreSame a b = (a.nbytes ≡ b.nbytes) × (a.flags ≡ b.flags) × (a.signal ≡ b.signal) × (a.code ≡ b.code)

-- the fields of two outcomes are the same, where their lists are and what they lack is 0
outcome_same : (transfer end : Bool) (first second : Event) → (transfer ≡ true → end ≡ false)
    → (transfer ≡ false → (first.nbytes ≡ 0) × (first.flags ≡ 0))
    → (end ≡ false → (first.signal ≡ 0) × (first.code ≡ 0))
    → (transfer ≡ false → (second.nbytes ≡ 0) × (second.flags ≡ 0))
    → (end ≡ false → (second.signal ≡ 0) × (second.code ≡ 0))
    → (if transfer then first.nbytes ∷ first.flags ∷ [] else (if end then first.signal ∷ first.code ∷ [] else []))
    ≡ (if transfer then second.nbytes ∷ second.flags ∷ [] else (if end then second.signal ∷ second.code ∷ [] else []))
    → OutcomesAreSame first second
outcome_same true true first second apart a b x y e = absurd (cc (apart refl))
outcome_same true false first second apart a b x y e = let one = b refl in let two = y refl in (cc, cc, cc, cc)
outcome_same false true first second apart a b x y e = let one = a refl in let two = x refl in (cc, cc, cc, cc)
outcome_same false false first second apart a b x y e =
    let one = a refl in let two = x refl in let three = b refl in let four = y refl in (cc, cc, cc, cc)

-- no kind is both
apart : (kind : ℕ) → is_transfer kind ≡ true → is_end kind ≡ false
apart kind e = grind arith

event_from : (first second : Event) → first.userdata ≡ second.userdata → first.error ≡ second.error
    → first.kind ≡ second.kind
    → OutcomesAreSame first second → first ≡ second
event_from first second userdata error kind rest =
    λ i. record {
      userdata = userdata i;
      error = error i;
      kind = kind i;
      nbytes = rest.0 i;
      flags = rest.1 i;
      signal = rest.2 i;
      code = rest.3 i;
    }

pub event_is_read_back : EventIsReadBack
event_is_read_back value read bytes lacks laid read_values read_lacks =
    let kind : read.kind ≡ value.kind = cc (laid.values_at) in
    let userdata : read.userdata ≡ value.userdata = cc (laid.values_at) in
    let error : read.error ≡ value.error = cc (laid.values_at) in
    let written : outcome_values value ≡ numbers (outcome_fields value.kind) bytes = cc (laid.values_at) in
    let found : outcome_values read ≡ numbers (outcome_fields read.kind) bytes = cc (read_values) in
    event_from read value userdata error kind
    (outcome_same (is_transfer value.kind) (is_end value.kind) read value (apart value.kind)
    (rw kind at read_lacks.transfer) (rw kind at read_lacks.end) lacks.transfer lacks.end
    (rw kind at found ∙ sym written))
