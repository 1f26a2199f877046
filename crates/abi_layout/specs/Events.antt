-- The layouts of subscriptions and events: some fields are there for some types of events only.
use Rattle.std.specs.Prelude.{◌≡◌, ◌==◌, ◌||◌, ℕ, Bool, false, ⊤, List, [], ◌∷◌, codes, if◌then◌else◌}
use Rattle.abi_structures.specs.declared.events.Event.{Event}
use Rattle.abi_structures.specs.declared.events.EventType.TheVariants.{FdRead, FdWrite, ProcTerminate}
use Rattle.abi_structures.specs.declared.events.Subscription.{Subscription}
use Rattle.abi_structures.specs.declared.events.What.{What}
use Rattle.abi_structures.specs.declared.events.What.TheVariants as what
use Rattle.abi_structures.specs.Events.{IsOfNoType, number_of, type_of}
use Rattle.abi_layout.specs.Layout.{Field, Layout, field, number_at, numbers}

-- ---- events

-- an event of this kind is that bytes may be read or written
abbrev pub is_transfer : ℕ → Bool
is_transfer kind = (kind == number_of FdRead) || (kind == number_of FdWrite)

-- an event of this kind is that a process ended
abbrev pub is_end : ℕ → Bool
is_end kind = kind == number_of ProcTerminate

-- the fields that stand after an event's kind
abbrev pub outcome_fields : ℕ → List Field
outcome_fields kind =
    if is_transfer kind
    then field (codes "nbytes") 8 16 ∷ field (codes "flags") 2 24 ∷ []
    else (if is_end kind then field (codes "signal") 1 16 ∷ field (codes "code") 4 20 ∷ [] else [])

-- the values of those fields
abbrev pub outcome_values : Event → List ℕ
outcome_values e =
    if is_transfer e.kind then e.nbytes ∷ e.flags ∷ [] else (if is_end e.kind then e.signal ∷ e.code ∷ [] else [])

-- the layout of an event of a kind
abbrev pub event_layout : ℕ → Layout
event_layout kind =
    record {
      size = 32;
      fields =
          field (codes "userdata") 8 0
          ∷ field (codes "error") 2 8
          ∷ field (codes "kind") 1 10
          ∷ outcome_fields kind;
    }

-- an event's values, in the order of its layout's fields
abbrev pub event_values : Event → List ℕ
event_values e = e.userdata ∷ e.error ∷ e.kind ∷ outcome_values e

-- the fields that an event's kind lacks are 0
pub record LacksAreZero (e : Event) : Type 0 where
  pub transfer : is_transfer e.kind ≡ false → (e.nbytes ≡ 0) × (e.flags ≡ 0)
  pub end : is_end e.kind ≡ false → (e.signal ≡ 0) × (e.code ≡ 0)

-- ---- subscriptions

-- the fields that stand after a subscription's kind
abbrev pub what_fields : What → List Field
what_fields (what.Clock clock timeout precision flags) =
    field (codes "clock") 4 24
    ∷ field (codes "timeout") 8 32
    ∷ field (codes "precision") 8 40
    ∷ field (codes "flags") 2 48
    ∷ []
what_fields (what.Condvar condvar condvar_word lock lock_word condvar_scope lock_scope) =
    field (codes "condvar") 8 16
    ∷ field (codes "lock") 8 24
    ∷ field (codes "condvar_scope") 1 32
    ∷ field (codes "lock_scope") 1 33
    ∷ []
what_fields (what.FdRead fd) = field (codes "fd") 4 16 ∷ []
what_fields (what.FdWrite fd) = field (codes "fd") 4 16 ∷ []
what_fields (what.LockRdlock lock word scope) = field (codes "lock") 8 16 ∷ field (codes "scope") 1 24 ∷ []
what_fields (what.LockWrlock lock word scope) = field (codes "lock") 8 16 ∷ field (codes "scope") 1 24 ∷ []
what_fields (what.ProcTerminate fd) = field (codes "fd") 4 16 ∷ []

-- the values of those fields
abbrev pub what_values : What → List ℕ
what_values (what.Clock clock timeout precision flags) = clock ∷ timeout ∷ precision ∷ flags ∷ []
what_values (what.Condvar condvar condvar_word lock lock_word condvar_scope lock_scope) =
    condvar ∷ lock ∷ condvar_scope ∷ lock_scope ∷ []
what_values (what.FdRead fd) = fd ∷ []
what_values (what.FdWrite fd) = fd ∷ []
what_values (what.LockRdlock lock word scope) = lock ∷ scope ∷ []
what_values (what.LockWrlock lock word scope) = lock ∷ scope ∷ []
what_values (what.ProcTerminate fd) = fd ∷ []

-- the words of locks and condition variables, which stand in no subscription's bytes, are 0
abbrev pub WordsAreZero : What → Type 0
WordsAreZero (what.Clock clock timeout precision flags) = ⊤
WordsAreZero (what.Condvar condvar condvar_word lock lock_word condvar_scope lock_scope) =
    (condvar_word ≡ 0) × (lock_word ≡ 0)
WordsAreZero (what.FdRead fd) = ⊤
WordsAreZero (what.FdWrite fd) = ⊤
WordsAreZero (what.LockRdlock lock word scope) = word ≡ 0
WordsAreZero (what.LockWrlock lock word scope) = word ≡ 0
WordsAreZero (what.ProcTerminate fd) = ⊤

-- the field that says what a subscription's other fields are
abbrev pub kind_field : Field
kind_field = field (codes "kind") 1 8

-- the layout of a subscription that waits for this
abbrev pub subscription_layout : What → Layout
subscription_layout what = record { size = 56; fields = field (codes "userdata") 8 0 ∷ kind_field ∷ what_fields what }

-- a subscription's values, in the order of its layout's fields
abbrev pub subscription_values : Subscription → List ℕ
subscription_values s = s.userdata ∷ number_of (type_of s.what) ∷ what_values s.what

-- the kind in a subscription's bytes is no event's type
abbrev pub HasNoType : List ℕ → Type 0
HasNoType bytes = IsOfNoType (number_at bytes kind_field)

-- a subscription is the one in these bytes
pub record IsSubscriptionIn (bytes : List ℕ) (s : Subscription) : Type 0 where
  pub values : subscription_values s ≡ numbers (subscription_layout s.what).fields bytes
  pub words : WordsAreZero s.what
