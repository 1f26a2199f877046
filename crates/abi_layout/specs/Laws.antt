-- What holds of every layout, value and list of bytes: the statements that are the contracts of src/laws.rt.
use Rattle.std.specs.Prelude.{◌≡◌, ℕ, ◌<◌, List, slice_index}
use Rattle.abi_structures.specs.declared.events.Event.{Event}
use Rattle.abi_structures.specs.declared.events.Subscription.{Subscription}
use Rattle.abi_structures.specs.declared.events.What.{What}
use Rattle.abi_layout.specs.Layout.{Layout, IsLaidOut, IsProper, numbers}
use Rattle.abi_layout.specs.Events.{HasNoType, IsSubscriptionIn, LacksAreZero, WordsAreZero}
use Rattle.abi_layout.specs.Events.{event_layout, event_values, subscription_layout, subscription_values}

-- ---- layouts

-- each number of a list is a byte
abbrev pub AreBytes : List ℕ → Type 0
AreBytes bytes = (place : ℕ) → slice_index bytes place < 256

-- What is read of bytes laid out is the values that they were laid out of.
abbrev pub ValuesAreRead : Type 0
ValuesAreRead = (layout : Layout) (values bytes : List ℕ) → IsLaidOut layout values bytes
    → numbers layout.fields bytes ≡ values

-- Two lists of bytes laid out of the same values are equal.
abbrev pub BytesAreUnique : Type 0
BytesAreUnique =
    (layout : Layout) (values first second : List ℕ) → AreBytes first → AreBytes second
    → IsLaidOut layout values first → IsLaidOut layout values second
    → first ≡ second

-- No two fields of an event share a byte, of whichever kind it is.
abbrev pub EventIsProper : Type 0
EventIsProper = (kind : ℕ) → IsProper (event_layout kind)

-- No two fields of a subscription share a byte, whatever it waits for.
abbrev pub SubscriptionIsProper : Type 0
SubscriptionIsProper = (what : What) → IsProper (subscription_layout what)

-- ---- structures

-- What is read of a value's bytes is the value: the reader's contract with the writer's leaves no other.
abbrev pub IsReadBack : {T : Type 0} → Layout → (T → List ℕ) → Type 0
IsReadBack {T = T} layout values_of =
    (value read : T) (bytes : List ℕ) → IsLaidOut layout (values_of value) bytes
    → values_of read ≡ numbers layout.fields bytes → read ≡ value

-- The same of an event in which the fields that its kind lacks are 0.
abbrev pub EventIsReadBack : Type 0
EventIsReadBack =
    (value read : Event) (bytes : List ℕ) → LacksAreZero value
    → IsLaidOut (event_layout value.kind) (event_values value) bytes
    → event_values read ≡ numbers (event_layout read.kind).fields bytes → LacksAreZero read → read ≡ value

-- The bytes of a subscription whose words are 0 have an event's type, and what is read of them is the subscription.
abbrev pub SubscriptionIsReadBack : Type 0
SubscriptionIsReadBack =
    (value : Subscription) (bytes : List ℕ) → WordsAreZero value.what
    → IsLaidOut (subscription_layout value.what) (subscription_values value) bytes
    → (¬ HasNoType bytes) × ((read : Subscription) → IsSubscriptionIn bytes read → read ≡ value)
