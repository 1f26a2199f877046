-- What a poll comes to, and until when it waits, by what it looks at of a state: the moment, the opens, the channels, and how processes
-- stand.
use Rattle.std.specs.Prelude.{◌≡◌, ℕ, Bool, true, false, List, [], ◌∷◌, Option, Some, None}
use Rattle.std.specs.Ordering.{nat_cmp}
use Rattle.std.specs.FinMap.{FinMap, get}
use Rattle.abi_structures.specs.declared.events.Event.{Event}
use Rattle.abi_structures.specs.declared.events.Subscription.{Subscription}
use Rattle.abi_types.specs.declared.call.Call.{Call}
use Rattle.abi_types.specs.declared.call.Call.TheVariants.{Poll}
use Rattle.abi_types.specs.declared.constants.Constants.{Constants}
use Rattle.abi_types.specs.declared.open_kind.OpenKind.{OpenKind}
use Rattle.abi_types.specs.declared.status.Status.{Status}
use Rattle.kernel_model.specs.Channels.{Channel}
use Rattle.kernel_model.specs.Deadlines.{soon}
use Rattle.kernel_model.specs.Families.Polls.{events_now, has_no_reader, has_no_writer, is_of_lock, poll, told_or_waits}
use Rattle.kernel_model.specs.Outcome.{Outcome}
use Rattle.kernel_model.specs.State.{Table, no_state}
use Rattle.kernel_model.specs.View.{View, whole}

-- what is seen where there are these opens and channels, processes stand so, and this is the moment
abbrev pub sight : FinMap nat_cmp OpenKind → FinMap nat_cmp Channel → FinMap nat_cmp Status → ℕ → View
sight opens channels statuses now = whole (record no_state { clock = now; opens = opens; chans = channels; statuses = statuses })

-- what a poll comes to that was made at the moment `since` by a process with this table, and that doesn't begin with a lock or a condition
-- variable
abbrev pub poll_outcome : Constants → FinMap nat_cmp OpenKind → FinMap nat_cmp Channel → FinMap nat_cmp Status → ℕ → Table → ℕ → List Subscription → Outcome
poll_outcome constants opens channels statuses now table since subscriptions =
    told_or_waits (events_now constants (sight opens channels statuses now) since table subscriptions)

-- the moment until which a poll waits that was made at the moment `since`, where it counts
abbrev pub poll_deadline : Constants → ℕ → List Subscription → Option ℕ
poll_deadline constants since subscriptions = soon ((poll subscriptions).deadline constants since)

-- whether there is an event to tell of
abbrev pub is_told : List Event → Bool
is_told [] = false
is_told (event ∷ events) = true

-- whether nobody reads the channel with this number any more, where one is named; and whether nobody writes it
abbrev pub is_unread : FinMap nat_cmp Channel → Option ℕ → Bool
is_unread channels None = false
is_unread channels (Some c) = has_no_reader (get channels c)

abbrev pub is_unwritten : FinMap nat_cmp Channel → Option ℕ → Bool
is_unwritten channels None = false
is_unwritten channels (Some c) = has_no_writer (get channels c)

-- the call is a poll that begins with this subscription, which is of a lock or a condition variable
abbrev pub BeginsWith : Subscription → Call → Type 0
BeginsWith first call = (rest : List Subscription) × (call ≡ Poll (first ∷ rest)) × (is_of_lock first.what ≡ true)
