-- Whom a change may concern of the threads that wait, and what becomes of their entries.
--     HasEach f old new      each entry of the new map is what f makes of the old one of its number
--     gone_if, spread_if, left_if      no entry if so; one that stands everywhere and is left if so; one that is left if so
--     begun_if      an entry if so, a fresh one where there was none
--     is_among p numbers k      whether k is the number of one of these threads of the process
--     told_entry p told k      what becomes of an entry where these threads are told of
--     IsMade p before after V W      what becomes of a process's threads and of the entries where it makes one
--     looks_for fd call      whether a thread that waits in the call hangs on what the number names
--     is_concerned p fd threads k      whether k is the number of a thread of the process that waits in such a call
--     stands_at_end kind w      whether the entry stands at a channel of the open
--     HasNoLast V      no entry has the greatest number that there is, which `is_own` leaves out
use Rattle.std.specs.Prelude.{◌≡◌, ℕ, ◌-◌, ◌^◌, ◌<◌, ◌&&◌, ◌||◌, Bool, false, List, [], Option, None, Some, cond, nat_eq, nat_lt}
use Rattle.std.specs.List.{list_any}
use Rattle.std.specs.FinMap.{get, insert}
use Rattle.std.specs.Option.{option_map}
use Rattle.abi_structures.specs.declared.events.Subscription.{Subscription}
use Rattle.abi_structures.specs.declared.events.What.{What}
use Rattle.abi_types.specs.declared.call.Call.{Call}
use Rattle.abi_types.specs.declared.open_kind.OpenKind.{OpenKind}
use Rattle.abi_types.specs.declared.open_kind.OpenKind.TheVariants.{End}
use Rattle.abi_types.specs.declared.thread.Thread.{Thread}
use Rattle.abi_types.specs.declared.thread.Thread.TheVariants.{Runnable, Waits}
use Rattle.guest_locks.specs.Told.{Told}
use Rattle.kernel_model.specs.Calls.{named}
use Rattle.kernel_model.specs.Families.WaitCalls.{fds_of, wait_row}
use Rattle.kernel_model.specs.State.{Threads}
use Rattle.kernel_model.specs.Waits.{may_wait}
use Rattle.kernel_parts.specs.Keys.{is_own, key}
use Rattle.maps.specs.Closure.{member}
use Rattle.wait_set.specs.declared.spot.Spot.TheVariants.{Channel}
use Rattle.wait_set.specs.declared.waiting.Waiting.{Waiting}
use Rattle.wait_set.specs.Waits.{WaitMap, fresh, spread_out, stands, touched}

abbrev pub HasEach : (ℕ → Option Waiting → Option Waiting) → WaitMap → WaitMap → Type 0
HasEach f old new = (k : ℕ) → get new k ≡ f k (get old k)

abbrev pub gone_if : Bool → Option Waiting → Option Waiting
gone_if so entry = cond so None entry

abbrev pub spread_if : Bool → Option Waiting → Option Waiting
spread_if so entry = cond so (option_map spread_out entry) entry

abbrev pub left_if : Bool → Option Waiting → Option Waiting
left_if so entry = cond so (option_map touched entry) entry

abbrev pub begun_if : Bool → Option Waiting → Option Waiting
begun_if so None = cond so (Some fresh) None
begun_if so (Some w) = Some w

-- ---- a new thread

-- The process p makes a thread, or nothing happens: a number that none of its threads has gets an entry, if it has none, and a thread that runs has that number
-- then.
pub data IsMade (p : ℕ) (before after : Threads) (V W : WaitMap) : Type 0 where
  not_made : after ≡ before → W ≡ V → IsMade p before after V W
  made : (t : ℕ) → t < 2 ^ 30 → get before t ≡ None → after ≡ insert before t Runnable → HasEach (λ k. begun_if (nat_eq k (key p t))) V W
      → IsMade p before after V W

-- ---- those that are told of

abbrev pub is_among : ℕ → List ℕ → ℕ → Bool
is_among p numbers k = list_any (λ t. nat_lt t (2 ^ 32) && nat_eq k (key p t)) numbers

-- where all are told of they are spread too
abbrev pub told_entry : ℕ → Told → ℕ → Option Waiting → Option Waiting
told_entry p told k entry = cond told.all (spread_if (is_own p k) entry) (left_if (is_among p told.numbers k) entry)

-- ---- those that wait on a number

-- whether what a subscription waits for is looked for behind the number
abbrev pub looks_behind : ℕ → What → Bool
looks_behind fd what = member fd (fds_of (wait_row what []))

abbrev pub subscribes : ℕ → Subscription → Bool
subscribes fd subscription = looks_behind fd subscription.what

abbrev pub looks_for : ℕ → Call → Bool
looks_for fd call = may_wait call && member fd (named call)

abbrev pub waits_on : ℕ → Option Thread → Bool
waits_on fd None = false
waits_on fd (Some Runnable) = false
waits_on fd (Some (Waits call since until stage)) = looks_for fd call

abbrev pub is_concerned : ℕ → ℕ → Threads → ℕ → Bool
is_concerned p fd threads k = is_own p k && waits_on fd (get threads (k - key p 0))

-- ---- those that stand at an end

abbrev pub stands_at : Option ℕ → Waiting → Bool
stands_at None w = false
stands_at (Some c) w = stands (Channel c) w

abbrev pub stands_at_end : OpenKind → Waiting → Bool
stands_at_end (End reads writes flags form) w = stands_at reads w || stands_at writes w
stands_at_end other w = false

-- ---- the greatest number

abbrev pub HasNoLast : WaitMap → Type 0
HasNoLast V = get V (2 ^ 64 - 1) ≡ None
