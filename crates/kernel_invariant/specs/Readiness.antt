-- Whether a thread is ready, by what its readiness hangs on, and where it stands.
--     waits_no_more, ready_by_key      whether a thread waits and goes on now; the same by its number among those of all processes
--     places_of, places_by_key      where a thread stands, as its call looks at things now; the same by its number
--     at_key key f      what becomes of each entry where f is done to that of this number
--     HasStood key f spots V W      f is done to the entry of this number, and then it stands there, or everywhere where memory lacked
--     IsGathered places V W      each entry is the same, or stands at its places, or everywhere where memory lacked
--     left_where_done, has_received, AreLeftBy ..      who is left as calls are done
use Rattle.std.specs.Prelude.{◌≡◌, ◌⊎◌, ℕ, ◌/◌, ◌%◌, ◌^◌, Bool, true, false, List, [], ◌∷◌, Option, None, Some, cond, nat_eq, option_map}
use Rattle.std.specs.Ordering.{nat_cmp}
use Rattle.std.specs.FinMap.{FinMap, get, insert}
use Rattle.abi_types.specs.declared.constants.Constants.{Constants}
use Rattle.abi_types.specs.declared.descriptor.Descriptor.{Descriptor}
use Rattle.abi_types.specs.declared.family.DescriptorChange.{DescriptorChange}
use Rattle.abi_types.specs.declared.family.DescriptorChange.TheVariants.{Close, Dup, Replace, StatPut}
use Rattle.abi_types.specs.declared.open_kind.OpenKind.{OpenKind}
use Rattle.abi_types.specs.declared.reply.Answer.{Answer}
use Rattle.abi_types.specs.declared.reply.Answer.TheVariants as answer
use Rattle.abi_types.specs.declared.reply.Payload.{Payload}
use Rattle.abi_types.specs.declared.reply.Payload.TheVariants.{Received}
use Rattle.abi_types.specs.declared.status.Status.{Status}
use Rattle.abi_types.specs.declared.thread.Thread.{Thread}
use Rattle.abi_types.specs.declared.thread.Thread.TheVariants.{Runnable, Waits}
use Rattle.kernel_model.specs.Channels.{Channel}
use Rattle.kernel_model.specs.Families.DescriptorCalls.{lowest_free}
use Rattle.kernel_model.specs.OwnChanges.{is_done}
use Rattle.kernel_model.specs.State.{ProcessState, Table, thread_in}
use Rattle.kernel_parts.specs.Entries.{open_with}
use Rattle.kernel_parts.specs.Noted.{wait_places}
use Rattle.kernel_parts.specs.Touching.{HasEach, is_concerned, spread_if, stands_at_end}
use Rattle.kernel_parts.specs.Waiting.{goes_on}
use Rattle.wait_set.specs.declared.spot.Spot.{Spot}
use Rattle.wait_set.specs.declared.waiting.Waiting.{Waiting}
use Rattle.wait_set.specs.Waits.{IsStood, WaitMap, touched, where_so}

-- whether the thread waits and goes on now
abbrev pub waits_no_more : Constants → FinMap nat_cmp OpenKind → FinMap nat_cmp Channel → FinMap nat_cmp Status → ℕ → Option Table → Option Thread → Bool
waits_no_more constants opens channels statuses now table None = false
waits_no_more constants opens channels statuses now table (Some Runnable) = false
waits_no_more constants opens channels statuses now table (Some (Waits call since until stage)) =
    goes_on constants opens channels statuses now table call since until stage

-- what the thread with this number among those of all processes does
abbrev pub thread_by_key : FinMap nat_cmp ProcessState → ℕ → Option Thread
thread_by_key processes k = thread_in (option_map (λ (own : ProcessState). own.threads) (get processes (k / 2 ^ 32))) (k % 2 ^ 32)

abbrev pub ready_by_key : Constants → FinMap nat_cmp OpenKind → FinMap nat_cmp Channel → FinMap nat_cmp Status → ℕ → FinMap nat_cmp Table
    → FinMap nat_cmp ProcessState → ℕ → Bool
ready_by_key constants opens channels statuses now tables processes k =
    waits_no_more constants opens channels statuses now (get tables (k / 2 ^ 32)) (thread_by_key processes k)

-- ---- where threads stand

abbrev pub places_of : FinMap nat_cmp OpenKind → Option Table → Option Thread → List Spot
places_of opens table None = []
places_of opens table (Some Runnable) = []
places_of opens table (Some (Waits call since until stage)) = wait_places opens table call until

abbrev pub places_by_key : FinMap nat_cmp OpenKind → FinMap nat_cmp Table → FinMap nat_cmp ProcessState → ℕ → List Spot
places_by_key opens tables processes k = places_of opens (get tables (k / 2 ^ 32)) (thread_by_key processes k)

abbrev pub at_key : ℕ → (Waiting → Waiting) → ℕ → Option Waiting → Option Waiting
at_key key f k entry = cond (nat_eq k key) (option_map f entry) entry

abbrev pub HasStood : ℕ → (Waiting → Waiting) → List Spot → WaitMap → WaitMap → Type 0
HasStood key f spots V W = (v : Waiting) → get V key ≡ Some v → (w : Waiting) × (W ≡ insert V key w) × IsStood spots (f v) w

abbrev pub HasGathered : List Spot → Option Waiting → Option Waiting → Type 0
HasGathered spots None entry = entry ≡ None
HasGathered spots (Some v) entry = (w : Waiting) × (entry ≡ Some w) × ((w ≡ v) ⊎ IsStood spots v w)

abbrev pub IsGathered : (ℕ → List Spot) → WaitMap → WaitMap → Type 0
IsGathered places V W = (k : ℕ) → HasGathered (places k) (get V k) (get W k)

-- ---- who is left

-- those that stand at the channels of an end are left, where the call on it was done
abbrev pub left_where_done : Answer → OpenKind → WaitMap → WaitMap
left_where_done given kind waits = cond (is_done given) (where_so (stands_at_end kind) (λ _ w. touched w) waits) waits

-- whether descriptors came
abbrev pub has_come : Payload → Bool
has_come (Received bytes [] flags) = false
has_come (Received bytes (fd ∷ fds) flags) = true
has_come other = false

abbrev pub has_received : Answer → Bool
has_received (answer.Parked writes) = false
has_received (answer.Reply reply) = has_come reply.payload

-- whether k is the number of a thread of process p, which is this if there is one, that waits on the number fd
abbrev pub is_concerned_in : ℕ → ℕ → Option ProcessState → ℕ → Bool
is_concerned_in p fd None k = false
is_concerned_in p fd (Some own) k = is_concerned p fd own.threads k

-- the same of a number, if one is named
abbrev pub is_concerned_by : ℕ → Option ℕ → Option ProcessState → ℕ → Bool
is_concerned_by p None own k = false
is_concerned_by p (Some fd) own k = is_concerned_in p fd own k

-- those that stand at the channels of an open are left, if one is named
abbrev pub left_at_open : Option OpenKind → WaitMap → WaitMap
left_at_open None waits = waits
left_at_open (Some kind) waits = where_so (stands_at_end kind) (λ _ w. touched w) waits

-- what is left as a number of a process comes to stand for something else, and as the flags of an open change
abbrev pub AreLeftBy : ℕ → Option ProcessState → Option ℕ → Option OpenKind → WaitMap → WaitMap → Type 0
AreLeftBy p own number kind old new =
    (between : WaitMap) × HasEach (λ k. spread_if (is_concerned_by p number own k)) old between × (new ≡ left_at_open kind between)

-- the lowest free number of a table, if there is one
abbrev pub number_given : Option Table → Option ℕ
number_given None = None
number_given (Some table) = lowest_free table

-- the number that a change gives to something else, and the open whose flags it may put
abbrev pub number_changed : Option Table → DescriptorChange → Option ℕ
number_changed table (Close fd) = Some fd
number_changed table (Dup fd) = number_given table
number_changed table (Replace from to) = Some to
number_changed table (StatPut fd stat flags) = Some fd

abbrev pub open_changed : FinMap nat_cmp OpenKind → Option Table → DescriptorChange → Option OpenKind
open_changed opens table (StatPut fd stat flags) = option_map (λ (found : Descriptor × OpenKind). found.1) (open_with opens table fd)
open_changed opens table other = None
