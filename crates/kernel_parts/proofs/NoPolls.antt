-- Calls that are no polls.
--     has_no_deadline      such a call has none
use Rattle.std.proofs.Common.{◌≡◌, ◌≢◌, ℕ, Bool, true, false, List, None, refl}
use Rattle.std.specs.Prelude.{if◌then◌else◌}
use Rattle.abi_structures.specs.declared.events.Subscription.{Subscription}
use Rattle.abi_types.specs.Families.{is_anonymous}
use Rattle.abi_types.specs.declared.call.Call.{Call}
use Rattle.abi_types.specs.declared.call.Call.TheVariants as call
use Rattle.abi_types.specs.declared.constants.Constants.{Constants}
use Rattle.kernel_model.specs.Calls.{meaning_of}
use Rattle.kernel_model.specs.Families.FileMeaning.{on_open}
use Rattle.kernel_model.specs.Families.MemoryCalls.{map_row, map_zeros, mapping}
use Rattle.kernel_model.specs.Meaning.{Meaning}

abbrev pub IsNoPoll : Call → Type 0
IsNoPoll c = (subscriptions : List Subscription) → c ≢ call.Poll subscriptions

pub either_meaning : (P : Meaning → Type 0) (b : Bool) (one other : Meaning) → P one → P other → P (if b then one else other)
either_meaning P true one other h i = h
either_meaning P false one other h i = i

pub has_no_deadline : (c : Call) → IsNoPoll c → (constants : Constants) (since : ℕ) → (meaning_of c).deadline constants since ≡ None
has_no_deadline (call.Poll subscriptions) other constants since = absurd (other subscriptions refl)
has_no_deadline (call.MemMap place length prot flags fd offset) other constants since =
    either_meaning (λ m. m.deadline constants since ≡ None) (is_anonymous flags) (map_zeros place)
    (on_open (map_row fd prot) (mapping place length offset)) refl refl
has_no_deadline _ other constants since = refl
