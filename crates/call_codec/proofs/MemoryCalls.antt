-- What the tests of a memory say of the calls about it.
use Rattle.std.proofs.Common.{◌≡◌, ℕ, ◌+◌, ◌/◌, ◌≤◌, Bool, true, false, cond, Option, Some, None, IsSome, refl, sym, ap, ◌∙◌}
use Rattle.std.proofs.lemmas.Bool.{le-leb}
use Rattle.std.specs.FinMap.{get, len}
use Rattle.abi_base.specs.declared.errno.Errno.TheVariants.{Success, Fault, Nobufs}
use Rattle.abi_types.specs.declared.place.Place.TheVariants as place
use Rattle.abi_types.specs.declared.place.Place.TheVariants.{At}
use Rattle.guest_memory.specs.declared.fault.MemFault.{MemFault}
use Rattle.guest_memory.specs.declared.fault.MemFault.TheVariants.{NotMapped, NoRight, PageLimit, Overlaps, NoMemory}
use Rattle.guest_memory.specs.Page.{Page, Pages}
use Rattle.guest_memory.specs.Changes.{all_there, lowest_gap}
use Rattle.guest_memory.specs.Mapping.{AreThere, ProtectFails, IsLowestGap, HasNoGap, page_limit}
use Rattle.guest_memory.proofs.Changes.{are_there, test_there, lowest_gap_is, no_gap_is}
use Rattle.call_codec.specs.MemoryCalls.{if_mapped, pages_in, place_in, place_in_gap}

unless_true : (b : Bool) → (b ≡ true → ⊥) → b ≡ false
unless_true true h = absurd (h refl)
unless_true false h = refl

none_is_not_there : (page : Option Page) → page ≡ None → IsSome page → ⊥
none_is_not_there None h there = cc
none_is_not_there (Some page) h there = cc

-- where a page is missing, not all are there
some_missing : (m : Pages) (n k : ℕ) (fault : MemFault) → ProtectFails m n k fault → all_there m n k ≡ false
some_missing m n k (NotMapped a) h =
    unless_true (all_there m n k) (λ all. none_is_not_there (get m (a / 4096)) h.holds (are_there k m n all (a / 4096) h.within))
some_missing m n k (NoRight a) h = absurd h
some_missing m n k PageLimit h = absurd h
some_missing m n k (Overlaps a) h = absurd h
some_missing m n k NoMemory h = absurd h

pub mapped_is_success : (m : Pages) (a bytes : ℕ) → AreThere m (a / 4096) (pages_in bytes) → Success ≡ if_mapped m a bytes
mapped_is_success m a bytes there = sym (ap (λ (b : Bool). cond b Success Fault) (test_there (pages_in bytes) m (a / 4096) there))

pub missing_is_fault : (m : Pages) (a bytes : ℕ) (fault : MemFault) → ProtectFails m (a / 4096) (pages_in bytes) fault → Fault ≡ if_mapped m a bytes
missing_is_fault m a bytes fault h = sym (ap (λ (b : Bool). cond b Success Fault) (some_missing m (a / 4096) (pages_in bytes) fault h))

-- where there is room for k pages more, they go to the lowest gap
in_room : (m : Pages) (k : ℕ) (gap : Option ℕ) → len m + k ≤ page_limit → lowest_gap m k ≡ gap → place_in gap ≡ place_in_gap m k
in_room m k gap fits is =
    sym (ap (λ (b : Bool). cond b (place_in (lowest_gap m k)) (place.Refused Nobufs)) (le-leb (len m + k) page_limit fits) ∙ ap place_in is)

pub gap_is_place : (m : Pages) (k a : ℕ) → len m + k ≤ page_limit → IsLowestGap m k a → At a ≡ place_in_gap m k
gap_is_place m k a fits gap = in_room m k (Some a) fits (lowest_gap_is m k a gap)

pub no_gap_no_place : (m : Pages) (k : ℕ) → len m + k ≤ page_limit → HasNoGap m k → place.Refused Nobufs ≡ place_in_gap m k
no_gap_no_place m k fits none = in_room m k None fits (no_gap_is m k none)
