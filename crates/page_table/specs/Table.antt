-- The pages of a memory as they are kept: each in a slot with its number, in no order, and an index from numbers to slots.
use Rattle.std.specs.Prelude.{◌≡◌, ℕ, ◌<◌, ◌≤◌, ◌^◌, ◌+◌, ◌++◌, true, false, take, drop, List, length, get_or, Some}
use Rattle.std.specs.Ordering.{nat_cmp}
use Rattle.std.specs.FinMap.{FinMap, get, insert, len}
use Rattle.maps.specs.Closure.{changed}
use Rattle.page_table.specs.declared.slots.Slot.{Slot}
use Rattle.page_table.specs.Page.{Page, Pages, zero_page}
use Rattle.page_table.specs.Numbers.{bytes_of}

-- a slot, for where there is none
abbrev pub no_slot : Slot
no_slot = record { number = 0; page = zero_page (record { read = false; write = false; exec = false }) }

-- the slot at a place
abbrev pub slot_at : List Slot → ℕ → Slot
slot_at slots i = get_or slots i no_slot

-- the pages of the slots, by the numbers under which the index has them
unfoldable pub content : FinMap nat_cmp ℕ → List Slot → Pages
content index slots = changed (λ _ i. (slot_at slots i).page) index

-- The index leads to a slot of the number, and to each slot from place k on by its number. The slots before that are shared with other
-- tables, and some of them are of pages that this table has no more, or has in a slot of its own.
pub record IsIndexed (k : ℕ) (index : FinMap nat_cmp ℕ) (slots : List Slot) : Type 0 where
  pub placed : (q i : ℕ) → get index q ≡ Some i → (i < length slots) × ((slot_at slots i).number ≡ q)
  pub found : (i : ℕ) → k ≤ i → i < length slots → get index (slot_at slots i).number ≡ Some i

-- A table of slots that it shares with others, which come first, and of slots of its own, for which there is so much room: each of its
-- pages may come to be its own.
pub record IsTable (index : FinMap nat_cmp ℕ) (shared slots : List Slot) (capacity : ℕ) : Type 0 where
  pub indexed : IsIndexed (length shared) index (shared ++ slots)
  pub room : len index ≤ capacity
  pub few : length shared < 2 ^ 63

-- the n lowest bytes of v were written into the page q, which may be written, from a place in it on
pub record IsStored (m : Pages) (q place n v : ℕ) (after : Pages) : Type 0 where
  pub page : Page
  pub there : get m q ≡ Some page
  pub writable : page.prot.write ≡ true
  pub after_is : after ≡ insert m q (record page { bytes = take place page.bytes ++ (bytes_of n v ++ drop (place + n) page.bytes) })
