-- Slots by number, as they are kept: a key of a slab by number, and a slot by key.
use Rattle.std.specs.Prelude.{◌≡◌, ℕ, Option, Some, None, IsSome}
use Rattle.std.specs.Ordering.{nat_cmp}
use Rattle.std.specs.FinMap as map
use Rattle.std.specs.FinMap.{FinMap}
use Rattle.slab.specs.Slab.{Slab, get}
use Rattle.abi_types.specs.declared.node.NodeKind.TheVariants as kind
use Rattle.maps.specs.Closure.{changed}
use Rattle.file_tree.specs.declared.slot.Slot.{Slot}

-- what stands for a slot where there is none
abbrev pub no_slot : Slot
no_slot = record {
  node = record { kind = kind.Directory; times = record { atim = 0; mtim = 0; ctim = 0 }; links = 0 };
  names = map.empty;
  parent = None;
}

abbrev pub slot_or : Option Slot → Slot
slot_or None = no_slot
slot_or (Some s) = s

-- the slot of each number
abbrev pub slots_of : Slab Slot → FinMap nat_cmp ℕ → FinMap nat_cmp Slot
slots_of slab keys = changed (λ _ key. slot_or (get slab key)) keys

-- the slot of each number is there, and no two numbers have one slot
pub record IsKeyed (slab : Slab Slot) (keys : FinMap nat_cmp ℕ) : Type 0 where
  pub there : (n key : ℕ) → map.get keys n ≡ Some key → IsSome (get slab key)
  pub apart : (n m key : ℕ) → map.get keys n ≡ Some key → map.get keys m ≡ Some key → n ≡ m
