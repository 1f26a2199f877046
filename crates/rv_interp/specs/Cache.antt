-- What a cache of decoded instructions keeps.
use Rattle.std.specs.Prelude.{◌≡◌, ℕ, ◌+◌, ◌%◌, ◌/◌, ◌^◌, ◌<◌, List, length, get_or, false, Some, Ok}
use Rattle.std.specs.FinMap.{get}
use Rattle.std.specs.List.{All}
use Rattle.abi_base.specs.declared.address_space.TheConstants.{INSTRUCTION_ALIGNMENT, PAGE_SIZE}
use Rattle.guest_memory.specs.Page.{Page, Pages}
use Rattle.rv_code.specs.declared.instr.Instr.{Instr}
use Rattle.rv_code.specs.declared.instr.Op.TheVariants as op
use Rattle.rv_code.specs.Formats.{NamesRegisters}
use Rattle.rv_interp.specs.declared.regions.Region.{Region}
use Rattle.rv_interp.specs.declared.runs.Place.{Place}
use Rattle.rv_interp.specs.declared.slot.Slot.{Slot}
use Rattle.rv_interp.specs.Instructions.{instruction_at}
use Rattle.rv_interp.specs.Slots.{address_at, instr_of}

-- the instruction at an address of a page that can't be written
pub record IsFixedAt (m : Pages) (pc : ℕ) (i : Instr) : Type 0 where
  pub small : pc < 2 ^ 64
  pub page : Page
  pub there : get m (pc / PAGE_SIZE) ≡ Some page
  pub unwritable : page.prot.write ≡ false
  pub instruction : instruction_at m pc ≡ Ok i

-- a slot names registers and, unless it is empty, has the instruction that is at the address of its place
pub record IsTrueAt (m : Pages) (pc : ℕ) (slot : Slot) : Type 0 where
  pub registers : NamesRegisters (instr_of slot)
  pub fixed : (slot.op ≡ op.Ebreak → ⊥) → IsFixedAt m pc (instr_of slot)

-- each slot of those from an address on is true of this memory, and the last one is empty
pub record AreTrueFrom (m : Pages) (base : ℕ) (slots : List Slot) : Type 0 where
  pub aligned : base % INSTRUCTION_ALIGNMENT ≡ 0
  pub each : (place : ℕ) (d : Slot) → place < length slots → IsTrueAt m (address_at base place) (get_or slots place d)
  pub last : (place : ℕ) (d : Slot) → place + 1 ≡ length slots → (get_or slots place d).op ≡ op.Ebreak

abbrev pub RegionIsTrue : Pages → Region → Type 0
RegionIsTrue m region = AreTrueFrom m region.base region.slots.items

-- each slot is true of this memory
abbrev pub AreTrue : Pages → List Region → Type 0
AreTrue m regions = All (RegionIsTrue m) regions

-- each region begins at a multiple of 4
abbrev pub AreAligned : List Region → Type 0
AreAligned regions = All (λ region. region.base % INSTRUCTION_ALIGNMENT ≡ 0) regions

-- the instruction at an address has the slot at this place of a region
pub record IsPlaceOf (region : Region) (pc at : ℕ) : Type 0 where
  pub within : at < length region.slots.items
  pub address : address_at region.base at ≡ pc

-- the instruction at an address has a slot of one of these regions
pub record IsFound (regions : List Region) (pc : ℕ) (place : Place) : Type 0 where
  pub within : place.region < length regions
  pub is_place : (d : Region) → IsPlaceOf (get_or regions place.region d) pc place.at
