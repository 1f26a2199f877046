-- What the calls about memory answer, in other words than their definitions: for each call a list of conditions, each with
-- an error. The first condition that holds answers; where none holds, the call succeeds.
use Rattle.std.specs.Prelude.{◌≡◌, ◌≢◌, ℕ, ◌+◌, ◌*◌, ◌/◌, ◌%◌, ◌^◌, ◌<◌, ◌⊎◌, true, None, bit_or}
use Rattle.std.specs.FinMap.{len}
use Rattle.abi_types.specs.declared.call.Call.{Call}
use Rattle.abi_types.specs.declared.call.Call.TheVariants.{MemMap, Memory, Refused}
use Rattle.abi_types.specs.declared.call_number.CallNumber.TheVariants as number
use Rattle.abi_types.specs.declared.place.Place.{Place}
use Rattle.abi_types.specs.declared.place.Place.TheVariants as place
use Rattle.abi_types.specs.declared.place.Place.TheVariants.{At}
use Rattle.abi_base.specs.declared.address_space.TheConstants.{GUEST_BEGIN, GUEST_END, PAGE_LIMIT, PAGE_SIZE}
use Rattle.abi_base.specs.declared.errno.Errno.{Errno}
use Rattle.abi_base.specs.declared.errno.Errno.TheVariants.{Success, Fault, Inval, Nobufs, Notsup}
use Rattle.abi_base.specs.Registers.{Registers}
use Rattle.abi_base.specs.declared.flags.TheConstants.{MAP_FIXED, MAP_PRIVATE, MAP_SHARED, MS_ASYNC, MS_SYNC, PROT_EXEC, PROT_WRITE}
use Rattle.guest_memory.specs.Changes.{lowest_gap, without_pages}
use Rattle.guest_memory.specs.Mapping.{AreThere}
use Rattle.guest_memory.specs.Page.{Pages}
use Rattle.codec_arguments.specs.Arguments.{argument, low}
use Rattle.call_codec.specs.Arguments.{or_refused}
use Rattle.call_codec.specs.MemoryCalls.{has_bits, pages_in, mem_advise_of, mem_map_of, mem_protect_of, mem_sync_of, mem_unmap_of}

-- conditions in an order, each with the error that it answers
pub data Conditions : Type 1 where
  success : Conditions
  when : Type 0 → Errno → Conditions → Conditions

-- the first condition that holds answers so
abbrev pub AnswersFirst : Conditions → Errno → Type 0
AnswersFirst success answered = answered ≡ Success
AnswersFirst (when holds errno others) answered = (holds × (answered ≡ errno)) ⊎ ((¬ holds) × AnswersFirst others answered)

-- what the caller's memory and registers say that the call answers
abbrev pub placed_errno : Place → Errno
placed_errno (At a) = Success
placed_errno (place.Refused errno) = errno

abbrev pub errno_of : Call → Errno
errno_of (MemMap place length prot flags fd offset) = placed_errno place
errno_of (Memory number errno) = errno
errno_of (Refused number errno) = errno
errno_of other = Success

-- the address isn't a page's
abbrev pub IsMisaligned : ℕ → Type 0
IsMisaligned a = a % PAGE_SIZE ≢ 0

-- some page of the range isn't mapped
abbrev pub LacksPages : Pages → ℕ → ℕ → Type 0
LacksPages m a bytes = ¬ AreThere m (a / PAGE_SIZE) (pages_in bytes)

-- the flags hold each of these bits
abbrev pub Holds : ℕ → ℕ → Type 0
Holds flags bits = has_bits flags bits ≡ true

-- mem_advise: an address, a length, and an advice from 1 to 6
abbrev pub advise_conditions : Pages → Registers → Conditions
advise_conditions m r =
    when (low (argument r 2) ≡ 0) Inval
    (when (6 < low (argument r 2)) Inval
    (when (IsMisaligned (argument r 0)) Inval
    (when (LacksPages m (argument r 0) (argument r 1)) Fault
    success)))

-- mem_protect: an address, a length and a prot
abbrev pub protect_conditions : Pages → Registers → Conditions
protect_conditions m r =
    when (7 < low (argument r 2)) Inval
    (when (IsMisaligned (argument r 0)) Inval
    (when (Holds (low (argument r 2)) (bit_or PROT_WRITE PROT_EXEC)) Notsup
    (when (LacksPages m (argument r 0) (argument r 1)) Fault
    success)))

-- mem_sync: an address, a length and flags
abbrev pub sync_conditions : Pages → Registers → Conditions
sync_conditions m r =
    when (7 < low (argument r 2)) Inval
    (when (Holds (low (argument r 2)) MS_ASYNC × Holds (low (argument r 2)) MS_SYNC) Inval
    (when ((¬ Holds (low (argument r 2)) MS_ASYNC) × (¬ Holds (low (argument r 2)) MS_SYNC)) Inval
    (when (IsMisaligned (argument r 0)) Inval
    (when (LacksPages m (argument r 0) (argument r 1)) Fault
    success))))

-- mem_unmap: an address and a length; pages that aren't mapped are passed over
abbrev pub unmap_conditions : Registers → Conditions
unmap_conditions r =
    when (IsMisaligned (argument r 0)) Inval
    (when (argument r 1 ≡ 0) Inval
    (when (2 ^ 64 < argument r 0 + argument r 1) Inval
    success))

-- mem_map: where the pages go. With FIXED they go to the address, else to the lowest gap
abbrev pub room_conditions : Pages → ℕ → ℕ → ℕ → Conditions
room_conditions m a flags k =
    when (Holds flags MAP_FIXED × (PAGE_LIMIT < len (without_pages m (a / PAGE_SIZE) k) + k)) Nobufs
    (when ((¬ Holds flags MAP_FIXED) × (PAGE_LIMIT < len m + k)) Nobufs
    (when ((¬ Holds flags MAP_FIXED) × (lowest_gap m k ≡ None)) Nobufs
    success))

-- mem_map: an address, a length, a prot, flags, a descriptor and an offset. Without ANON the kernel answers what the descriptor lacks before it answers that there is no room.
abbrev pub map_conditions : Pages → Registers → Conditions
map_conditions m r =
    let a = argument r 0 in let bytes = argument r 1 in let prot = low (argument r 2) in let flags = low (argument r 3) in
    when (7 < prot) Inval
    (when (15 < flags) Inval
    (when (bytes ≡ 0) Inval
    (when (Holds flags MAP_PRIVATE × Holds flags MAP_SHARED) Inval
    (when ((¬ Holds flags MAP_PRIVATE) × (¬ Holds flags MAP_SHARED)) Inval
    (when (IsMisaligned (argument r 5)) Inval
    (when (Holds flags MAP_SHARED) Notsup
    (when (Holds prot (bit_or PROT_WRITE PROT_EXEC)) Notsup
    (when (Holds flags MAP_FIXED × IsMisaligned a) Inval
    (when (Holds flags MAP_FIXED × (a < GUEST_BEGIN)) Inval
    (when (Holds flags MAP_FIXED × (GUEST_END < a + PAGE_SIZE * pages_in bytes)) Inval
    (room_conditions m a flags (pages_in bytes))))))))))))

-- The calls are answered as listed.
abbrev pub AdviseIsListed : Type 0
AdviseIsListed = (m : Pages) (r : Registers) → AnswersFirst (advise_conditions m r) (errno_of (mem_advise_of m r))

abbrev pub MapIsListed : Type 0
MapIsListed = (m : Pages) (r : Registers) → AnswersFirst (map_conditions m r) (errno_of (or_refused number.MemMap (mem_map_of m r)))

abbrev pub ProtectIsListed : Type 0
ProtectIsListed = (m : Pages) (r : Registers) → AnswersFirst (protect_conditions m r) (errno_of (mem_protect_of m r))

abbrev pub SyncIsListed : Type 0
SyncIsListed = (m : Pages) (r : Registers) → AnswersFirst (sync_conditions m r) (errno_of (mem_sync_of m r))

abbrev pub UnmapIsListed : Type 0
UnmapIsListed = (r : Registers) → AnswersFirst (unmap_conditions r) (errno_of (mem_unmap_of r))
