-- The calls that a process makes about its own memory: mem_advise, mem_map, mem_protect, mem_sync and mem_unmap. What
-- they answer is in the caller's registers and memory alone, and so is what they leave of the memory.
use Rattle.std.specs.Prelude.{ℕ, ◌≤◌, ◌+◌, ◌-◌, ◌*◌, ◌/◌, ◌%◌, ◌^◌, ◌==◌, ◌&&◌, ◌||◌, not, nat_le, nat_lt, Bool, List, take, Option, Some, None, Result, Ok, if◌then◌else◌, bit_or}
use Rattle.abi_base.specs.declared.address_space.TheConstants.{GUEST_BEGIN, GUEST_END, PAGE_SIZE}
use Rattle.std.specs.Int.RustNames.{bit_and}
use Rattle.std.specs.FinMap.{len}
use Rattle.abi_types.specs.declared.call.Call.{Call}
use Rattle.abi_types.specs.declared.call.Call.TheVariants.{MemMap, Memory}
use Rattle.abi_types.specs.declared.call_number.CallNumber.{CallNumber}
use Rattle.abi_types.specs.declared.call_number.CallNumber.TheVariants.{MemAdvise, MemProtect, MemSync, MemUnmap}
use Rattle.abi_base.specs.declared.errno.Errno.{Errno}
use Rattle.abi_base.specs.declared.errno.Errno.TheVariants.{Success, Fault, Inval, Nobufs, Notsup}
use Rattle.abi_types.specs.declared.place.Place.{Place}
use Rattle.abi_types.specs.declared.place.Place.TheVariants as place
use Rattle.abi_types.specs.declared.place.Place.TheVariants.{At}
use Rattle.abi_base.specs.declared.prot.Prot.{Prot}
use Rattle.abi_base.specs.Registers.{Registers}
use Rattle.abi_base.specs.declared.flags.TheConstants.{MAP_FIXED, MAP_PRIVATE, MAP_SHARED, MS_ASYNC, MS_SYNC, PROT_EXEC, PROT_READ, PROT_WRITE}
use Rattle.guest_memory.specs.Changes.{all_there, lowest_gap, mapped, protected, without_pages}
use Rattle.guest_memory.specs.Mapping.{page_limit}
use Rattle.guest_memory.specs.Page.{Pages}
use Rattle.guest_memory.specs.Ranges.{IsPageAddress}
use Rattle.guest_memory.specs.Written.{set_bytes}
use Rattle.codec_arguments.specs.Arguments.{argument, low}
use Rattle.codec_arguments.specs.Reading.{◌>>=◌, refuse_when}

-- ---- arguments

-- the flags hold each of these bits
abbrev pub has_bits : ℕ → ℕ → Bool
has_bits flags bits = bit_and flags bits == bits

-- the flags hold the one bit or the other, and not both
abbrev pub has_one : ℕ → ℕ → ℕ → Bool
has_one flags this that = if has_bits flags this then not (has_bits flags that) else has_bits flags that

-- the rights that a prot asks for
abbrev pub prot_of : ℕ → Prot
prot_of bits = record { read = has_bits bits PROT_READ; write = has_bits bits PROT_WRITE; exec = has_bits bits PROT_EXEC }

-- no page is both written and executed
abbrev pub writes_and_executes : ℕ → Bool
writes_and_executes bits = has_bits bits (bit_or PROT_WRITE PROT_EXEC)

-- how many pages so many bytes are, rounded up
abbrev pub pages_in : ℕ → ℕ
pages_in bytes = (bytes + (PAGE_SIZE - 1)) / PAGE_SIZE

-- the address, or the offset, is a page's
abbrev pub is_aligned : ℕ → Bool
is_aligned a = a % PAGE_SIZE == 0

-- k pages from the address on lie in the guest's part of the address space
abbrev pub is_guests : ℕ → ℕ → Bool
is_guests a k = nat_le GUEST_BEGIN a && nat_le (a + PAGE_SIZE * k) GUEST_END

-- ---- calls about pages that are there: each has what it answers, also where its arguments are faulty

-- SUCCESS where each page of the range is mapped, else FAULT
abbrev pub if_mapped : Pages → ℕ → ℕ → Errno
if_mapped m a bytes = if all_there m (a / PAGE_SIZE) (pages_in bytes) then Success else Fault

-- mem_advise answers INVAL for an advice that isn't 1 to 6 and for an address that isn't a page's
abbrev pub advise_errno : Pages → Registers → Errno
advise_errno m r =
    if nat_lt 0 (low (argument r 2)) && nat_le (low (argument r 2)) 6 && is_aligned (argument r 0) then if_mapped m (argument r 0) (argument r 1) else Inval

-- mem_advise: an address, a length and an advice
abbrev pub mem_advise_of : Pages → Registers → Call
mem_advise_of m r = Memory MemAdvise (advise_errno m r)

-- mem_protect answers INVAL for a prot over 7 and for an address that isn't a page's, and NOTSUP for a page that is both
-- written and executed
abbrev pub protect_errno : Pages → Registers → Errno
protect_errno m r =
    if nat_lt 7 (low (argument r 2)) || not (is_aligned (argument r 0)) then Inval
    else if writes_and_executes (low (argument r 2)) then Notsup
    else if_mapped m (argument r 0) (argument r 1)

-- mem_protect: an address, a length and a prot
abbrev pub mem_protect_of : Pages → Registers → Call
mem_protect_of m r = Memory MemProtect (protect_errno m r)

-- the flags of mem_sync: exactly one of ASYNC and SYNC; INVALIDATE may be there too
abbrev pub is_sync : ℕ → Bool
is_sync flags = nat_le flags 7 && has_one flags MS_ASYNC MS_SYNC

-- mem_sync answers INVAL for other flags and for an address that isn't a page's
abbrev pub sync_errno : Pages → Registers → Errno
sync_errno m r =
    if is_sync (low (argument r 2)) && is_aligned (argument r 0) then if_mapped m (argument r 0) (argument r 1) else Inval

-- mem_sync: an address, a length and flags
abbrev pub mem_sync_of : Pages → Registers → Call
mem_sync_of m r = Memory MemSync (sync_errno m r)

-- some bytes from the address on, none of which stands at 2^64 or behind it
abbrev pub is_range : ℕ → ℕ → Bool
is_range a bytes = nat_lt 0 bytes && nat_le (a + bytes) (2 ^ 64)

-- mem_unmap answers INVAL for an address that isn't a page's and for a range that is empty or passes 2^64. It passes over pages
-- that aren't there.
abbrev pub unmap_errno : Registers → Errno
unmap_errno r = if is_aligned (argument r 0) && is_range (argument r 0) (argument r 1) then Success else Inval

-- mem_unmap: an address and a length
abbrev pub mem_unmap_of : Registers → Call
mem_unmap_of r = Memory MemUnmap (unmap_errno r)

-- ---- mem_map

-- How mem_map is refused by its address, length, prot, flags and offset, with a file or without one.
abbrev pub may_map : ℕ → ℕ → ℕ → ℕ → ℕ → Result (Unit {0}) Errno
may_map a bytes prot flags offset =
    refuse_when (nat_lt 7 prot || nat_lt 15 flags || bytes == 0) Inval >>= λ _.
    refuse_when (not (has_one flags MAP_PRIVATE MAP_SHARED)) Inval >>= λ _.
    refuse_when (not (is_aligned offset)) Inval >>= λ _.
    refuse_when (has_bits flags MAP_SHARED) Notsup >>= λ _.
    refuse_when (writes_and_executes prot) Notsup >>= λ _.
    refuse_when (has_bits flags MAP_FIXED && not (is_aligned a && is_guests a (pages_in bytes))) Inval

-- FIXED: k pages at the address, in place of those that are there; NOBUFS where that would be too many
abbrev pub place_at : Pages → ℕ → ℕ → Place
place_at m a k = if nat_le (len (without_pages m (a / PAGE_SIZE) k) + k) page_limit then At a else place.Refused Nobufs

abbrev pub place_in : Option ℕ → Place
place_in (Some a) = At a
place_in None = place.Refused Nobufs

-- k pages in the lowest gap; NOBUFS where there is none or where that would be too many pages
abbrev pub place_in_gap : Pages → ℕ → Place
place_in_gap m k = if nat_le (len m + k) page_limit then place_in (lowest_gap m k) else place.Refused Nobufs

-- where k pages go, with these flags
abbrev pub place_of : Pages → ℕ → ℕ → ℕ → Place
place_of m a flags k = if has_bits flags MAP_FIXED then place_at m a k else place_in_gap m k

-- a mem_map that isn't refused: its place and its other arguments
abbrev pub placed_map : Pages → Registers → Call
placed_map m r =
    MemMap (place_of m (argument r 0) (low (argument r 3)) (pages_in (argument r 1))) (argument r 1) (low (argument r 2)) (low (argument r 3)) (low (argument r 4)) (argument r 5)

-- mem_map: an address, a length, a prot, flags, a descriptor and an offset
abbrev pub mem_map_of : Pages → Registers → Result Call Errno
mem_map_of m r =
    may_map (argument r 0) (argument r 1) (low (argument r 2)) (low (argument r 3)) (argument r 5) >>= λ _.
    Ok (placed_map m r)

-- ---- what they leave of the memory

-- k pages may be mapped at the address, in place of those that are there
pub record MayMapAt (m : Pages) (a k : ℕ) : Type 0 where
  pub page : IsPageAddress a
  pub low : GUEST_BEGIN ≤ a
  pub high : a + PAGE_SIZE * k ≤ GUEST_END
  pub room : len (without_pages m (a / PAGE_SIZE) k) + k ≤ page_limit

-- the place, if it is one, is where k pages may be mapped
abbrev pub MayMapThere : Pages → Place → ℕ → Type 0
MayMapThere m (At a) k = MayMapAt m a k
MayMapThere m (place.Refused errno) k = Unit {0}

-- A mapping of k pages that went to this place, in place of what was there. Whatever its rights are, the pages have these bytes, as
-- many as they have room for, and zeros behind them.
abbrev pub with_mapping : Pages → Place → ℕ → Prot → List ℕ → Pages
with_mapping m (At a) k prot bytes = set_bytes (mapped m (a / PAGE_SIZE) k prot) a (take (PAGE_SIZE * k) bytes)
with_mapping m (place.Refused errno) k prot bytes = m

-- the memory after the call with this number, which succeeded; the others change nothing
abbrev pub with_change : Pages → Registers → CallNumber → Pages
with_change m r MemProtect = protected m (argument r 0 / PAGE_SIZE) (pages_in (argument r 1)) (prot_of (low (argument r 2)))
with_change m r MemUnmap = without_pages m (argument r 0 / PAGE_SIZE) (pages_in (argument r 1))
with_change m r other = m

-- the address from which on a call with this number changes pages or their rights, where it succeeds, and of how many pages
abbrev pub changed_by : Registers → CallNumber → ℕ × ℕ
changed_by r MemProtect = (argument r 0, pages_in (argument r 1))
changed_by r MemUnmap = (argument r 0, pages_in (argument r 1))
changed_by r other = (0, 0)

-- the same of any call: mem_map's pages are those of its place
abbrev pub changed_pages : Registers → Call → ℕ × ℕ
changed_pages r (MemMap (At a) length prot flags fd offset) = (a, pages_in length)
changed_pages r (Memory number errno) = changed_by r number
changed_pages r other = (0, 0)

-- the first on SUCCESS, and else the second
abbrev pub on_success : {X : Type 0} → Errno → X → X → X
on_success Success done undone = done
on_success _ done undone = undone

-- the mapping goes somewhere
abbrev pub IsSomewhere : Place → Type 0
IsSomewhere (At a) = Unit {0}
IsSomewhere (place.Refused errno) = ⊥

-- the memory after the call of these registers, which was answered with SUCCESS, but for mem_map
abbrev pub memory_with : Pages → Registers → Call → Pages
memory_with m r (Memory number errno) = on_success errno (with_change m r number) m
memory_with m r other = m
