-- The bytes of a guest's memory, and what refuses them.
use Rattle.std.specs.Prelude.{◌≡◌, ◌<◌, ℕ, zero, suc, ◌+◌, ◌/◌, ◌%◌, ◌^◌, if◌then◌else◌, List, [], ◌∷◌, drop, length, slice_index, Option, Some, None, Result, Ok, Err, IsOk, MatchResult}
use Rattle.std.specs.FinMap.{get}
use Rattle.abi_base.specs.declared.address_space.TheConstants.{PAGE_SIZE}
use Rattle.guest_memory.specs.declared.access.Access.{Access}
use Rattle.guest_memory.specs.declared.access.Access.TheVariants.{Read}
use Rattle.guest_memory.specs.declared.fault.MemFault.{MemFault}
use Rattle.guest_memory.specs.declared.fault.MemFault.TheVariants.{NotMapped, NoRight}
use Rattle.guest_memory.specs.Access.{allows}
use Rattle.guest_memory.specs.Page.{Page, Pages}

-- the byte at an address a, given the page there, if there is one
abbrev pub byte_in : Access → ℕ → Option Page → Result ℕ MemFault
byte_in access a None = Err (NotMapped a)
byte_in access a (Some p) = if allows p.prot access then Ok (slice_index p.bytes (a % PAGE_SIZE)) else Err (NoRight a)

-- the byte at an address
abbrev pub byte_at : Access → Pages → ℕ → Result ℕ MemFault
byte_at access m a = byte_in access a (get m (a / PAGE_SIZE))

-- a byte and the bytes after it, or the first fault of the two
abbrev pub in_front : Result ℕ MemFault → Result (List ℕ) MemFault → Result (List ℕ) MemFault
in_front (Ok b) (Ok bs) = Ok (b ∷ bs)
in_front (Ok b) (Err fault) = Err fault
in_front (Err fault) _ = Err fault

-- n bytes from an address on, modulo 2^64, or the fault of the first byte that has one
unfoldable pub bytes_from : Access → Pages → ℕ → ℕ → Result (List ℕ) MemFault
bytes_from access m a zero = Ok []
bytes_from access m a (suc n) = in_front (byte_at access m a) (bytes_from access m ((a + 1) % 2 ^ 64) n)

-- n bytes that a program may read, from an address on
abbrev pub bytes_at : Pages → ℕ → ℕ → Result (List ℕ) MemFault
bytes_at m a n = bytes_from Read m a n

-- n bytes from an address on can be had one by one, and are these
pub record AreBytes (access : Access) (m : Pages) (a n : ℕ) (bytes : List ℕ) : Type 0 where
  pub count : length bytes ≡ n
  pub each : (k : ℕ) → k < n → byte_at access m ((a + k) % 2 ^ 64) ≡ Ok (slice_index bytes k)

-- of n bytes from an address on, the first that can't be had has this fault
pub record IsFirstFault (access : Access) (m : Pages) (a n : ℕ) (fault : MemFault) : Type 0 where
  pub place : ℕ
  pub within : place < n
  pub before : (k : ℕ) → k < place → IsOk (byte_at access m ((a + k) % 2 ^ 64))
  pub there : byte_at access m ((a + place) % 2 ^ 64) ≡ Err fault

-- `bytes_from` gives the bytes one by one, or the fault of the first that has one
abbrev pub BytesAreEach : Type 0
BytesAreEach = (access : Access) (m : Pages) (a n : ℕ) → a < 2 ^ 64 → MatchResult (bytes_from access m a n) (AreBytes access m a n) (IsFirstFault access m a n)

-- what is left of a page from an address a in it, given the page, if there is one
abbrev pub run_in : Access → ℕ → Option Page → Result (List ℕ) MemFault
run_in access a None = Err (NotMapped a)
run_in access a (Some p) = if allows p.prot access then Ok (drop (a % PAGE_SIZE) p.bytes) else Err (NoRight a)

-- the bytes from an address to its page's end
abbrev pub run_at : Access → Pages → ℕ → Result (List ℕ) MemFault
run_at access m a = run_in access a (get m (a / PAGE_SIZE))
