-- A guest's memory after bytes of it were written.
use Rattle.std.specs.Prelude.{◌≡◌, ◌≢◌, ℕ, ◌+◌, ◌/◌, ◌%◌, ◌^◌, ◌<◌, true, false, List, [], ◌∷◌, length, slice_index, slice_set, Option, Some, None, Result, Ok, Err}
use Rattle.std.specs.FinMap.{get, insert}
use Rattle.abi_base.specs.declared.address_space.TheConstants.{PAGE_SIZE}
use Rattle.guest_memory.specs.declared.access.Access.{Access}
use Rattle.guest_memory.specs.declared.access.Access.TheVariants.{Write}
use Rattle.guest_memory.specs.declared.fault.MemFault.{MemFault}
use Rattle.guest_memory.specs.Page.{Page, Pages}
use Rattle.guest_memory.specs.Limits.{KeepsLimits}
use Rattle.guest_memory.specs.Bytes.{byte_at, bytes_from}

-- the page with the byte at one of its places set
abbrev pub with_byte : Page → ℕ → ℕ → Page
with_byte p place b = record p { bytes = slice_set p.bytes place b }

-- the memory with the byte at an address a set, given the page there, if there is one
abbrev pub set_byte_in : Pages → ℕ → ℕ → Option Page → Pages
set_byte_in m a b None = m
set_byte_in m a b (Some p) = insert m (a / PAGE_SIZE) (with_byte p (a % PAGE_SIZE) b)

-- the memory with the byte at an address set
abbrev pub set_byte : Pages → ℕ → ℕ → Pages
set_byte m a b = set_byte_in m a b (get m (a / PAGE_SIZE))

-- the memory with bytes set from an address on, modulo 2^64
unfoldable pub set_bytes : Pages → ℕ → List ℕ → Pages
set_bytes m a [] = m
set_bytes m a (b ∷ bs) = set_bytes (set_byte m a b) ((a + 1) % 2 ^ 64) bs

-- the memory with bytes written, where the bytes that were there may be written
abbrev pub written_over : Pages → ℕ → List ℕ → Result (List ℕ) MemFault → Result Pages MemFault
written_over m a bytes (Ok before) = Ok (set_bytes m a bytes)
written_over m a bytes (Err fault) = Err fault

-- the memory after bytes were written from an address on, or the fault of the first byte that has one
abbrev pub write_of : Pages → ℕ → List ℕ → Result Pages MemFault
write_of m a bytes = written_over m a bytes (bytes_from Write m a (length bytes))

-- every page that may not be written is the same in the second memory
abbrev pub KeepsUnwritable : Pages → Pages → Type 0
KeepsUnwritable m n = (number : ℕ) (p : Page) → get m number ≡ Some p → p.prot.write ≡ false → get n number ≡ Some p

-- every page that may be executed, but not written, is the same in the second memory
abbrev pub KeepsCode : Pages → Pages → Type 0
KeepsCode m n =
    (number : ℕ) (p : Page) → get m number ≡ Some p → p.prot.write ≡ false → p.prot.exec ≡ true → get n number ≡ Some p

-- What the second memory has at each address, for each access, after bytes were written to the first from an address a
-- on: where a byte was written, that byte, if the access is allowed there; where the access was refused, the same fault;
-- and at all other addresses what was there before.
pub record AreWritten (m : Pages) (a : ℕ) (bytes : List ℕ) (n : Pages) : Type 0 where
  pub written : (access : Access) (k before : ℕ) → k < length bytes → byte_at access m ((a + k) % 2 ^ 64) ≡ Ok before → byte_at access n ((a + k) % 2 ^ 64) ≡ Ok (slice_index bytes k)
  pub refused : (access : Access) (c : ℕ) (fault : MemFault) → byte_at access m c ≡ Err fault → byte_at access n c ≡ Err fault
  pub others : (access : Access) (c : ℕ) → c < 2 ^ 64 → ((k : ℕ) → k < length bytes → (a + k) % 2 ^ 64 ≢ c) → byte_at access n c ≡ byte_at access m c

-- `write_of` writes each byte at its address, and nothing else
abbrev pub WrittenAreEach : Type 0
WrittenAreEach = (m n : Pages) (a : ℕ) (bytes : List ℕ) → KeepsLimits m → a < 2 ^ 64 → length bytes < 2 ^ 64 → write_of m a bytes ≡ Ok n → AreWritten m a bytes n
