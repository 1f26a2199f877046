-- Numbers in a guest's memory, little-endian.
use Rattle.std.specs.Prelude.{ℕ, ◌+◌, ◌*◌, List, [], ◌∷◌, Result, Ok, Err}
use Rattle.guest_memory.specs.declared.access.Access.TheVariants.{Read, Exec}
use Rattle.guest_memory.specs.declared.fault.MemFault.{MemFault}
use Rattle.guest_memory.specs.Page.{Pages}
use Rattle.guest_memory.specs.Bytes.{bytes_from}
use Rattle.guest_memory.specs.Written.{write_of}
-- how many bytes a load or a store has, and the bytes of a number
pub use Rattle.page_table.specs.Numbers.{IsWidth, bytes_of}

-- the number of bytes, the lowest first
abbrev pub number_of : List ℕ → ℕ
number_of [] = 0
number_of (b ∷ bs) = b + 256 * number_of bs

abbrev pub number_in : Result (List ℕ) MemFault → Result ℕ MemFault
number_in (Ok bytes) = Ok (number_of bytes)
number_in (Err fault) = Err fault

-- the number of n bytes from an address on, or the fault of the first byte that has one
abbrev pub load_of : Pages → ℕ → ℕ → Result ℕ MemFault
load_of m a n = number_in (bytes_from Read m a n)

-- the memory after the n lowest bytes of a number were written, or the fault of the first byte that has one
abbrev pub store_of : Pages → ℕ → ℕ → ℕ → Result Pages MemFault
store_of m a n v = write_of m a (bytes_of n v)

-- the word of an instruction at an address, or the fault of the first byte that has one
abbrev pub fetch_of : Pages → ℕ → Result ℕ MemFault
fetch_of m a = number_in (bytes_from Exec m a 4)
