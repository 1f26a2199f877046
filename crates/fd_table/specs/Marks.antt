-- Numbers that are marked by one bit each.
--     mark_of words n      the bit of the number n
--     AreMarked words m      each number's bit is set exactly where it is a key of the table
--     IsKept m words      each key is one that a descriptor may have, and the words mark them
use Rattle.std.proofs.Common.{◌≡◌, ℕ, ◌/◌, ◌%◌, ◌<◌, cond, List, get_or, is_some}
use Rattle.std.specs.Int.{bit_at}
use Rattle.std.specs.FinMap.{get}
use Rattle.abi_base.specs.declared.limits.TheConstants.{MOST_DESCRIPTORS}
use Rattle.fd_table.specs.Table.{Table, IsTable}

-- the bit of a number, in words of 64 bits
abbrev pub mark_of : List ℕ → ℕ → ℕ
mark_of words n = bit_at (get_or words (n / 64) 0) (n % 64)

-- the bit of each number that a descriptor may have is set exactly where one has it
abbrev pub AreMarked : List ℕ → Table → Type 0
AreMarked words m = (n : ℕ) → n < MOST_DESCRIPTORS → mark_of words n ≡ cond (is_some (get m n)) 1 0

-- each number with a descriptor is one that a descriptor may have, and exactly these are marked
pub record IsKept (m : Table) (words : List ℕ) : Type 0 where
  pub table : IsTable m
  pub marked : AreMarked words m
