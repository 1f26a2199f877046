-- The words of locks: who has a lock by its word.
use Rattle.std.specs.Prelude.{ℕ, ◌-◌, ◌%◌, ◌^◌, ◌==◌, nat_lt, if◌then◌else◌}

-- who has a lock: nobody, the thread of this number to write, or so many threads to read
pub data Holding : Type 0 where
  unheld : Holding
  written_by : ℕ → Holding
  read_by : ℕ → Holding

-- Who has the lock with a word of these low 31 bits: where they are 0 nobody has it; where the highest of them is set, the thread has it
-- to write whose number the others are; and else they count the threads that have it to read.
abbrev pub holding_of_low : ℕ → Holding
holding_of_low low = if low == 0 then unheld else if nat_lt low (2 ^ 30) then read_by low else written_by (low - 2 ^ 30)

-- who has the lock with this word; bit 31 says nothing of that
abbrev pub holding_of : ℕ → Holding
holding_of word = holding_of_low (word % 2 ^ 31)
