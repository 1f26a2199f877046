-- The threads that are signalled one after another.
use Rattle.std.specs.Prelude.{ℕ, zero, suc, Option, None}
use Rattle.kernel_model.specs.Families.Locks.{first_sleeper}
use Rattle.kernel_model.specs.State.{Threads}

-- the thread that is signalled next, where so many are to be
abbrev pub next_sleeper : ℕ → ℕ → Threads → Option ℕ
next_sleeper at zero threads = None
next_sleeper at (suc n) threads = first_sleeper at threads
