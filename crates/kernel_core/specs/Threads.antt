-- The threads of a process.
use Rattle.std.specs.Prelude.{◌≡◌, ℕ, Bool, true, Option, None, Some}
use Rattle.std.specs.FinMap.{get}
use Rattle.kernel_model.specs.Families.Locks.{release_of, released_word, unlocked_own}
use Rattle.kernel_model.specs.Families.ProcessCalls.{is_last_thread}
use Rattle.kernel_model.specs.State.{State, ProcessState, put_one, set_process}

-- whether the process, if it was ever made, has no thread but this one
abbrev pub is_last_in : ℕ → Option ProcessState → Bool
is_last_in t None = true
is_last_in t (Some own) = is_last_thread t own

-- the thread t of process p has let go of the lock with this word, as far as it may: the word became this, and the process is left so
abbrev pub IsReleasedBy : ℕ → ℕ → ℕ → ℕ → State → Option ℕ → State → Type 0
IsReleasedBy p t lock word S left T =
    (own : ProcessState) → get S.processes p ≡ Some own
    → (left ≡ released_word (release_of t word) lock own.threads) × (T ≡ put_one (set_process p (unlocked_own lock word t own)) S)
