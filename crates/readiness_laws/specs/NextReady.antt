-- The next thread that is ready, in the order of processes and then of their threads.
--     ComesBehind after p t      the thread t of process p comes behind the one named, or none is named
--     IsNextReady constants S after result      the result is the first ready thread behind that one; none where none there is ready
--     thread_at k      the thread that has its entry under this number
use Rattle.std.specs.Prelude.{◌≡◌, ⊤, ◌⊎◌, ℕ, ◌/◌, ◌%◌, ◌^◌, ◌<◌, true, false, Option, None, Some}
use Rattle.abi_types.specs.declared.constants.Constants.{Constants}
use Rattle.kernel_model.specs.State.{State}
use Rattle.kernel_model.specs.Wakes.{is_ready}

-- the number of a process, and that of one of its threads
abbrev pub ThreadName : Type 0
ThreadName = ℕ × ℕ

abbrev pub thread_at : ℕ → ThreadName
thread_at k = (k / 2 ^ 32, k % 2 ^ 32)

abbrev pub ComesBehind : Option ThreadName → ℕ → ℕ → Type 0
ComesBehind None p t = ⊤
ComesBehind (Some other) p t = (other.0 < p) ⊎ ((other.0 ≡ p) × (other.1 < t))

-- it is the thread, or one behind it
abbrev pub IsOrBehind : ThreadName → ℕ → ℕ → Type 0
IsOrBehind thread p t = ((thread.0 ≡ p) × (thread.1 ≡ t)) ⊎ ComesBehind (Some thread) p t

abbrev pub IsNextReady : Constants → State → Option ThreadName → Option ThreadName → Type 0
IsNextReady constants S after None = (p t : ℕ) → ComesBehind after p t → is_ready constants S p t ≡ false
IsNextReady constants S after (Some thread) =
    ComesBehind after thread.0 thread.1 × (is_ready constants S thread.0 thread.1 ≡ true)
    × ((p t : ℕ) → ComesBehind after p t → is_ready constants S p t ≡ true → IsOrBehind thread p t)
