-- How many threads run: the statement that is the contract of `runners_are_counted`.
use Rattle.std.specs.Prelude.{◌≡◌, ◌↔◌, ℕ, ◌+◌, Some}
use Rattle.std.specs.FinMap.{get}
use Rattle.abi_types.specs.declared.thread.Thread.{Thread}
use Rattle.abi_types.specs.declared.thread.Thread.TheVariants.{Runnable, Waits}
use Rattle.maps.specs.Maps.{total, weight}
use Rattle.kernel_model.specs.State.{ProcessState, State, drop_own, put_one, set_process, thread_of}
use Rattle.kernel_model.specs.Waits.{IsParked, with_thread}
use Rattle.kernel_model.specs.Wakes.{HasThread}

-- 1 where the thread runs, else 0
abbrev pub runs : Thread → ℕ
runs Runnable = 1
runs (Waits call since until stage) = 0

-- how many threads of a process run, and how many of all
abbrev pub running_in : ProcessState → ℕ
running_in own = total runs own.threads

abbrev pub running : State → ℕ
running S = total running_in S.processes

-- Each thread waits exactly where none runs. The count goes with each thread that begins to run or to wait, and with what a process has of its own.
pub record RunnersAreCounted : Type 0 where
  pub none : (S : State) → (running S ≡ 0) ↔ ((p t : ℕ) (thread : Thread) → HasThread S p t thread → IsParked thread)
  pub threads : (S : State) (p t : ℕ) (before after : Thread) → thread_of S p t ≡ Some before
      → running (with_thread S p t after) + runs before ≡ running S + runs after
  pub processes : (S : State) (p : ℕ) (own : ProcessState)
      → running (put_one (set_process p own) S) + weight running_in (get S.processes p) ≡ running S + running_in own
  pub gone : (S : State) (p : ℕ) → running (put_one (drop_own p) S) + weight running_in (get S.processes p) ≡ running S
