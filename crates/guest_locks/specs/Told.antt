-- The threads that are told of: those that were given a lock or signalled, so that they are to be looked at again.
use Rattle.std.specs.Prelude.{◌≡◌, ℕ, ◌||◌, Bool, false, List}
use Rattle.std.specs.FinMap.{get}
use Rattle.maps.specs.Closure.{member}
use Rattle.kernel_model.specs.State.{Threads}

-- those with these numbers, or all
pub record Told : Type 0 where
  pub numbers : List ℕ
  pub all : Bool

-- whether thread t is told of
abbrev pub has : ℕ → Told → Bool
has t told = told.all || member t told.numbers

-- Each thread that changed is told of, and each that was told of before. A thread that isn't told of is as it was.
pub record TellsOf (before after : Threads) (old new : Told) : Type 0 where
  pub tells : (t : ℕ) → has t new ≡ false → (get after t ≡ get before t) × (has t old ≡ false)
