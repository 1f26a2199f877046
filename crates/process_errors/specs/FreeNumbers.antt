-- Numbers that a descriptor may have, which are those below 1024, and those of them that are free.
use Rattle.std.specs.Prelude.{◌≡◌, ◌≢◌, ℕ, zero, suc, ◌+◌, ◌<◌, ◌≤◌, Option, None, Some, IsSome}
use Rattle.std.specs.FinMap.{get}
use Rattle.abi_types.specs.declared.descriptor.Descriptor.{Descriptor}
use Rattle.kernel_model.specs.State.{Table}

-- each of the 1024 numbers has a descriptor
abbrev pub AreAllTaken : Table → Type 0
AreAllTaken table = (m : ℕ) → m < 1024 → IsSome (get table m)

-- and each but one has, whether that has one or not
abbrev pub AreTakenBut : ℕ → Table → Type 0
AreTakenBut n table = (m : ℕ) → m < 1024 → m ≢ n → IsSome (get table m)

-- the lowest of the 1024 numbers, from this one on, that has no descriptor
pub record IsFirstFree (table : Table) (from number : ℕ) : Type 0 where
  pub behind : from ≤ number
  pub most : number < 1024
  pub free : get table number ≡ None
  pub first : (m : ℕ) → from ≤ m → m < number → IsSome (get table m)

-- 1 where there is no descriptor
abbrev pub one_where : Option Descriptor → ℕ
one_where None = 1
one_where (Some d) = 0

-- how many of the n numbers from k on have no descriptor
unfoldable pub free_within : Table → ℕ → ℕ → ℕ
free_within table zero k = 0
free_within table (suc n) k = one_where (get table k) + free_within table n (k + 1)
