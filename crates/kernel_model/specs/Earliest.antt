-- The earliest of the moments that the values of a map have.
use Rattle.std.specs.Prelude.{◌≡◌, ℕ, ◌≤◌, nat_lt, not, Bool, false, Option, None, Some, is_some}
use Rattle.std.specs.Ordering.{nat_cmp}
use Rattle.std.specs.FinMap.{FinMap, get}
use Rattle.maps.specs.Maps.{least_key}

-- the moment that f gives of a value, where there is a value
abbrev pub moment_of_value : {X : Type 0} → (X → Option ℕ) → Option X → Option ℕ
moment_of_value f None = None
moment_of_value f (Some x) = f x

-- whether there is a moment here, and it is before that one
abbrev pub is_before : ℕ → Option ℕ → Bool
is_before moment None = false
is_before moment (Some other) = nat_lt other moment

-- whether there is a moment here, and f gives none before it of any value of the map
abbrev pub is_first : {X : Type 0} → (X → Option ℕ) → FinMap nat_cmp X → Option ℕ → Bool
is_first f m None = false
is_first f m (Some moment) = not (is_some (least_key (λ k x. is_before moment (f x)) m))

-- what f gives of the value at a key, where there is a key
abbrev pub moment_at : {X : Type 0} → (X → Option ℕ) → FinMap nat_cmp X → Option ℕ → Option ℕ
moment_at f m None = None
moment_at f m (Some k) = moment_of_value f (get m k)

-- the moment that f gives of one of the map's values, where it gives none before it of any
unfoldable pub earliest : {X : Type 0} → (X → Option ℕ) → FinMap nat_cmp X → Option ℕ
earliest f m = moment_at f m (least_key (λ k x. is_first f m (f x)) m)

-- The moment is the earliest: f gives it of some value, and none before it of any. There is none where f gives none of any value.
abbrev pub IsEarliest : {X : Type 0} → (X → Option ℕ) → FinMap nat_cmp X → Option ℕ → Type 0
IsEarliest {X} f m None = (k : ℕ) (x : X) → get m k ≡ Some x → f x ≡ None
IsEarliest {X} f m (Some moment) =
    ((k : ℕ) × (x : X) × (get m k ≡ Some x) × (f x ≡ Some moment))
    × ((k : ℕ) (x : X) (other : ℕ) → get m k ≡ Some x → f x ≡ Some other → moment ≤ other)
