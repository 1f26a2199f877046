-- Readings that don't say what is wrong, and what a program answers of them.
use Rattle.std.specs.Prelude.{◌≡◌, Option, Some, None, Result, Ok, Err}
use Rattle.lists.specs.declared.stop.Stop.{Stop}
use Rattle.lists.specs.declared.stop.Stop.TheVariants.{At, Memory}

infixl 10 ◌>>=◌
abbrev pub ◌>>=◌ : {A B : Type 0} → Option A → (A → Option B) → Option B
None >>= f = None
(Some x) >>= f = f x

-- What a function returned, seen by view, is what reading gives, unless memory ran out.
abbrev pub IsStopOf : {F Y : Type 0} → Stop F → Option Y → Type 0
IsStopOf (At e) read = read ≡ None
IsStopOf Memory read = Unit {0}

abbrev pub Reads : {F X Y : Type 0} → (X → Y) → Result X (Stop F) → Option Y → Type 0
Reads view (Ok x) read = read ≡ Some (view x)
Reads view (Err e) read = IsStopOf e read
