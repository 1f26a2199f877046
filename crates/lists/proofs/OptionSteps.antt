-- One step of reading after another, where faults aren't reported.
use Rattle.std.proofs.Common.{◌≡◌, Option, Some, None, refl}
use Rattle.lists.specs.declared.stop.Stop.{Stop}
use Rattle.lists.specs.declared.stop.Stop.TheVariants.{At, Memory}
use Rattle.lists.specs.Options.{◌>>=◌, IsStopOf}

-- a step that did not fail
pub bind_some : {A B : Type 0} (r : Option A) (f : A → Option B) (y : B) → (r >>= f) ≡ Some y → (x : A) × (r ≡ Some x) × (f x ≡ Some y)
bind_some (Some x) f y e = (x, refl, e)
bind_some None f y e = absurd cc

-- steps that go on alike
pub bind_alike : {A B : Type 0} (r : Option A) (f g : A → Option B) → ((x : A) → r ≡ Some x → f x ≡ g x) → (r >>= f) ≡ (r >>= g)
bind_alike None f g h = refl
bind_alike (Some x) f g h = h x refl

-- what stops a part stops the whole
pub stopped : {F X Y : Type 0} (e : Stop F) (read : Option X) (all : Option Y) → (read ≡ None → all ≡ None) → IsStopOf e read → IsStopOf e all
stopped Memory read all h r = tt
stopped (At f) read all h r = h r
