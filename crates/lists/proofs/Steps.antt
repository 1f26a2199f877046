-- One step of reading after another, whatever the faults are.
use Rattle.std.proofs.Common.{◌≡◌, Bool, true, false, if◌then◌else◌, List, [], ◌∷◌, ◌++◌, map, Result, Ok, Err, refl, ap, ◌∙◌}
use Rattle.std.proofs.lemmas.List.{map-append}
use Rattle.std.specs.Prelude.{IfOk}
use Rattle.lists.specs.declared.stop.Stop.{Stop}
use Rattle.lists.specs.declared.stop.Stop.TheVariants.{At, Memory}
use Rattle.lists.specs.Results.{◌>>=◌, IsStopOf}

-- a step that did not fail
pub bind_ok : {F A B : Type 0} (r : Result A F) (f : A → Result B F) (y : B) → (r >>= f) ≡ Ok y → (x : A) × (r ≡ Ok x) × (f x ≡ Ok y)
bind_ok (Ok x) f y e = (x, refl, e)
bind_ok (Err fault) f y e = absurd cc

-- steps that go on alike
pub bind_alike : {F A B : Type 0} (r : Result A F) (f g : A → Result B F) → ((x : A) → f x ≡ g x) → (r >>= f) ≡ (r >>= g)
bind_alike (Err e) f g h = refl
bind_alike (Ok x) f g h = h x

-- what stops a part stops the whole
pub stopped : {F X Y : Type 0} (e : Stop F) (read : Result X F) (all : Result Y F) → ((f : F) → read ≡ Err f → all ≡ Err f) → IsStopOf e read → IsStopOf e all
stopped Memory read all h r = tt
stopped (At f) read all h r = h f r

-- ---- what holds of a value that is read

pub on_both : {F A : Type 0} (P : A → Type 0) (test : Bool) (r s : Result A F) → IfOk r P → IfOk s P → IfOk (if test then r else s) P
on_both P true r s h k = h
on_both P false r s h k = k

pub on_bind : {F A B : Type 0} (P : A → Type 0) (Q : B → Type 0) (r : Result A F) (f : A → Result B F)
    → IfOk r P → ((x : A) → P x → IfOk (f x) Q) → IfOk (r >>= f) Q
on_bind P Q (Ok x) f h k = k x h
on_bind P Q (Err e) f h k = tt

-- nothing is asked of what comes first
pub on_any : {F A B : Type 0} (Q : B → Type 0) (r : Result A F) (f : A → Result B F) → ((x : A) → IfOk (f x) Q) → IfOk (r >>= f) Q
on_any Q (Ok x) f k = k x
on_any Q (Err e) f k = tt

-- ---- a loop pushes what it read

pub map_push : {A B : Type 0} (f : A → B) (new old : List A) (x : A) → new ≡ old ++ x ∷ [] → map f new ≡ map f old ++ f x ∷ []
map_push f new old x h = ap (map f) h ∙ map-append f old (x ∷ [])
