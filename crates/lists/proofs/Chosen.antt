-- Which way a test went, and what results say.
use Rattle.std.proofs.Common.{◌≡◌, ◌⊎◌, inl, inr, Bool, true, false, if◌then◌else◌, Option, Some, None, Result, Ok, Err, refl}

pub chosen : {A : Type 0} (b : Bool) (x y z : A) → (if b then x else y) ≡ z → ((b ≡ true) × (x ≡ z)) ⊎ ((b ≡ false) × (y ≡ z))
chosen true x y z e = inl (refl, e)
chosen false x y z e = inr (refl, e)

abbrev some : {A : Type 0} → A → Option A
some x = Some x

pub some_is : {A : Type 0} (x y : A) → some x ≡ some y → x ≡ y
some_is x y e = cc

pub none_some : {A : Type 0} (x : A) → None ≡ some x → ⊥
none_some x e = cc

abbrev ok : {A E : Type 0} → A → Result A E
ok x = Ok x

pub ok_is : {A E : Type 0} (x y : A) → ok {A = A} {E = E} x ≡ Ok y → x ≡ y
ok_is x y e = cc

pub err_ok : {A E : Type 0} (e : E) (x : A) → Err e ≡ ok {A = A} {E = E} x → ⊥
err_ok e x h = cc
