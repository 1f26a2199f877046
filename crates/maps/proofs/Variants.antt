-- What holds of the value of a variant, weakened.
use Rattle.std.proofs.Common.{Option, Some, None, IfSome, IsSome}
use Rattle.std.specs.Borrow.{MutBor}
use Rattle.std.specs.Option.{option_copied_mut}

pub IfSome-weaker : {X : Type 0} (r : Option X) (P Q : X → Type 0) → ((x : X) → P x → Q x) → IfSome r P → IfSome r Q
IfSome-weaker None P Q f h = tt
IfSome-weaker (Some x) P Q f h = f x h

-- the same from two facts
pub IfSome-both : {X : Type 0} (r : Option X) (P Q R : X → Type 0) → ((x : X) → P x → Q x → R x) → IfSome r P → IfSome r Q → IfSome r R
IfSome-both None P Q R f h i = tt
IfSome-both (Some x) P Q R f h i = f x h i

pub IsSome-from_copied : {X : Type 0} (r : Option (MutBor X)) → IsSome (option_copied_mut r) → IsSome r
IsSome-from_copied None h = h
IsSome-from_copied (Some x) h = h
