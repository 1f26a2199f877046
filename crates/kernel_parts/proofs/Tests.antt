-- Options that are there, and are not.
use Rattle.std.proofs.Common.{◌≡◌, Option, None, Some, IsSome}

-- nothing is both there and not there
pub not_absent : {X : Type 0} (o : Option X) → IsSome o → o ≡ None → ⊥
not_absent None there none = cc
not_absent (Some x) there none = cc
