-- Beginnings of one list.
use Rattle.std.proofs.Common.{List, [], ◌∷◌, ◌++◌, refl, sym, ap, ◌∙◌, append_assoc}
use Rattle.std.proofs.lemmas.List.{append-nil}
use mathlib.Core.List.{IsPrefix}

-- each list begins with itself
pub prefix_self : {A : Type 0} (xs : List A) → IsPrefix xs xs
prefix_self xs = ([], append-nil xs)

pub prefix_trans : {A : Type 0} (xs ys zs : List A) → IsPrefix xs ys → IsPrefix ys zs → IsPrefix xs zs
prefix_trans xs ys zs p q = (p.0 ++ q.0, sym (append_assoc xs p.0 q.0) ∙ (ap (λ w. w ++ q.0) p.1 ∙ q.1))

-- a beginning of a list begins a longer one
pub prefix_more : {A : Type 0} (xs ys : List A) (y : A) → IsPrefix xs ys → IsPrefix xs (ys ++ y ∷ [])
prefix_more xs ys y p = prefix_trans xs ys (ys ++ y ∷ []) p (y ∷ [], refl)
