-- Items of lists.
use Rattle.std.proofs.Common.{List, [], ◌∷◌, ◌++◌, ap, subst}
use Rattle.std.specs.List.{AllByRecursion}
use Rattle.kernel_model.specs.Proper.{IsIn}

in_split : {X : Type 0} (P : X → Type 0) (x : X) (before after : List X) → AllByRecursion P (before ++ x ∷ after) → P x
in_split P x [] after all = all.0
in_split P x (first ∷ before) after all = in_split P x before after all.1

-- what holds of each item holds of one
pub in_all : {X : Type 0} (P : X → Type 0) (x : X) (xs : List X) → AllByRecursion P xs → IsIn x xs → P x
in_all P x xs all here = in_split P x here.0 here.1 (subst (AllByRecursion P) here.2 all)

-- what holds of each item, where another follows from it
pub all_weaker : {X : Type 0} (P Q : X → Type 0) → ((x : X) → P x → Q x) → (xs : List X) → AllByRecursion P xs → AllByRecursion Q xs
all_weaker P Q weaker [] all = tt
all_weaker P Q weaker (x ∷ xs) all = (weaker x all.0, all_weaker P Q weaker xs all.1)

pub in_more : {X : Type 0} (x first : X) (xs : List X) → IsIn x xs → IsIn x (first ∷ xs)
in_more x first xs here = (first ∷ here.0, here.1, ap (λ more. first ∷ more) here.2)
