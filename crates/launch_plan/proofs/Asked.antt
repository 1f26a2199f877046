-- What is asked for is there.
use Rattle.std.proofs.Common.{◌≡◌, ℕ, Bool, true, false, List, [], ◌∷◌, if◌then◌else◌, nat_eq, codes, Some, None, Result, Ok, Err, refl, subst, arith}
use Rattle.std.specs.Prelude.{IfOk}
use Rattle.std.specs.List.{AllByRecursion}
use lib.Pointwise.{pointwise}
use Rattle.abi_base.specs.declared.grant.Grant.{Grant}
use Rattle.tree_model.specs.Grants.{IsGrant}
use Rattle.tree_model.specs.Tree.{Tree}
use Rattle.launch_plan.specs.declared.fault.PlanFault.{PlanFault}
use Rattle.launch_plan.specs.declared.fault.PlanFault.TheVariants as faults
use Rattle.lists.specs.Results.{◌>>=◌}
use Rattle.launch_plan.specs.Files.{file_grant}
use Rattle.launch_plan.specs.Tagged.{Tagged, is_text, stream_or_fault, grant_of, grants_of}
use Rattle.launch_plan.proofs.FileGrants.{file_is}

module _ (tree : Tree) where
  of_tests : (line : ℕ) (a b c : Bool) → IfOk (stream_or_fault line (if a then Some 0 else if b then Some 1 else if c then Some 2 else None)) (IsGrant tree)
  of_tests line true b c = (omega arith, refl, refl)
  of_tests line false true c = (omega arith, refl, refl)
  of_tests line false false true = (omega arith, refl, refl)
  of_tests line false false false = tt

  chosen : (a b : Bool) (r s t : Result Grant PlanFault) → IfOk r (IsGrant tree) → IfOk s (IsGrant tree) → IfOk t (IsGrant tree)
      → IfOk (if a then r else if b then s else t) (IsGrant tree)
  chosen true b r s t x y z = x
  chosen false true r s t x y z = y
  chosen false false r s t x y z = z

  one_is : (t : Tagged) → IfOk (grant_of tree t) (IsGrant tree)
  one_is t =
      chosen (pointwise nat_eq t.name (codes "fd")) (pointwise nat_eq t.name (codes "file")) _ (file_grant tree t.line t.value) (Err (faults.UnknownTag t.line))
      (of_tests t.line (is_text (codes "stdin") t.value) (is_text (codes "stdout") t.value) (is_text (codes "stderr") t.value)) (file_is tree t.line t.value) tt

  both : (r : Result Grant PlanFault) (rest : Result (List Grant) PlanFault) → IfOk r (IsGrant tree) → IfOk rest (AllByRecursion (IsGrant tree))
      → IfOk (r >>= λ grant. rest >>= λ grants. Ok (grant ∷ grants)) (AllByRecursion (IsGrant tree))
  both (Err e) rest one others = tt
  both (Ok grant) (Err e) one others = tt
  both (Ok grant) (Ok grants) one others = (one, others)

  all_are : (ts : List Tagged) → IfOk (grants_of tree ts) (AllByRecursion (IsGrant tree))
  all_are [] = tt
  all_are (t ∷ ts) = both (grant_of tree t) (grants_of tree ts) (one_is t) (all_are ts)

  pub asked_are : (ts : List Tagged) (grants : List Grant) → grants_of tree ts ≡ Ok grants → AllByRecursion (IsGrant tree) grants
  asked_are ts grants e = subst (λ (r : Result (List Grant) PlanFault). IfOk r (AllByRecursion (IsGrant tree))) e (all_are ts)
