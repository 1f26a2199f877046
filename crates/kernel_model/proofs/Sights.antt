-- A call reads nothing outside its sight: seen by its sight alone, a state gives the same outcome as seen whole.
use Rattle.std.proofs.Common.{◌≡◌, ℕ, ◌==◌, ◌||◌, Bool, List, [], ◌∷◌, ◌++◌, Option, Some, None, refl, ap, ◌∙◌}
use Rattle.std.proofs.lemmas.Bool.{eq-eqb}
use Rattle.std.specs.FinMap.{get}
use Rattle.abi_types.specs.declared.descriptor.Descriptor.{Descriptor}
use Rattle.kernel_model.specs.Sight.{process_parts, behind, reached_by, reached}
use Rattle.kernel_model.specs.State.{State, Table, at_open, has_part}
use Rattle.kernel_model.specs.Step.{tick}
use Rattle.kernel_model.specs.View.{only, restrict}

-- the value of a part that is the first of those seen
pub first_seen : {X : Type 0} (n : ℕ) (rest : Bool) (x : Option X) → only ((n == n) || rest) x ≡ x
first_seen n rest x = ap (λ b. only (b || rest) x) (eq-eqb n n refl)

-- an open that is seen
pub open_seen : (S : State) (p : ℕ) (d : Descriptor)
    → (restrict S (process_parts p ++ (reached_by S (Some d) ++ []))).opened d.id ≡ get S.opens d.id
open_seen S p d = first_seen d.id (has_part (behind S (get S.opens d.id) ++ []) (at_open d.id)) (get S.opens d.id)

-- what descriptors reach does not depend on the clock
reached_by_ticked : (S : State) (d : Option Descriptor) → reached_by (tick S) d ≡ reached_by S d
reached_by_ticked S None = refl
reached_by_ticked S (Some d) = refl

pub reached_ticked : (S : State) (table : Table) (fds : List ℕ) → reached (tick S) table fds ≡ reached S table fds
reached_ticked S table [] = refl
reached_ticked S table (fd ∷ fds) =
    ap (λ parts. parts ++ reached (tick S) table fds) (reached_by_ticked S (get table fd))
    ∙ ap (λ parts. reached_by S (get table fd) ++ parts) (reached_ticked S table fds)
