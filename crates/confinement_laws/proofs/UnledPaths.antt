-- The paths that lead to what no grant leads to stay: all directories on them are such nodes too.
--     paths_stay      the same paths lead from the root to such a node, in the launch's tree and after a legal history
use Rattle.std.proofs.Common.{◌≡◌, ℕ, List, [], ◌∷◌, Some, None, refl, sym, ap, subst, ◌∙◌}
use Rattle.std.specs.FinMap.{get}
use Rattle.lists.specs.Options.{◌>>=◌}
use Rattle.run_types.specs.declared.history.Entry.{Entry}
use Rattle.run_types.specs.declared.launch.Launch.{Launch}
use Rattle.tree_document.specs.Building.{node_at}
use Rattle.tree_model.specs.Grants.{MayBegin}
use Rattle.tree_model.specs.Tree.{Tree, HasName, entry_of, names_in}
use Rattle.tree_model.specs.declared.limits.TheConstants.{ROOT}
use Rattle.tree_records.specs.Paths.{Path}
use Rattle.kernel_model.specs.State.{tree_of}
use Rattle.kernel_model.proofs.Tests.{none_is_no, same_some}
use Rattle.run_model.specs.Legal.{Legal}
use Rattle.run_model.specs.World.{world}
use Rattle.confinement_laws.specs.Leading.{Scope}
use Rattle.confinement_laws.specs.Untouched.{HasSamePaths}
use Rattle.confinement_laws.proofs.Leading.{kept_at}
use Rattle.confinement_laws.proofs.Unled.{Unled, start_kept, unled_is_stable}

module _ (scope : Scope) (launch : Launch) (t u : Tree)
    (leads : (d : ℕ) (name : List ℕ) (n : ℕ) → HasName t d name n → ¬ Unled scope launch d → ¬ Unled scope launch n)
    (same : (d : ℕ) → Unled scope launch d → get u.names d ≡ get t.names d) where
  -- a path to such a node begins at such a directory, and is one in the other tree too
  path_stays : (path : Path) (d n : ℕ) → node_at t d path ≡ Some n → Unled scope launch n → Unled scope launch d × (node_at u d path ≡ Some n)
  path_stays [] d n is unled = (subst (Unled scope launch) (sym (same_some d n is)) unled, is)
  path_stays (name ∷ more) d n is unled =
      elim (entry_of t d name) as (λ o. entry_of t d name ≡ o → (o >>= λ m. node_at t m more) ≡ Some n
      → Unled scope launch d × (node_at u d (name ∷ more) ≡ Some n)) [
        | None ↦ λ _ is. absurd (none_is_no n is)
        | Some m ↦ λ there is.
            (let rest = path_stays more m n is unled in
            let here : Unled scope launch d = unled_is_stable scope launch d (λ other. leads d name m there other rest.0) in (
              here,
              ap (λ o. o >>= λ m. node_at u m more) (ap (λ o. get (names_in o) name) (same d here) ∙ there) ∙ rest.1,
            ))
      ] refl is

-- the same paths lead to such a node in the launch's tree and after a legal history
pub paths_stay : (scope : Scope) (launch : Launch) (history : List Entry) → MayBegin launch.tree launch.grants → Legal launch history → (n : ℕ)
    → Unled scope launch n → HasSamePaths launch.tree (tree_of (world launch history).state) n
paths_stay scope launch history begins legal n unled path =
    let then = tree_of (world launch history).state in
    let before = start_kept scope launch begins in
    let after = kept_at scope launch begins history legal in (
      λ is. (path_stays scope launch launch.tree then before.leads after.names path ROOT n is unled).1,
      λ is. (path_stays scope launch then launch.tree after.leads (λ d here. sym (after.names d here)) path ROOT n is unled).1,
    )
