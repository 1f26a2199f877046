-- The bytes of a path, as names.
use Rattle.std.proofs.Common.{◌≡◌, ℕ, ◌<◌, List, [], ◌∷◌, length, Option, refl, ap, ◌∙◌, arith}
use Rattle.std.specs.List.{AllByRecursion}
use Rattle.tree_model.specs.declared.limits.TheConstants.{ROOT}
use Rattle.tree_model.specs.Tree.{Tree}
use Rattle.tree_records.specs.Paths.{Path, IsName, IsPath, parent, path_bytes}
use Rattle.tree_records.specs.Reading.{names_in}
use Rattle.tree_records.proofs.PathLaws.{names_in-path, names_in-path_bytes, slashless}
use Rattle.tree_document.specs.Building.{node_at}
use Rattle.tree_document.specs.Views.{path_in}

parent_names : (p : Path) → AllByRecursion IsName p → AllByRecursion IsName (parent p)
parent_names [] h = tt
parent_names (name ∷ []) h = tt
parent_names (name ∷ next ∷ more) h = (h.0, parent_names (next ∷ more) h.1)

pub some_bytes : (bytes : List ℕ) → 0 < length bytes → path_in bytes ≡ names_in bytes
some_bytes [] h = absurd (omega arith)
some_bytes (b ∷ bs) h = refl

pub named_bytes : (name : List ℕ) (more : Path) → 0 < length name → 0 < length (path_bytes (name ∷ more))
named_bytes [] more h = absurd (omega arith)
named_bytes (b ∷ bs) [] h = omega arith
named_bytes (b ∷ bs) (next ∷ more) h = omega arith

path_in-path_bytes : (p : Path) → AllByRecursion IsName p → path_in (path_bytes p) ≡ p
path_in-path_bytes [] h = refl
path_in-path_bytes (name ∷ more) h =
    some_bytes (path_bytes (name ∷ more)) (named_bytes name more h.0.some)
    ∙ names_in-path_bytes (name ∷ more) (omega arith) (slashless (name ∷ more) h)

-- the bytes of the path above a path are its names
pub parent_in : (p : Path) → IsPath p → path_in (path_bytes (parent p)) ≡ parent p
parent_in p h = path_in-path_bytes (parent p) (parent_names p h.names)

-- where names lead from the root
pub path_leads : (t : Tree) (p : Path) (bytes : List ℕ) (o : Option ℕ) → IsPath p → bytes ≡ path_bytes p → o ≡ node_at t ROOT (names_in bytes)
    → o ≡ node_at t ROOT p
path_leads t p bytes o h same is = is ∙ ap (λ (bs : List ℕ). node_at t ROOT (names_in bs)) same ∙ ap (node_at t ROOT) (names_in-path p h)

pub parent_leads : (t : Tree) (p : Path) (bytes : List ℕ) (o : Option ℕ) → IsPath p → bytes ≡ path_bytes (parent p) → o ≡ node_at t ROOT (path_in bytes)
    → o ≡ node_at t ROOT (parent p)
parent_leads t p bytes o h same is = is ∙ ap (λ (bs : List ℕ). node_at t ROOT (path_in bs)) same ∙ ap (node_at t ROOT) (parent_in p h)
