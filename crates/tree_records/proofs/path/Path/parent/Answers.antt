use Rattle.std.proofs.Common.{List, ℕ, take, ap, ◌∙◌}
use Rattle.tree_records.specs.Paths.{Path, parent, path_bytes}
use Rattle.tree_records.specs.Reading.{names_in}
use Rattle.tree_records.proofs.PathLaws.{front_names}
use Rattle.tree_records.proofs.path.Path.parent.Goals as goal

pub returns-clause-bytes : goal.returns-clause-bytes
returns-clause-bytes c =
    let bytes = c.as_slice-bytes.result.now in
    ap (λ (n : ℕ). take n bytes) c.saturating_sub.ensures
    ∙ front_names bytes c.name_start.result (record { inside = c.name_start.ensures.inside; name = c.name_start.ensures.name; slash = c.name_start.ensures.slash })
    ∙ ap (λ (bs : List ℕ). path_bytes (parent (names_in bs))) c.as_slice-bytes.ensures.value ∙ ap (λ (p : Path). path_bytes (parent p)) c.self.view_is
