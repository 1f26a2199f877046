use Rattle.std.proofs.Common.{List, ℕ, ap, ◌∙◌}
use Rattle.std.proofs.lemmas.List.{take_rest}
use Rattle.tree_records.specs.Paths.{name_of}
use Rattle.tree_records.specs.Reading.{names_in}
use Rattle.tree_records.proofs.PathLaws.{last_name}
use Rattle.tree_records.proofs.path.Path.name.Goals as goal

pub returns : goal.returns
returns c =
    let bytes = c.as_slice-bytes.result.now in
    take_rest bytes c.name_start.result
    ∙ last_name bytes c.name_start.result (record { inside = c.name_start.ensures.inside; name = c.name_start.ensures.name; slash = c.name_start.ensures.slash })
    ∙ ap (λ (bs : List ℕ). name_of (names_in bs)) c.as_slice-bytes.ensures.value ∙ ap name_of c.self.view_is
