use Rattle.std.proofs.Common.{sym, ap, ◌∙◌}
use Rattle.tree_records.specs.Paths.{path_bytes}
use Rattle.tree_records.proofs.PathLaws.{path_bytes-names_in}
use Rattle.tree_records.proofs.path.Path.as_bytes.Goals as goal

pub returns-clause-bytes : goal.returns-clause-bytes
returns-clause-bytes c = c.deref.ensures.value ∙ sym (path_bytes-names_in c.self.inside.bytes.items) ∙ ap path_bytes c.self.view_is
