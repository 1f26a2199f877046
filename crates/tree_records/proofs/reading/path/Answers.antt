use Rattle.std.proofs.Common.{sym, ◌∙◌, ap}
use Rattle.tree_records.specs.Reading.{are_path}
use Rattle.tree_records.proofs.PathLaws.{path_from_test}
use Rattle.tree_records.proofs.reading.path.Goals as goal

pub invariant_of-result : goal.invariant_of-result
invariant_of-result c =
    path_from_test c.in_ok-bytes.bytes.items (ap are_path (sym c.deref.ensures.value) ∙ sym c.are_path.ensures ∙ c.if-are_path.true)
