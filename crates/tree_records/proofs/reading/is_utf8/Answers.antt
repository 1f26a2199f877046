use Rattle.std.proofs.Common.{◌∙◌}
use Rattle.tree_records.proofs.Tests.{utf8_reported}
use Rattle.tree_records.proofs.reading.is_utf8.Goals as goal

pub returns : goal.returns
returns c = c.is_ok.ensures.value ∙ utf8_reported c.args.bytes.now _ _ c.from_utf8.result c.from_utf8.ensures.cases
