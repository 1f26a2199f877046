use Rattle.tree_records.proofs.RecordTexts.{one_record}
use Rattle.tree_records.proofs.laws.no_encoding_begins_another.Goals as goal

pub returns : goal.returns
returns c = one_record
