use Rattle.tree_records.specs.Views.{read_seen}
use Rattle.tree_records.proofs.RecordTexts.{found_reported, only_reported, shorter_reported}
use Rattle.tree_records.proofs.reading.read_record.Goals as goal

pub returns : goal.returns
returns c = record {
  found = found_reported read_seen c.args.bytes.now c.record.result c.record.ensures;
  only = only_reported read_seen c.args.bytes.now c.record.result c.record.ensures;
  shorter = shorter_reported read_seen c.args.bytes.now c.record.result c.record.ensures;
}
