-- Each document that is read is sound and at most 64 deep.
use Rattle.launch_yaml.proofs.SoundRows.{is_document}
use Rattle.launch_yaml.proofs.document.parse.Goals as goal

pub returns-clause-document : goal.returns-clause-document
returns-clause-document c = is_document c.read.result c.args.text.now c.read.ensures
