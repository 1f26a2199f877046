use Rattle.run_model.proofs.Encoded.{args_plain}
use Rattle.run_model.proofs.EncodedBadf.{args_not_badf}
use Rattle.run_model.proofs.laws.encoded_calls_are_plain.Goals as goal

pub returns-clause-plain : goal.returns-clause-plain
returns-clause-plain c = args_plain

pub returns-clause-badf : goal.returns-clause-badf
returns-clause-badf c = args_not_badf
