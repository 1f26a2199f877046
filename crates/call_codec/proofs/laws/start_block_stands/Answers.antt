use Rattle.call_codec.proofs.StartBlocks.{argdata_stands, canary_stands, vector_stands}
use Rattle.call_codec.proofs.laws.start_block_stands.Goals as goal

pub returns-clause-vector : goal.returns-clause-vector
returns-clause-vector c = vector_stands

pub returns-clause-canary : goal.returns-clause-canary
returns-clause-canary c = canary_stands

pub returns-clause-argdata : goal.returns-clause-argdata
returns-clause-argdata c = argdata_stands
