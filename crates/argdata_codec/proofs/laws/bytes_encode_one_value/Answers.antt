use Rattle.argdata_codec.proofs.Only.{one_value}
use Rattle.argdata_codec.proofs.laws.bytes_encode_one_value.Goals as goal

pub returns : goal.returns
returns c = one_value
