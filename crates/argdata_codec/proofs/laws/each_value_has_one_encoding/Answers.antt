use Rattle.argdata_codec.specs.Writing.{encoding}
use Rattle.argdata_codec.proofs.Encoded.{is_encoded}
use Rattle.argdata_codec.proofs.Only.{one_encoding, encodable}
use Rattle.argdata_codec.proofs.laws.each_value_has_one_encoding.Goals as goal

pub returns-clause-some : goal.returns-clause-some
returns-clause-some c x h = (encoding x, is_encoded x h)

pub returns-clause-encodable : goal.returns-clause-encodable
returns-clause-encodable c = encodable

pub returns-clause-one : goal.returns-clause-one
returns-clause-one c = one_encoding
