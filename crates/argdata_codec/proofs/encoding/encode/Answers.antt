-- what the function `encoding` gives is the encoding
use Rattle.std.proofs.Common.{subst, sym, ◌∙◌}
use Rattle.argdata_codec.specs.Encoding.{Encodes}
use Rattle.argdata_codec.specs.Views.{shape_of}
use Rattle.argdata_codec.proofs.Encoded.{is_encoded}
use Rattle.argdata_codec.proofs.encoding.encode.Goals as goal

pub returns : goal.returns
returns c = subst (Encodes (shape_of c.args.value.now)) (sym (c.from_vec.ensures ∙ c.in_ok-encode_value.ensures)) (is_encoded (shape_of c.args.value.now) c.requires.1)
