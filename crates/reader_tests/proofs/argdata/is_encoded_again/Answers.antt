-- what was decoded can be encoded
use Rattle.argdata_codec.specs.Views.{shape_of}
use Rattle.argdata_codec.proofs.Only.{encodable}
use Rattle.reader_tests.proofs.argdata.is_encoded_again.Goals as goal

pub is_encoding-requires : goal.is_encoding-requires
is_encoding-requires c =
    let found = c.in-Ok.ensures.found in
    (found.0, encodable (shape_of c.in-Ok.value) c.args.bytes.now found.1)
