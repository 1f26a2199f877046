use Rattle.codec_files.proofs.Invalid as laws
use Rattle.codec_files.proofs.laws.create_of_directory_is_invalid.Goals as goal

pub returns : goal.returns
returns c = laws.create_is_invalid
