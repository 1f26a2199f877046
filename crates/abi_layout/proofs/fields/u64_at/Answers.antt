use Rattle.std.proofs.Common.{◌∙◌}
use Rattle.abi_layout.proofs.Numbers.{number_of_part}
use Rattle.abi_layout.proofs.fields.u64_at.Goals as goal

pub returns : goal.returns
returns c = c.read_u64.ensures ∙ number_of_part c.args.offset 8 c.args.bytes.now
