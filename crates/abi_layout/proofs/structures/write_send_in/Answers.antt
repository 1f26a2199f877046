use Rattle.std.proofs.Common.{rules}
use Rattle.abi_layout.specs.Structures.{send_in_layout, send_in_values}
use Rattle.abi_layout.proofs.Bytes.{laid_out}
use Rattle.abi_layout.proofs.structures.write_send_in.Goals as goal

pub returns : goal.returns
returns c = laid_out send_in_layout (send_in_values c.args.send_in.now) _ (cc) (search rules) (search rules)
