use Rattle.std.proofs.Common.{rules}
use Rattle.abi_layout.specs.Structures.{send_out_layout, send_out_values}
use Rattle.abi_layout.proofs.Bytes.{laid_out}
use Rattle.abi_layout.proofs.structures.write_send_out.Goals as goal

pub returns : goal.returns
returns c = laid_out send_out_layout (send_out_values c.args.send_out.now) _ (cc) (search rules) (search rules)
