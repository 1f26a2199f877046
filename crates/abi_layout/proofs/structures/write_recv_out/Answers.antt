use Rattle.std.proofs.Common.{rules}
use Rattle.abi_layout.specs.Structures.{recv_out_layout, recv_out_values}
use Rattle.abi_layout.proofs.Bytes.{laid_out}
use Rattle.abi_layout.proofs.structures.write_recv_out.Goals as goal

pub returns : goal.returns
returns c = laid_out recv_out_layout (recv_out_values c.args.recv_out.now) _ (cc) (search rules) (search rules)
