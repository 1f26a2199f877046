use Rattle.std.proofs.Common.{rules}
use Rattle.abi_layout.specs.Structures.{recv_in_layout, recv_in_values}
use Rattle.abi_layout.proofs.Bytes.{laid_out}
use Rattle.abi_layout.proofs.structures.write_recv_in.Goals as goal

pub returns : goal.returns
returns c = laid_out recv_in_layout (recv_in_values c.args.recv_in.now) _ (cc) (search rules) (search rules)
