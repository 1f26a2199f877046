use Rattle.std.proofs.Common.{rules}
use Rattle.abi_layout.specs.Structures.{iovec_layout, iovec_values}
use Rattle.abi_layout.proofs.Bytes.{laid_out}
use Rattle.abi_layout.proofs.structures.write_iovec.Goals as goal

pub returns : goal.returns
returns c = laid_out iovec_layout (iovec_values c.args.iovec.now) _ (cc) (search rules) (search rules)
