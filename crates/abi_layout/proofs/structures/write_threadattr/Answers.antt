use Rattle.std.proofs.Common.{rules}
use Rattle.abi_layout.specs.Structures.{threadattr_layout, threadattr_values}
use Rattle.abi_layout.proofs.Bytes.{laid_out}
use Rattle.abi_layout.proofs.structures.write_threadattr.Goals as goal

pub returns : goal.returns
returns c = laid_out threadattr_layout (threadattr_values c.args.threadattr.now) _ (cc) (search rules) (search rules)
