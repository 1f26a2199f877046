use Rattle.std.proofs.Common.{rules}
use Rattle.abi_layout.specs.Structures.{fdstat_layout, fdstat_values}
use Rattle.abi_layout.proofs.Bytes.{laid_out}
use Rattle.abi_layout.proofs.structures.write_fdstat.Goals as goal

pub returns : goal.returns
returns c = laid_out fdstat_layout (fdstat_values c.args.fdstat.now) _ (cc) (search rules) (search rules)
