use Rattle.std.proofs.Common.{rules}
use Rattle.abi_layout.specs.Structures.{filestat_layout, filestat_values}
use Rattle.abi_layout.proofs.Bytes.{laid_out}
use Rattle.abi_layout.proofs.structures.write_filestat.Goals as goal

pub returns : goal.returns
returns c = laid_out filestat_layout (filestat_values c.args.filestat.now) _ (cc) (search rules) (search rules)
