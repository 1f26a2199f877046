use Rattle.std.proofs.Common.{rules}
use Rattle.abi_layout.specs.Structures.{dirent_layout, dirent_values}
use Rattle.abi_layout.proofs.Bytes.{laid_out}
use Rattle.abi_layout.proofs.structures.write_dirent.Goals as goal

pub returns : goal.returns
returns c = laid_out dirent_layout (dirent_values c.args.dirent.now) _ (cc) (search rules) (search rules)
