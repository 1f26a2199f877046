-- The file that a program is read from.
use Rattle.std.specs.Prelude.{ℕ, Option, None, Some}
use Rattle.abi_types.specs.declared.open_kind.OpenKind.{OpenKind}
use Rattle.abi_types.specs.declared.open_kind.OpenKind.TheVariants.{Directory, End, File, Process, Terminal}

-- the node of the file that the open is of, if it is of one
abbrev pub node_of_file : OpenKind → Option ℕ
node_of_file (File node offset flags) = Some node
node_of_file (Directory node flags) = None
node_of_file (End reads writes flags form) = None
node_of_file (Terminal which flags) = None
node_of_file (Process p object) = None
