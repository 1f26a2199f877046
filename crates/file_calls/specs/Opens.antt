-- Opens that may be worked on.
use Rattle.std.specs.Prelude.{◌≡◌, ⊤, ◌<◌, true}
use Rattle.abi_types.specs.declared.open_kind.OpenKind.{OpenKind}
use Rattle.abi_types.specs.declared.open_kind.OpenKind.TheVariants.{File, Directory, Terminal}
use Rattle.tree_model.specs.Changes.{is_file}
use Rattle.tree_model.specs.Tree.{Tree, is_directory}

-- a file's node is a file, a directory's is a directory, and a standard stream is one of the three
abbrev pub IsThere : Tree → OpenKind → Type 0
IsThere t (File node offset flags) = is_file t node ≡ true
IsThere t (Directory node flags) = is_directory t node ≡ true
IsThere t (Terminal which flags) = which < 3
IsThere t _ = ⊤
