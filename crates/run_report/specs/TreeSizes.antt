-- How many regular files with a name a file tree has, and how many bytes they hold.
use Rattle.std.specs.Prelude.{ℕ, ◌==◌, length, if◌then◌else◌}
use Rattle.abi_types.specs.declared.node.Node.{Node}
use Rattle.abi_types.specs.declared.node.NodeKind.{NodeKind}
use Rattle.abi_types.specs.declared.node.NodeKind.TheVariants as kind
use Rattle.maps.specs.Maps.{total}
use Rattle.tree_model.specs.Tree.{Tree}

-- 1 for a file, and its bytes
abbrev pub one_of_kind : NodeKind → ℕ
one_of_kind (kind.File bytes) = 1
one_of_kind _ = 0

abbrev pub size_of_kind : NodeKind → ℕ
size_of_kind (kind.File bytes) = length bytes
size_of_kind _ = 0

-- what is counted of a node: nothing of one that has no name
abbrev pub named_file : Node → ℕ
named_file node = if node.links == 0 then 0 else one_of_kind node.kind

abbrev pub named_bytes : Node → ℕ
named_bytes node = if node.links == 0 then 0 else size_of_kind node.kind

-- how many nodes are files that have a name, and how many bytes they hold together
abbrev pub files_count : Tree → ℕ
files_count t = total named_file t.nodes

abbrev pub bytes_count : Tree → ℕ
bytes_count t = total named_bytes t.nodes
