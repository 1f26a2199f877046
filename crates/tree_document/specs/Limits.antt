-- What a tree keeps whose text is a document.
--     IsRowPath path      a path that is not too long, and in UTF-8
--     IsKeptNode node      a node that may be in a document
--     KeepsLimits t      names, paths, texts, sizes and counts of names may be those of a document
use Rattle.std.specs.Prelude.{◌≤◌, ℕ, List, Option, None, Some, length}
use Rattle.std.specs.FinMap.{get}
use Rattle.std.specs.List.{AllByRecursion}
use Rattle.std.specs.Str.{IsUtf8}
use Rattle.abi_types.specs.declared.node.Node.{Node}
use Rattle.abi_types.specs.declared.node.NodeKind.{NodeKind}
use Rattle.abi_types.specs.declared.node.NodeKind.TheVariants as kind
use Rattle.tree_model.specs.declared.limits.TheConstants.{MOST_FILE_BYTES, MOST_LINKS}
use Rattle.tree_model.specs.Tree.{HasName, Tree}
use Rattle.tree_records.specs.declared.limits.TheConstants.{MOST_PATH_BYTES}
use Rattle.tree_records.specs.Paths.{IsName}
use Rattle.tree_records.specs.Records.{IsLinkText}
use Rattle.tree_document.specs.Printing.{listing}

-- the bytes of a path are not too many, and in UTF-8
pub record IsRowPath (path : List ℕ) : Type 0 where
  pub short : length path ≤ MOST_PATH_BYTES
  pub utf8 : IsUtf8 path

-- a file is not too large, and a symlink's text may be one
abbrev pub IsKept : NodeKind → Type 0
IsKept (kind.File bytes) = length bytes ≤ MOST_FILE_BYTES
IsKept kind.Directory = Unit {0}
IsKept (kind.Link text) = IsLinkText text

-- and it has not too many names
abbrev pub IsKeptNode : Option Node → Type 0
IsKeptNode None = Unit {0}
IsKeptNode (Some node) = IsKept node.kind × (node.links ≤ MOST_LINKS)

pub record KeepsLimits (t : Tree) : Type 0 where
  -- each name may be one
  pub names : (d : ℕ) (name : List ℕ) (n : ℕ) → HasName t d name n → IsName name
  -- so may each name's path, and what it leads to
  pub rows : AllByRecursion (λ row. IsRowPath row.0 × IsKeptNode (get t.nodes row.1)) (listing t)
