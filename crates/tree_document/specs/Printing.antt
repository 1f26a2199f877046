-- The text of a tree.
--     Row, listing t      a name's path and its node;  all names, in the order in which they are printed
--     first_in rows n      the path of the node's first name among these
--     printed t      the text
use Rattle.std.specs.Prelude.{ℕ, zero, suc, ◌==◌, if◌then◌else◌, List, [], ◌∷◌, ◌++◌, Option, None, Some}
use Rattle.std.specs.FinMap.{entries, get, len}
use Rattle.std.specs.List.{flat_map}
use Rattle.abi_types.specs.declared.node.Node.{Node}
use Rattle.abi_types.specs.declared.node.NodeKind.{NodeKind}
use Rattle.abi_types.specs.declared.node.NodeKind.TheVariants as kind
use Rattle.tree_model.specs.declared.limits.TheConstants.{ROOT}
use Rattle.tree_model.specs.Tree.{Tree, names_of}
use Rattle.tree_records.specs.Records.{dir_text, file_text, hard_text, link_text}

-- ---- the names, in order

-- a name's path, as its bytes, and the name's node
abbrev pub Row : Type 0
Row = List ℕ × ℕ

-- the path of a name in the directory of a path; the root's path is empty
abbrev pub below_path : List ℕ → List ℕ → List ℕ
below_path [] name = name
below_path (b ∷ bs) name = (b ∷ bs) ++ 47 ∷ name

-- Each name in a directory in the order of their bytes, and behind a name those below it, as far as chains of so many names.
abbrev pub listed : ℕ → Tree → List ℕ → ℕ → List Row
listed zero t path n = []
listed (suc most) t path n = flat_map (λ e. (below_path path e.0, e.1) ∷ listed most t (below_path path e.0) e.1) (entries (names_of t n))

-- all names; no chain of names is longer than there are nodes
abbrev pub listing : Tree → List Row
listing t = listed (len t.nodes) t [] ROOT

-- ---- what is printed

-- the path of the node's first name among these
abbrev pub first_in : List Row → ℕ → Option (List ℕ)
first_in [] n = None
first_in (row ∷ rows) n = if row.1 == n then Some row.0 else first_in rows n

-- a record of the kind of node at a path; of a file that has an earlier name, a record of one more name
abbrev pub kind_text : Option (List ℕ) → List ℕ → NodeKind → List ℕ
kind_text first path kind.Directory = dir_text path
kind_text first path (kind.Link text) = link_text path text
kind_text None path (kind.File bytes) = file_text path bytes
kind_text (Some first) path (kind.File bytes) = hard_text path first

abbrev pub node_text : Option (List ℕ) → List ℕ → Option Node → List ℕ
node_text first path None = []
node_text first path (Some node) = kind_text first path node.kind

-- the record of a name behind these others
abbrev pub row_text : Tree → List Row → Row → List ℕ
row_text t before row = node_text (first_in before row.1) row.0 (get t.nodes row.1)

-- the records of names behind these others
abbrev pub rows_text : Tree → List Row → List Row → List ℕ
rows_text t before [] = []
rows_text t before (row ∷ rows) = row_text t before row ++ rows_text t (before ++ row ∷ []) rows

-- the records of all names
abbrev pub printed : Tree → List ℕ
printed t = rows_text t [] (listing t)
