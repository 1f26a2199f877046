-- The parts that a call sets so that the file tree is another one.
use Rattle.std.specs.Prelude.{ℕ, List, [], ◌∷◌, ◌++◌, Option, None, Some}
use Rattle.std.specs.FinMap.{get}
use Rattle.abi_types.specs.declared.node.Node.{Node}
use Rattle.kernel_model.specs.State.{Names, Tree, Update, set_node, set_names}

-- a node, where there is one
abbrev pub node_update : ℕ → Option Node → List Update
node_update n None = []
node_update n (Some node) = set_node n node ∷ []

-- the names in a directory, where there is one
abbrev pub names_update : ℕ → Option Names → List Update
names_update d None = []
names_update d (Some names) = set_names d names ∷ []

-- these nodes as the tree has them
abbrev pub nodes_updates : Tree → List ℕ → List Update
nodes_updates t [] = []
nodes_updates t (n ∷ ns) = node_update n (get t.nodes n) ++ nodes_updates t ns

-- and the names in these directories
abbrev pub names_updates : Tree → List ℕ → List Update
names_updates t [] = []
names_updates t (d ∷ ds) = names_update d (get t.names d) ++ names_updates t ds

-- A change of the file tree: the tree after it, the nodes that are new or are others then, and the directories that are new or
-- in which the names are others.
pub record Change : Type 0 where
  pub tree : Tree
  pub nodes : List ℕ
  pub directories : List ℕ

abbrev pub change_updates : Change → List Update
change_updates c = nodes_updates c.tree c.nodes ++ names_updates c.tree c.directories

-- the tree stays as it is
abbrev pub no_change : Tree → Change
no_change t = record { tree = t; nodes = []; directories = [] }
