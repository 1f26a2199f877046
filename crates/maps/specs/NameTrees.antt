-- The entries of a tree, from those of its sides.
use Rattle.std.specs.Prelude.{◌≡◌, List, [], ◌∷◌, ◌++◌, length}
use Rattle.std.specs.Vec.{vec_items}
use Rattle.maps.specs.Names.{Name}
use Rattle.maps.specs.declared.name_tree.NameNode.{NameNode}
use Rattle.maps.specs.declared.name_tree.Root.{Root}
use Rattle.maps.specs.declared.name_tree.Root.TheVariants.{Empty, Full}

-- the entry of a node alone
abbrev pub entry_in : {V : Type 0} → NameNode V → Name × V
entry_in n = (vec_items n.name, n.value)

-- the entries of a node: those before it, its own, those after it
abbrev pub entries_in : {V : Type 0} → NameNode V → List (Name × V)
entries_in n = n.before ++ entry_in n ∷ n.after

-- a node with no entries before and after its own
abbrev pub StandsAlone : {V : Type 0} → NameNode V → Type 0
StandsAlone n = (n.before ≡ []) × (n.after ≡ [])

abbrev pub row : {V : Type 0} → Root V → List (Name × V)
row Empty = []
row (Full b) = entries_in b.value

-- the top says how many entries there are
abbrev pub IsCounted : {V : Type 0} → Root V → Type 0
IsCounted Empty = Unit {0}
IsCounted (Full b) = b.value.len ≡ length (entries_in b.value)
