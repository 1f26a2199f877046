-- What the program holds, as contracts speak of it.
use Rattle.std.specs.Prelude.{◌≡◌, ℕ, List, [], ◌∷◌, Result, Ok, Err}
use Rattle.abi_types.specs.declared.node.Times.{Times}
use Rattle.lists.specs.declared.stop.Stop.{Stop}
use Rattle.lists.specs.declared.stop.Stop.TheVariants.{At, Memory}
use Rattle.tree_model.specs.Tree.{Tree}
use Rattle.tree_records.specs.Paths.{Path}
use Rattle.tree_records.specs.Reading.{names_in}
use Rattle.tree_document.specs.declared.building.Building.{Building}
use Rattle.tree_document.specs.declared.fault.TreeDocFault.{TreeDocFault}
use Rattle.tree_document.specs.Documents.{IsFaultyAt}
use Rattle.tree_document.specs.Building.{Making}

abbrev pub making : Building → Making
making b = record { tree = b.tree; times = b.times; next = b.next; files = b.files }

-- a stop that isn't for lack of memory
abbrev pub IsAt : {F : Type 0} → Stop F → Type 0
IsAt (At f) = Unit {0}
IsAt Memory = ⊥

-- the names with a `/` between two, and none of no bytes
abbrev pub path_in : List ℕ → Path
path_in [] = []
path_in (b ∷ bs) = names_in (b ∷ bs)

-- the byte of a fault is where the first faulty record begins
abbrev pub IsFault : Times → List ℕ → Stop TreeDocFault → Type 0
IsFault times bytes (At fault) = IsFaultyAt times bytes fault.byte
IsFault times bytes Memory = Unit {0}

-- what was read is what the text means, unless memory ran out
abbrev pub IsFaultOf : Stop TreeDocFault → Result Tree ℕ → Type 0
IsFaultOf (At fault) meant = meant ≡ Err fault.byte
IsFaultOf Memory meant = Unit {0}

abbrev pub Gives : Result Tree (Stop TreeDocFault) → Result Tree ℕ → Type 0
Gives (Ok t) meant = meant ≡ Ok t
Gives (Err stop) meant = IsFaultOf stop meant
