-- What a check of a change says.
use Rattle.std.specs.Prelude.{◌≡◌, ℕ, not, [], ◌∷◌, None, Some, Result, Ok, Err}
use Rattle.tree_model.specs.declared.fault.TreeFault.{TreeFault}
use Rattle.tree_model.specs.declared.fault.TreeFault.TheVariants.{Absent, NotDirectory}
use Rattle.tree_model.specs.Tree.{Tree, is_directory}
use Rattle.tree_model.specs.Changes.{Faults, first_fault, is_absent, is_removed}

-- the check fails with the table's first fault, and passes where there is none
abbrev pub Checks : {A : Type 0} → Faults → Result A TreeFault → Type 0
Checks faults (Ok x) = first_fault faults ≡ None
Checks faults (Err fault) = first_fault faults ≡ Some fault

-- why no name may come into a directory
abbrev pub place_faults : Tree → ℕ → Faults
place_faults t d = (is_absent t d, Absent) ∷ (not (is_directory t d), NotDirectory) ∷ (is_removed t d, Absent) ∷ []
