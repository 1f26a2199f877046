-- What a call would come to, as it is reported before it is done.
use Rattle.std.specs.Prelude.{◌≡◌, Result, Ok, Err}
use Rattle.file_calls.specs.declared.paths.PathFault.{PathFault}
use Rattle.file_calls.specs.declared.paths.PathFault.TheVariants as path_fault
use Rattle.kernel_model.specs.Families.NameMeaning.{NameOutcome, Refuses, LeadsOut, Changes}
use Rattle.kernel_model.specs.Families.TreeUpdates.{Change}

-- it changes the tree, or is refused so
abbrev pub IsReported : {A : Type 0} → NameOutcome → Result A PathFault → Type 0
IsReported comes (Ok x) = (change : Change) × (comes ≡ Changes change)
IsReported comes (Err (path_fault.Errno errno)) = comes ≡ Refuses errno
IsReported comes (Err (path_fault.Outside component)) = comes ≡ LeadsOut component
