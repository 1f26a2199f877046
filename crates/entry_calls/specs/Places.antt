-- The last name of a path as its place gives it.
use Rattle.std.specs.Prelude.{ℕ, List, Result, Ok, Err}
use Rattle.file_calls.specs.declared.paths.PathFault.{PathFault}
use Rattle.file_calls.specs.declared.paths.PathFault.TheVariants as path_fault
use Rattle.kernel_model.specs.Families.LastNames.{LastName, StandsIn, IsNone, IsOutside, name_at}
use Rattle.entry_calls.specs.declared.places.NamePlace.{NamePlace}

abbrev pub last_of_place : List ℕ → Result NamePlace PathFault → LastName
last_of_place path (Ok place) = StandsIn place.dir (name_at path place.from place.len)
last_of_place path (Err (path_fault.Errno errno)) = IsNone errno
last_of_place path (Err (path_fault.Outside component)) = IsOutside component
