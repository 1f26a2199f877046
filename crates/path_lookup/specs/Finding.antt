-- What a name is in a directory.
use Rattle.std.specs.Prelude.{ℕ, List}
use Rattle.path_lookup.specs.declared.directories.Found.{Found}
use Rattle.path_lookup.specs.declared.directories.Found.TheVariants as found

-- Nothing, a directory, a file, or a symlink with its text; each with its number.
pub data Finding : Type 0 where
  Nothing : Finding
  Directory : ℕ → Finding
  File : ℕ → Finding
  Link : ℕ → List ℕ → Finding

-- what the code's value says
abbrev pub finding : Found → Finding
finding found.Nothing = Nothing
finding (found.Directory n) = Directory n
finding (found.File n) = File n
finding (found.Link n text) = Link n text.now
