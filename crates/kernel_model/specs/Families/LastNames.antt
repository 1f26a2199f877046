-- The last component of a path, which a call treats by itself that makes a name or takes one away.
use Rattle.std.specs.Prelude.{ℕ, ◌||◌, Bool, true, false, List, [], ◌∷◌, take, drop, Option, Some, None, if◌then◌else◌}
use Rattle.std.specs.Str.{bytes_eq}
use Rattle.abi_base.specs.declared.errno.Errno.{Errno}
use Rattle.abi_base.specs.declared.errno.Errno.TheVariants.{Inval, Noent}
use Rattle.abi_types.specs.declared.open_kind.OpenKind.{OpenKind}
use Rattle.path_lookup.specs.Split.{dot}
use Rattle.path_lookup.specs.declared.ends.End.{End}
use Rattle.path_lookup.specs.declared.ends.End.TheVariants as end
use Rattle.path_lookup.specs.declared.ends.WalkMode.TheVariants.{Parent}
use Rattle.kernel_model.specs.Families.FilePaths.{Walked, Ends, Fails, LeadsOutside, walked}
use Rattle.kernel_model.specs.State.{Part, Tree, at_node, at_names}

-- the name at this place of a path
abbrev pub name_at : List ℕ → ℕ → ℕ → List ℕ
name_at path from len = take len (drop from path)

abbrev pub has_no_bytes : List ℕ → Bool
has_no_bytes [] = true
has_no_bytes (b ∷ bs) = false

-- `.`, which a slash at the end adds without a byte, and `..` are no names that are made or taken away
abbrev pub is_dots : List ℕ → Bool
is_dots name = has_no_bytes name || (bytes_eq name (dot ∷ []) || bytes_eq name (dot ∷ dot ∷ []))

-- where the last name of a path stands: in a directory; or it is none, for an error, or because the path leads outside
pub data LastName : Type 0 where
  StandsIn : ℕ → List ℕ → LastName
  IsNone : Errno → LastName
  IsOutside : ℕ → LastName

abbrev pub named_in : ℕ → List ℕ → LastName
named_in dir name = if is_dots name then IsNone Inval else StandsIn dir name

-- a walk that stops before the last component has no other end
abbrev pub last_of_end : List ℕ → End → LastName
last_of_end path (end.Last dir from len) = named_in dir (name_at path from len)
last_of_end path (end.Absent dir from len) = IsNone Noent
last_of_end path (end.Found n) = IsNone Inval

abbrev pub last_of : List ℕ → Walked → LastName
last_of path (Ends end) = last_of_end path end
last_of path (Fails errno) = IsNone errno
last_of path (LeadsOutside component) = IsOutside component

-- the last name of a path from an open
abbrev pub last_name : Tree → List ℕ → Option OpenKind → LastName
last_name t path kind = last_of path (walked t Parent path kind)

-- the component at which the path leads outside
abbrev pub last_outside : LastName → Option ℕ
last_outside (StandsIn dir name) = None
last_outside (IsNone errno) = None
last_outside (IsOutside component) = Some component

-- the directory of the name, and the names in it
abbrev pub directory_parts : LastName → List Part
directory_parts (StandsIn dir name) = at_node dir ∷ at_names dir ∷ []
directory_parts (IsNone errno) = []
directory_parts (IsOutside component) = []
