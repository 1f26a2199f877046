-- Paths of a tree document: the names on the way from the root, the last one the node's own.
--     Path, path_bytes p      the names;  the names with a `/` between two
--     parent p, name_of p      the path of the directory that a path's last name is in;  that name
--     IsName name, IsPath p      what may be a name, and what may be a path, of a tree document
use Rattle.std.specs.Prelude.{◌≢◌, ℕ, ◌<◌, ◌≤◌, List, [], ◌∷◌, length, codes}
use Rattle.std.specs.List.{AllByRecursion, join_with_byte}
use Rattle.std.specs.Str.{IsUtf8}
use Rattle.tree_records.specs.declared.limits.TheConstants.{MOST_NAME_BYTES, MOST_PATH_BYTES}

-- the names from the root on; the root itself has none
abbrev pub Path : Type 0
Path = List (List ℕ)

-- the names with a `/` between two
abbrev pub path_bytes : Path → List ℕ
path_bytes p = join_with_byte 47 p

-- the path without its last name
abbrev pub parent : Path → Path
parent [] = []
parent (name ∷ []) = []
parent (name ∷ next ∷ more) = name ∷ parent (next ∷ more)

-- the last name, and none of the root
abbrev pub name_of : Path → List ℕ
name_of [] = []
name_of (name ∷ []) = name
name_of (name ∷ next ∷ more) = name_of (next ∷ more)

-- without a `/`
abbrev pub HasNoSlash : List ℕ → Type 0
HasNoSlash bytes = AllByRecursion (λ b. b ≢ 47) bytes

-- What may be a name: not empty, neither `.` nor `..`, not too long, and without `/` and zero bytes.
pub record IsName (name : List ℕ) : Type 0 where
  pub some : 0 < length name
  pub not_dot : name ≢ codes "."
  pub not_dots : name ≢ codes ".."
  pub short : length name ≤ MOST_NAME_BYTES
  pub no_slash : HasNoSlash name
  pub no_zero : AllByRecursion (λ b. 0 < b) name

-- What may be a path: one name or more, not too long, and in UTF-8.
pub record IsPath (p : Path) : Type 0 where
  pub some : 0 < length p
  pub names : AllByRecursion IsName p
  pub short : length (path_bytes p) ≤ MOST_PATH_BYTES
  pub utf8 : IsUtf8 (path_bytes p)
