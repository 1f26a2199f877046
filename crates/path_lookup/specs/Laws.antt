-- What holds of every walk: the statements that are the contracts of `walk` and of the functions of src/laws.rt.
use Rattle.std.specs.Prelude.{◌≡◌, ◌≢◌, ◌↔◌, ◌≤◌, ◌+◌, ⊤, ℕ, suc, true, false, Bool, List, [], ◌∷◌, length, slice_range, Ok, Err}
use Rattle.std.specs.List.{AllByRecursion}
use Rattle.path_lookup.specs.Finding.{Finding, Nothing, Directory, File, Link}
use Rattle.path_lookup.specs.Relation.{Walks}
use Rattle.path_lookup.specs.Split.{Component, dot, slash}
use Rattle.path_lookup.specs.Walk.{WalkEnd, Finds, walk_of, walk_within, stops_before_last, longest_name}
use Rattle.path_lookup.specs.declared.ends.End.{End}
use Rattle.path_lookup.specs.declared.ends.End.TheVariants as end
use Rattle.path_lookup.specs.declared.ends.WalkFault.TheVariants as fault
use Rattle.path_lookup.specs.declared.ends.WalkMode.{WalkMode}

-- ---- a walk stays below its start

-- what a name is has a number in this set, if it is anything
abbrev pub FindsIn : (ℕ → Bool) → Finding → Type 0
FindsIn inside Nothing = ⊤
FindsIn inside (Directory n) = inside n ≡ true
FindsIn inside (File n) = inside n ≡ true
FindsIn inside (Link n text) = inside n ≡ true

-- A set that has all that a name is in a directory of the set.
pub record IsClosed (find : Finds) (inside : ℕ → Bool) : Type 0 where
  pub closed : (dir : ℕ) (name : List ℕ) → inside dir ≡ true → FindsIn inside (find dir name)

-- the number that an end has is in this set
abbrev pub IsIn : (ℕ → Bool) → End → Type 0
IsIn inside (end.Found n) = inside n ≡ true
IsIn inside (end.Absent dir from len) = inside dir ≡ true
IsIn inside (end.Last dir from len) = inside dir ≡ true

abbrev pub EndsIn : (ℕ → Bool) → WalkEnd → Type 0
EndsIn inside (Ok end) = IsIn inside end
EndsIn inside (Err fault) = ⊤

-- A walk ends in each closed set that has its start: it never leaves what is below its start.
abbrev pub StaysBelow : Finds → ℕ → WalkEnd → Type 0
StaysBelow find start walked = (inside : ℕ → Bool) → IsClosed find inside → inside start ≡ true → EndsIn inside walked

-- ---- what a walk reads

-- two ways to find that say the same in the directories of a set
pub record Agree (find other : Finds) (inside : ℕ → Bool) : Type 0 where
  pub same : (dir : ℕ) (name : List ℕ) → inside dir ≡ true → find dir name ≡ other dir name

-- A walk reads nothing but what is below its start: where another way to find says the same in a closed set that has the start,
-- the walk is the same.
abbrev pub ReadsBelow : Type 0
ReadsBelow =
    (find other : Finds) (inside : ℕ → Bool) (mode : WalkMode) (start : ℕ) (path : List ℕ) → IsClosed find inside → Agree find other inside
    → inside start ≡ true → walk_of find mode start path ≡ walk_of other mode start path

-- ---- `..` and `/` at the start

-- `..` at the start leads outside, where it is looked at
abbrev pub ClimbsOutside : Type 0
ClimbsOutside =
    (find : Finds) (mode : WalkMode) (start : ℕ) → stops_before_last mode ≡ false
    → walk_of find mode start (dot ∷ dot ∷ []) ≡ Err (fault.Outside 0)

-- and with a slash and anything behind it in each mode
abbrev pub ClimbsOutsideAtOnce : Type 0
ClimbsOutsideAtOnce =
    (find : Finds) (mode : WalkMode) (start : ℕ) (rest : List ℕ)
    → walk_of find mode start (dot ∷ dot ∷ slash ∷ rest) ≡ Err (fault.Outside 0)

-- a path that begins with a slash leads outside at once, whatever comes behind it
abbrev pub SlashIsOutside : Type 0
SlashIsOutside = (find : Finds) (mode : WalkMode) (start : ℕ) (rest : List ℕ) → walk_of find mode start (slash ∷ rest) ≡ Err (fault.Outside 0)

-- an empty path is no entry
abbrev pub EmptyIsNoEntry : Type 0
EmptyIsNoEntry = (find : Finds) (mode : WalkMode) (start : ℕ) → walk_of find mode start [] ≡ Err fault.NoEntry

-- ---- `.`

-- a component `.` that isn't last costs one component, and changes nothing else: the walk is that of the components behind it
abbrev pub DotIsNothing : Type 0
DotIsNothing =
    (find : Finds) (mode : WalkMode) (left links top : ℕ) (above : List ℕ) (c next : Component) (rest : List Component)
    → c.name ≡ dot ∷ [] → walk_within find mode (suc left) links top above (c ∷ next ∷ rest) ≡ walk_within find mode left links top above (next ∷ rest)

-- ---- the place that an end gives

-- The place of a name in a path: it lies in the path, and has at most 255 bytes, none of which is a slash.
pub record IsPlace (path : List ℕ) (from len : ℕ) : Type 0 where
  pub within : from + len ≤ length path
  pub short : len ≤ longest_name
  pub plain : AllByRecursion (λ b. b ≢ slash) (slice_range path from (from + len))

abbrev pub HasPlace : List ℕ → End → Type 0
HasPlace path (end.Found n) = ⊤
HasPlace path (end.Absent dir from len) = IsPlace path from len
HasPlace path (end.Last dir from len) = IsPlace path from len

-- the place that a walk's end gives is that of a name in its path
abbrev pub EndsAtPlace : List ℕ → WalkEnd → Type 0
EndsAtPlace path (Ok end) = HasPlace path end
EndsAtPlace path (Err fault) = ⊤

-- ---- the walk said a second time

-- a path leads by the clauses of the relation where its walk ends, and nowhere else
abbrev pub WalkIsTheRelation : Type 0
WalkIsTheRelation =
    (find : Finds) (mode : WalkMode) (start : ℕ) (path : List ℕ) (w : WalkEnd) → Walks find mode start path w ↔ (w ≡ walk_of find mode start path)
