-- The walk of a path: where it ends, by what each name is in each directory.
use Rattle.std.specs.Prelude.{ℕ, zero, suc, ◌&&◌, Bool, true, false, cond, not, nat_lt, List, [], ◌∷◌, ◌++◌, length, Result, Ok, Err}
use Rattle.std.specs.Str.{bytes_eq}
use Rattle.path_lookup.specs.Finding.{Finding, Nothing, Directory, File, Link}
use Rattle.path_lookup.specs.Split.{Component, dot, is_absolute, path_components, text_components}
use Rattle.path_lookup.specs.declared.ends.End.{End}
use Rattle.path_lookup.specs.declared.ends.End.TheVariants as end
use Rattle.path_lookup.specs.declared.ends.WalkFault.{WalkFault}
use Rattle.path_lookup.specs.declared.ends.WalkFault.TheVariants as fault
use Rattle.path_lookup.specs.declared.ends.WalkMode.{WalkMode}
use Rattle.path_lookup.specs.declared.ends.WalkMode.TheVariants as mode
use Rattle.path_lookup.specs.declared.walker.Treatment.{Treatment}
use Rattle.path_lookup.specs.declared.walker.Treatment.TheVariants as treatment

-- the end of a walk, or why it has none
abbrev pub WalkEnd : Type 0
WalkEnd = Result End WalkFault

-- what each name is in each directory
abbrev pub Finds : Type 0
Finds = ℕ → List ℕ → Finding

-- How a walk goes on: by the number of symlinks that it may still follow, the directory where it stands, the directories above
-- that down to the start, nearest first, and the components that are left.
abbrev pub Onward : Type 0
Onward = ℕ → ℕ → List ℕ → List Component → WalkEnd

-- how many components are treated, how many symlinks followed, and how many bytes a name may have
abbrev pub most_components : ℕ
most_components = 1024

abbrev pub most_links : ℕ
most_links = 32

abbrev pub longest_name : ℕ
longest_name = 255

-- whether a mode follows a symlink that is last, and whether it leaves the last component untreated
abbrev pub follows_last : WalkMode → Bool
follows_last mode.Follow = true
follows_last mode.NoFollow = false
follows_last mode.Parent = false

abbrev pub stops_before_last : WalkMode → Bool
stops_before_last mode.Follow = false
stops_before_last mode.NoFollow = false
stops_before_last mode.Parent = true

-- whether a component with these behind it is the last
abbrev pub is_last : List Component → Bool
is_last [] = true
is_last (c ∷ cs) = false

-- No component left: the end is the directory where the walk stands.
abbrev pub arrived : ℕ → WalkEnd
arrived top = Ok (end.Found top)

-- A `.` is dropped.
abbrev pub stay : Onward → ℕ → ℕ → List ℕ → List Component → WalkEnd
stay go links top above rest = go links top above rest

-- A `..` drops the directory where the walk stands. With the start alone it leads outside.
abbrev pub climb : Onward → ℕ → List ℕ → Component → List Component → WalkEnd
climb go links [] c rest = Err (fault.Outside c.index)
climb go links (parent ∷ above) c rest = go links parent above rest

-- A name that isn't there is absent where it is the last and stands in the path itself. Else there is no entry.
abbrev pub lack : ℕ → Component → List Component → WalkEnd
lack top c rest = cond (is_last rest && c.is_in_path) (Ok (end.Absent top c.from c.len)) (Err fault.NoEntry)

-- A directory is where the walk stands next.
abbrev pub enter : Onward → ℕ → ℕ → List ℕ → ℕ → List Component → WalkEnd
enter go links top above n rest = go links n (top ∷ above) rest

-- A symlink that is followed: the components of its text take its place. A text that begins with a slash leads outside.
abbrev pub replace : Onward → ℕ → ℕ → List ℕ → Component → List ℕ → List Component → WalkEnd
replace go links top above c text rest =
    cond (is_absolute text) (Err (fault.Outside c.index)) (go links top above (text_components c.index text ++ rest))

-- One symlink more than may be followed is a fault, whatever its text.
abbrev pub follow : Onward → ℕ → ℕ → List ℕ → Component → List ℕ → List Component → WalkEnd
follow go zero top above c text rest = Err fault.Loop
follow go (suc links) top above c text rest = replace go links top above c text rest

-- Any other name is the end where it is last. Else something that is no directory has a component behind it.
abbrev pub stand : ℕ → List Component → WalkEnd
stand n rest = cond (is_last rest) (Ok (end.Found n)) (Err fault.NotDir)

-- A symlink is followed but where it is last and the mode doesn't follow that.
abbrev pub meet : Onward → WalkMode → ℕ → ℕ → List ℕ → Component → ℕ → List ℕ → List Component → WalkEnd
meet go mode links top above c n text rest =
    cond (is_last rest && not (follows_last mode)) (stand n rest) (follow go links top above c text rest)

-- what comes by what the component's name is in the directory where the walk stands
abbrev pub by_finding : Onward → WalkMode → ℕ → ℕ → List ℕ → Component → List Component → Finding → WalkEnd
by_finding go mode links top above c rest Nothing = lack top c rest
by_finding go mode links top above c rest (Directory n) = enter go links top above n rest
by_finding go mode links top above c rest (File n) = stand n rest
by_finding go mode links top above c rest (Link n text) = meet go mode links top above c n text rest

-- How a component is treated: a name over 255 bytes is too long; the last is left where the mode stops before it; then `.`, `..`,
-- and any other name, which is looked up.
abbrev pub treatment_of : WalkMode → List ℕ → Bool → Treatment
treatment_of mode name last =
    cond (nat_lt longest_name (length name)) treatment.Refused
    (cond (last && stops_before_last mode) treatment.Left
    (cond (bytes_eq name (dot ∷ [])) treatment.Dropped
    (cond (bytes_eq name (dot ∷ dot ∷ [])) treatment.Climbed treatment.LookedUp)))

-- what comes by how the component is treated
abbrev pub by_treatment : Finds → WalkMode → Onward → ℕ → ℕ → List ℕ → Component → List Component → Treatment → WalkEnd
by_treatment find mode go links top above c rest treatment.Refused = Err fault.TooLong
by_treatment find mode go links top above c rest treatment.Left = Ok (end.Last top c.from c.len)
by_treatment find mode go links top above c rest treatment.Dropped = stay go links top above rest
by_treatment find mode go links top above c rest treatment.Climbed = climb go links above c rest
by_treatment find mode go links top above c rest treatment.LookedUp = by_finding go mode links top above c rest (find top c.name)

-- one component of those that are left
abbrev pub step : Finds → WalkMode → Onward → ℕ → ℕ → List ℕ → List Component → WalkEnd
step find mode go links top above [] = arrived top
step find mode go links top above (c ∷ rest) =
    by_treatment find mode go links top above c rest (treatment_of mode c.name (is_last rest))

-- no component may be treated any more
abbrev pub spent : ℕ → List Component → WalkEnd
spent top [] = arrived top
spent top (c ∷ rest) = Err fault.TooLong

-- The walk, by how many components may still be treated. One more is too long, whatever it is.
unfoldable pub walk_within : Finds → WalkMode → ℕ → ℕ → ℕ → List ℕ → List Component → WalkEnd
walk_within find mode zero links top above components = spent top components
walk_within find mode (suc left) links top above components = step find mode (walk_within find mode left) links top above components

-- the walk of a path from a directory, as far as its components go
abbrev pub walk_components : Finds → WalkMode → ℕ → List Component → WalkEnd
walk_components find mode start components = walk_within find mode most_components most_links start [] components

-- The walk of a path from a directory. An empty path is no entry. A path that begins with a slash leads outside at once.
abbrev pub walk_of : Finds → WalkMode → ℕ → List ℕ → WalkEnd
walk_of find mode start [] = Err fault.NoEntry
walk_of find mode start (b ∷ rest) =
    cond (is_absolute (b ∷ rest)) (Err (fault.Outside 0)) (walk_components find mode start (path_components (b ∷ rest)))
