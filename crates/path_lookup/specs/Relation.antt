-- The walk of a path, said a second time: by clauses, each of which says where one kind of component leads. None of them uses a
-- function of the walk.
use Rattle.std.specs.Prelude.{◌≡◌, ◌≢◌, ◌<◌, ◌≤◌, ◌+◌, ◌⊎◌, ℕ, true, false, List, [], ◌∷◌, ◌++◌, length, Ok, Err}
use Rattle.path_lookup.specs.Finding.{Nothing, Directory, File, Link}
use Rattle.path_lookup.specs.Split.{Component, dot, slash, path_components, text_components}
use Rattle.path_lookup.specs.Walk.{WalkEnd, Finds, most_components, most_links, longest_name}
use Rattle.path_lookup.specs.declared.ends.End.TheVariants as end
use Rattle.path_lookup.specs.declared.ends.WalkFault.TheVariants as fault
use Rattle.path_lookup.specs.declared.ends.WalkMode.{WalkMode}
use Rattle.path_lookup.specs.declared.ends.WalkMode.TheVariants.{Follow, Parent}

-- The text begins with a slash.
abbrev pub BeginsWithSlash : List ℕ → Type 0
BeginsWithSlash text = (rest : List ℕ) × (text ≡ slash ∷ rest)

-- A component, with these behind it, is treated: fewer than 1024 were treated before it, its name has at most 255 bytes, and it
-- isn't the last, or the mode isn't Parent.
pub record IsTreated (mode : WalkMode) (treated : ℕ) (c : Component) (rest : List Component) : Type 0 where
  pub few : treated < most_components
  pub short : length c.name ≤ longest_name
  pub not_left : (rest ≢ []) ⊎ (mode ≢ Parent)

-- The component is looked up: it is treated, and its name is neither `.` nor `..`.
pub record IsLookedUp (mode : WalkMode) (treated : ℕ) (c : Component) (rest : List Component) : Type 0 where
  pub is_treated : IsTreated mode treated c rest
  pub not_dot : c.name ≢ dot ∷ []
  pub not_dots : c.name ≢ dot ∷ dot ∷ []

-- A symlink with these components behind it is followed: it isn't the last, or the mode is Follow.
abbrev pub IsFollowed : WalkMode → List Component → Type 0
IsFollowed mode rest = (rest ≢ []) ⊎ (mode ≡ Follow)

-- Where the components that are left lead: by how many components were treated before them, how many symlinks were followed,
-- and the stack of the directories gone through, the last of them first and the start at the bottom.
pub data Leads (find : Finds) (mode : WalkMode) : ℕ → ℕ → List ℕ → List Component → WalkEnd → Type 0 where
  -- No component is left: the end is the top of the stack.
  arrived : (treated followed top : ℕ) (above : List ℕ) → Leads find mode treated followed (top ∷ above) [] (Ok (end.Found top))
  -- A 1025th component is too long, whatever its name is.
  too_many : (treated followed top : ℕ) (above : List ℕ) (c : Component) (rest : List Component)
      → treated ≡ most_components
      → Leads find mode treated followed (top ∷ above) (c ∷ rest) (Err fault.TooLong)
  -- A name over 255 bytes is too long.
  name_too_long : (treated followed top : ℕ) (above : List ℕ) (c : Component) (rest : List Component)
      → treated < most_components → longest_name < length c.name
      → Leads find mode treated followed (top ∷ above) (c ∷ rest) (Err fault.TooLong)
  -- In the mode Parent the last component is left as it is, where its name has at most 255 bytes: the end is the top of the
  -- stack, with the component's place.
  last_left : (treated followed top : ℕ) (above : List ℕ) (c : Component)
      → treated < most_components → length c.name ≤ longest_name → mode ≡ Parent
      → Leads find mode treated followed (top ∷ above) (c ∷ []) (Ok (end.Last top c.from c.len))
  -- A `.` is dropped.
  dropped : (treated followed top : ℕ) (above : List ℕ) (c : Component) (rest : List Component) (w : WalkEnd)
      → IsTreated mode treated c rest → c.name ≡ dot ∷ []
      → Leads find mode (treated + 1) followed (top ∷ above) rest w
      → Leads find mode treated followed (top ∷ above) (c ∷ rest) w
  -- A `..` drops the top of the stack, where other directories stand below it on the stack.
  climbed : (treated followed top parent : ℕ) (above : List ℕ) (c : Component) (rest : List Component) (w : WalkEnd)
      → IsTreated mode treated c rest → c.name ≡ dot ∷ dot ∷ []
      → Leads find mode (treated + 1) followed (parent ∷ above) rest w
      → Leads find mode treated followed (top ∷ parent ∷ above) (c ∷ rest) w
  -- With the start alone on the stack a `..` leads outside, at its index.
  climbed_outside : (treated followed start : ℕ) (c : Component) (rest : List Component)
      → IsTreated mode treated c rest → c.name ≡ dot ∷ dot ∷ []
      → Leads find mode treated followed (start ∷ []) (c ∷ rest) (Err (fault.Outside c.index))
  -- A name that the top doesn't have is absent there, where it is the last and stands in the path itself.
  absent : (treated followed top : ℕ) (above : List ℕ) (c : Component)
      → IsLookedUp mode treated c [] → find top c.name ≡ Nothing → c.is_in_path ≡ true
      → Leads find mode treated followed (top ∷ above) (c ∷ []) (Ok (end.Absent top c.from c.len))
  -- A name that the top doesn't have is no entry, where it isn't the last or stands in the text of a symlink.
  no_entry : (treated followed top : ℕ) (above : List ℕ) (c : Component) (rest : List Component)
      → IsLookedUp mode treated c rest → find top c.name ≡ Nothing → (rest ≢ []) ⊎ (c.is_in_path ≡ false)
      → Leads find mode treated followed (top ∷ above) (c ∷ rest) (Err fault.NoEntry)
  -- A directory is put on the stack.
  entered : (treated followed top : ℕ) (above : List ℕ) (c : Component) (rest : List Component) (dir : ℕ) (w : WalkEnd)
      → IsLookedUp mode treated c rest → find top c.name ≡ Directory dir
      → Leads find mode (treated + 1) followed (dir ∷ top ∷ above) rest w
      → Leads find mode treated followed (top ∷ above) (c ∷ rest) w
  -- A symlink that is followed: the components of its text, each with its index, take its place.
  link_followed : (treated followed top : ℕ) (above : List ℕ) (c : Component) (rest : List Component) (link : ℕ) (text : List ℕ) (w : WalkEnd)
      → IsLookedUp mode treated c rest → find top c.name ≡ Link link text → IsFollowed mode rest
      → followed < most_links → ¬ BeginsWithSlash text
      → Leads find mode (treated + 1) (followed + 1) (top ∷ above) (text_components c.index text ++ rest) w
      → Leads find mode treated followed (top ∷ above) (c ∷ rest) w
  -- A symlink that is followed and whose text begins with a slash leads outside, at its index.
  link_outside : (treated followed top : ℕ) (above : List ℕ) (c : Component) (rest : List Component) (link : ℕ) (text : List ℕ)
      → IsLookedUp mode treated c rest → find top c.name ≡ Link link text → IsFollowed mode rest
      → followed < most_links → BeginsWithSlash text
      → Leads find mode treated followed (top ∷ above) (c ∷ rest) (Err (fault.Outside c.index))
  -- A 33rd symlink that is to be followed is a loop, whatever its text is.
  link_loop : (treated followed top : ℕ) (above : List ℕ) (c : Component) (rest : List Component) (link : ℕ) (text : List ℕ)
      → IsLookedUp mode treated c rest → find top c.name ≡ Link link text → IsFollowed mode rest
      → followed ≡ most_links
      → Leads find mode treated followed (top ∷ above) (c ∷ rest) (Err fault.Loop)
  -- A file that is last is the end.
  file_found : (treated followed top : ℕ) (above : List ℕ) (c : Component) (file : ℕ)
      → IsLookedUp mode treated c [] → find top c.name ≡ File file
      → Leads find mode treated followed (top ∷ above) (c ∷ []) (Ok (end.Found file))
  -- A symlink that is last and isn't followed is the end.
  link_found : (treated followed top : ℕ) (above : List ℕ) (c : Component) (link : ℕ) (text : List ℕ)
      → IsLookedUp mode treated c [] → find top c.name ≡ Link link text → mode ≢ Follow
      → Leads find mode treated followed (top ∷ above) (c ∷ []) (Ok (end.Found link))
  -- A file with a component behind it is no directory.
  not_directory : (treated followed top : ℕ) (above : List ℕ) (c next : Component) (rest : List Component) (file : ℕ)
      → IsLookedUp mode treated c (next ∷ rest) → find top c.name ≡ File file
      → Leads find mode treated followed (top ∷ above) (c ∷ next ∷ rest) (Err fault.NotDir)

-- Where a path leads from a directory.
pub data Walks (find : Finds) (mode : WalkMode) (start : ℕ) (path : List ℕ) : WalkEnd → Type 0 where
  -- An empty path is no entry.
  empty_path : path ≡ [] → Walks find mode start path (Err fault.NoEntry)
  -- A path that begins with a slash leads outside, at the index 0.
  absolute_path : BeginsWithSlash path → Walks find mode start path (Err (fault.Outside 0))
  -- Any other path leads where its components lead, with the start alone on the stack.
  walked : (w : WalkEnd) → path ≢ [] → ¬ BeginsWithSlash path
      → Leads find mode 0 0 (start ∷ []) (path_components path) w
      → Walks find mode start path w
