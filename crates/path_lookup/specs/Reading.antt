-- What the code's values are: a text that is read, and the texts whose components are left.
use Rattle.std.specs.Prelude.{◌≡◌, ◌≤◌, ℕ, ◌+◌, ◌==◌, Bool, true, false, cond, nat_lt, List, [], length, map, drop, slice_range}
use Rattle.std.specs.List.{AllByRecursion, flat_map}
use Rattle.path_lookup.specs.Split.{Piece, piece, added_dot, names_from, Component, counted_from, given_at}
use Rattle.path_lookup.specs.declared.frames.Component as code
use Rattle.path_lookup.specs.declared.frames.Frame.{Frame}
use Rattle.path_lookup.specs.declared.frames.Place.{Place}

-- ---- a text

-- the name at a place: at a text's end it is the `.` that a slash adds
abbrev pub name_at : List ℕ → Place → Piece
name_at text p = cond (p.from == length text) (added_dot p.from) (piece p.from (slice_range text p.from p.end))

-- the names behind a name that ends here: none, where that is the text's end
abbrev pub names_after : List ℕ → ℕ → List Piece
names_after text end = cond (nat_lt end (length text)) (names_from (end + 1) [] (drop (end + 1) text)) []

-- ---- components

-- the components that names give, of the path itself or of a symlink's text
abbrev pub components_from : Bool → ℕ → List Piece → List Component
components_from true index ps = counted_from index ps
components_from false index ps = map (given_at index) ps

-- the first of these, and the index of the next
abbrev pub component : Bool → ℕ → Piece → Component
component is_in_path index p = record { name = p.name; index = index; is_in_path = is_in_path; from = p.from; len = p.len }

abbrev pub next_index : Bool → ℕ → ℕ
next_index true index = index + 1
next_index false index = index

-- the component that was read
abbrev pub component_of : code.Component → Component
component_of c = record { name = c.name.now; index = c.index; is_in_path = c.is_in_path; from = c.from; len = c.len }

-- ---- texts that are left

-- the components that are left of a text
abbrev pub rest_of : Frame → List Component
rest_of f = components_from f.is_in_path f.index (names_from f.at [] (drop f.at f.text.now))

-- the components that are left of these texts, in order
abbrev pub coming : List Frame → List Component
coming frames = flat_map rest_of frames

-- The place is in the text, and the path has no more components before it than bytes.
pub record IsFrame (f : Frame) : Type 0 where
  pub within : f.at ≤ length f.text.now
  pub counted : f.is_in_path ≡ true → f.index ≤ f.at

abbrev pub AreFrames : List Frame → Type 0
AreFrames frames = AllByRecursion IsFrame frames
