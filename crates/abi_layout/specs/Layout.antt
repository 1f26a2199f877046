-- Layouts of structures in memory: where the number of each field stands, the lowest byte first.
use Rattle.std.specs.Prelude.{◌≡◌, ℕ, ◌+◌, ◌^◌, ◌≤◌, ◌<◌, ◌⊎◌, ⊤, List, [], ◌∷◌, ◌++◌, length, take, drop, slice_index}
use Rattle.byteorder.specs.Endian.{little_from, little_bytes}

-- a field: its name, how many bytes it has, and the place of the first
pub record Field : Type 0 where
  pub name : List ℕ
  pub width : ℕ
  pub offset : ℕ

-- how many bytes a structure has, and its fields by rising offsets
pub record Layout : Type 0 where
  pub size : ℕ
  pub fields : List Field

-- a field of a name, a width and an offset
abbrev pub field : List ℕ → ℕ → ℕ → Field
field name width offset = record { name = name; width = width; offset = offset }

-- ---- the numbers in bytes

-- the number in so many bytes from an offset on, the lowest byte first
unfoldable pub number_from : ℕ → ℕ → List ℕ → ℕ
number_from offset width bytes = little_from offset width bytes

-- the number in a field's bytes
abbrev pub number_at : List ℕ → Field → ℕ
number_at bytes f = number_from f.offset f.width bytes

-- the numbers in the fields' bytes
abbrev pub numbers : List Field → List ℕ → List ℕ
numbers [] bytes = []
numbers (f ∷ fields) bytes = number_at bytes f ∷ numbers fields bytes

-- ---- bytes laid out

-- a place is one of a field's
abbrev pub Covers : Field → ℕ → Type 0
Covers f place = (f.offset ≤ place) × (place < f.offset + f.width)

-- a place is one of some field's
abbrev pub AreCovering : List Field → ℕ → Type 0
AreCovering [] place = ⊥
AreCovering (f ∷ fields) place = Covers f place ⊎ AreCovering fields place

-- bytes are laid out: there are as many as the structure has, each field's bytes are its value's, and every other
-- byte is 0
pub record IsLaidOut (layout : Layout) (values bytes : List ℕ) : Type 0 where
  pub size : length bytes ≡ layout.size
  pub values_at : numbers layout.fields bytes ≡ values
  pub unnamed : (place : ℕ) → ¬ AreCovering layout.fields place → slice_index bytes place ≡ 0

-- each value fits its field's bytes
abbrev pub Fit : List Field → List ℕ → Type 0
Fit [] [] = ⊤
Fit [] (value ∷ values) = ⊥
Fit (f ∷ fields) [] = ⊥
Fit (f ∷ fields) (value ∷ values) = (value < 256 ^ f.width) × Fit fields values

-- the fields follow one another from a place on, and end by the structure's end
abbrev pub FollowFrom : ℕ → List Field → ℕ → Type 0
FollowFrom place [] size = place ≤ size
FollowFrom place (f ∷ fields) size = (place ≤ f.offset) × FollowFrom (f.offset + f.width) fields size

-- no two fields share a byte, and each lies within the structure
abbrev pub IsProper : Layout → Type 0
IsProper layout = FollowFrom 0 layout.fields layout.size

-- ---- bytes written

-- bytes with a number written into so many of them from an offset on, the lowest byte first
unfoldable pub with_number : List ℕ → ℕ → ℕ → ℕ → List ℕ
with_number bytes offset width value = take offset bytes ++ (little_bytes width value ++ drop (offset + width) bytes)

-- bytes with the fields' values written, one after the other
abbrev pub written : List Field → List ℕ → List ℕ → List ℕ
written [] values bytes = bytes
written (f ∷ fields) [] bytes = bytes
written (f ∷ fields) (value ∷ values) bytes = written fields values (with_number bytes f.offset f.width value)
