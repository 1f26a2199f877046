-- Documents that are read: what holds of each of them.
use Rattle.std.specs.Prelude.{ℕ, ◌<◌, ◌≤◌, List, IsTrue}
use Rattle.std.specs.List.{AllByRecursion}
use Rattle.std.specs.Str.{IsUtf8}
use Rattle.launch_values.specs.Shape.{Shape, Content, Shapes, Pairs, node, null, boolean, integer, text, binary, mapping, sequence, no_items, item, no_pairs, pair, depth_of}
use Rattle.launch_scalars.specs.Numbers.{is_in_range}

-- UTF-8 without a zero byte
abbrev pub IsText : List ℕ → Type 0
IsText bytes = IsUtf8 bytes × AllByRecursion (λ b. 0 < b) bytes

-- integers are from -2^63 to 2^64 - 1, and texts are texts
abbrev mutual
  pub IsSound : Shape → Type 0
  IsSound (node line tag value) = IsSoundContent value

  pub IsSoundContent : Content → Type 0
  IsSoundContent null = Unit {0}
  IsSoundContent (boolean b) = Unit {0}
  IsSoundContent (integer i) = IsTrue (is_in_range i)
  IsSoundContent (text bytes) = IsText bytes
  IsSoundContent (binary bytes) = Unit {0}
  IsSoundContent (mapping ps) = AreSoundPairs ps
  IsSoundContent (sequence xs) = AreSoundItems xs

  pub AreSoundItems : Shapes → Type 0
  AreSoundItems no_items = Unit {0}
  AreSoundItems (item x xs) = IsSound x × AreSoundItems xs

  pub AreSoundPairs : Pairs → Type 0
  AreSoundPairs no_pairs = Unit {0}
  AreSoundPairs (pair k v ps) = IsSound k × IsSound v × AreSoundPairs ps

-- at most 64 maps and sequences stand inside each other
abbrev pub IsDocument : Shape → Type 0
IsDocument x = (depth_of x ≤ 64) × IsSound x
