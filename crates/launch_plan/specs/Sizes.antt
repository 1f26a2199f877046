-- How many values stand in the lists of the argument data that a node gives: items, keys and values of keys. Each takes at
-- least a byte of the encoding.
use Rattle.std.specs.Prelude.{ℕ, suc, ◌+◌, ◌<◌, ◌≡◌, Option, Some, None}
use Rattle.launch_values.specs.Shape.{Shape, Content, Shapes, Pairs, node, null, boolean, integer, text, binary, mapping, sequence, no_items, item, no_pairs, pair}

abbrev mutual
  pub values_in : Shape → ℕ
  values_in (node line None value) = values_in_content value
  values_in (node line (Some name) value) = 0

  pub values_in_content : Content → ℕ
  values_in_content null = 0
  values_in_content (boolean b) = 0
  values_in_content (integer i) = 0
  values_in_content (text bytes) = 0
  values_in_content (binary bytes) = 0
  values_in_content (mapping ps) = values_in_pairs ps
  values_in_content (sequence xs) = values_in_items xs

  pub values_in_items : Shapes → ℕ
  values_in_items no_items = 0
  values_in_items (item x xs) = suc (values_in x + values_in_items xs)

  pub values_in_pairs : Pairs → ℕ
  values_in_pairs no_pairs = 0
  values_in_pairs (pair k v ps) = suc (suc (values_in k + values_in v + values_in_pairs ps))

-- what is left of so much room where so much is taken, or that it isn't enough
abbrev pub IsLeft : ℕ → ℕ → Option ℕ → Type 0
IsLeft room taken None = room < taken
IsLeft room taken (Some left) = left + taken ≡ room
