-- Argument data as contracts see it, without where it lies in memory.
use Rattle.std.specs.Prelude.{ℕ, ℤ, suc, max, Bool, List, [], ◌∷◌}

-- a value; Shapes and Pairs are the lists of values and of pairs in a sequence and in a map
mutual
  pub data Shape : Type 0 where
    null : Shape
    binary : List ℕ → Shape
    boolean : Bool → Shape
    descriptor : ℕ → Shape
    integer : ℤ → Shape
    mapping : Pairs → Shape
    sequence : Shapes → Shape
    text : List ℕ → Shape

  pub data Shapes : Type 0 where
    no_items : Shapes
    item : Shape → Shapes → Shapes

  pub data Pairs : Type 0 where
    no_pairs : Pairs
    pair : Shape → Shape → Pairs → Pairs

-- a list as the items of a sequence, and the items as a list
abbrev pub of_list : List Shape → Shapes
of_list [] = no_items
of_list (x ∷ xs) = item x (of_list xs)

abbrev pub to_list : Shapes → List Shape
to_list no_items = []
to_list (item x xs) = x ∷ to_list xs

-- a list as the pairs of a map, and the pairs as a list
abbrev pub of_pairs : List (Shape × Shape) → Pairs
of_pairs [] = no_pairs
of_pairs (p ∷ ps) = pair p.0 p.1 (of_pairs ps)

abbrev pub to_pairs : Pairs → List (Shape × Shape)
to_pairs no_pairs = []
to_pairs (pair k v ps) = (k, v) ∷ to_pairs ps

-- the greatest number of maps and sequences that stand inside each other
abbrev mutual
  pub depth_of : Shape → ℕ
  depth_of null = 0
  depth_of (binary bytes) = 0
  depth_of (boolean b) = 0
  depth_of (descriptor n) = 0
  depth_of (integer i) = 0
  depth_of (mapping ps) = suc (depth_of_pairs ps)
  depth_of (sequence xs) = suc (depth_of_items xs)
  depth_of (text bytes) = 0

  pub depth_of_items : Shapes → ℕ
  depth_of_items no_items = 0
  depth_of_items (item x xs) = max (depth_of x) (depth_of_items xs)

  pub depth_of_pairs : Pairs → ℕ
  depth_of_pairs no_pairs = 0
  depth_of_pairs (pair k v ps) = max (max (depth_of k) (depth_of v)) (depth_of_pairs ps)
