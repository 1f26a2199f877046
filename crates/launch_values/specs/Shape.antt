-- Nodes as contracts see them, without where they lie in memory.
use Rattle.std.specs.Prelude.{ℕ, ℤ, suc, ◌+◌, max, Bool, List, [], ◌∷◌, Option}

-- a node: its line, its tag and its value; Shapes and Pairs are the nodes in a sequence and the pairs in a map
mutual
  pub data Shape : Type 0 where
    node : ℕ → Option (List ℕ) → Content → Shape

  pub data Content : Type 0 where
    null : Content
    boolean : Bool → Content
    integer : ℤ → Content
    text : List ℕ → Content
    binary : List ℕ → Content
    mapping : Pairs → Content
    sequence : Shapes → Content

  pub data Shapes : Type 0 where
    no_items : Shapes
    item : Shape → Shapes → Shapes

  pub data Pairs : Type 0 where
    no_pairs : Pairs
    pair : Shape → Shape → Pairs → Pairs

-- a list as the items of a sequence, and as the pairs of a map
abbrev pub of_list : List Shape → Shapes
of_list [] = no_items
of_list (x ∷ xs) = item x (of_list xs)

abbrev pub of_pairs : List (Shape × Shape) → Pairs
of_pairs [] = no_pairs
of_pairs (p ∷ ps) = pair p.0 p.1 (of_pairs ps)

-- the items of a sequence and the pairs of a map as a list
abbrev pub to_list : Shapes → List Shape
to_list no_items = []
to_list (item x xs) = x ∷ to_list xs

abbrev pub to_pairs : Pairs → List (Shape × Shape)
to_pairs no_pairs = []
to_pairs (pair k v ps) = (k, v) ∷ to_pairs ps

-- what a node's value is
abbrev pub content_of : Shape → Content
content_of (node line tag value) = value

-- the greatest number of maps and sequences that stand inside each other
abbrev mutual
  pub depth_of : Shape → ℕ
  depth_of (node line tag value) = depth_of_content value

  pub depth_of_content : Content → ℕ
  depth_of_content null = 0
  depth_of_content (boolean b) = 0
  depth_of_content (integer i) = 0
  depth_of_content (text bytes) = 0
  depth_of_content (binary bytes) = 0
  depth_of_content (mapping ps) = suc (depth_of_pairs ps)
  depth_of_content (sequence xs) = suc (depth_of_items xs)

  pub depth_of_items : Shapes → ℕ
  depth_of_items no_items = 0
  depth_of_items (item x xs) = max (depth_of x) (depth_of_items xs)

  pub depth_of_pairs : Pairs → ℕ
  depth_of_pairs no_pairs = 0
  depth_of_pairs (pair k v ps) = max (max (depth_of k) (depth_of v)) (depth_of_pairs ps)

-- how many values and lists are in a node: what is inside has fewer
abbrev mutual
  pub size_of : Shape → ℕ
  size_of (node line tag value) = suc (size_of_content value)

  pub size_of_content : Content → ℕ
  size_of_content null = 0
  size_of_content (boolean b) = 0
  size_of_content (integer i) = 0
  size_of_content (text bytes) = 0
  size_of_content (binary bytes) = 0
  size_of_content (mapping ps) = suc (size_of_pairs ps)
  size_of_content (sequence xs) = suc (size_of_items xs)

  pub size_of_items : Shapes → ℕ
  size_of_items no_items = 0
  size_of_items (item x xs) = suc (size_of x + size_of_items xs)

  pub size_of_pairs : Pairs → ℕ
  size_of_pairs no_pairs = 0
  size_of_pairs (pair k v ps) = suc (size_of k + size_of v + size_of_pairs ps)
