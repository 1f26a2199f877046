-- A code by which proofs distinguish nodes: a node as the list of its parts, outermost first.
use Rattle.std.specs.Prelude.{ℕ, ℤ, pos, negsuc, ◌==◌, if◌then◌else◌, true, false, List, [], ◌∷◌, Option, Some, None, ◌≡◌, refl}
use Rattle.std.proofs.Common.{ap, ◌∙◌}
use Rattle.std.specs.Coded.{Coded, code_by, coded_ℕ, coded_ℤ, coded_list, coded×}
use Rattle.launch_values.specs.Shape.{Shape, Content, Shapes, Pairs, node, null, boolean, integer, text, binary, mapping, sequence, no_items, item, no_pairs, pair}

-- a part: which one it is, a number and bytes
abbrev pub Part : Type 0
Part = ℕ × (ℤ × List ℕ)

-- the parts before those that are given
abbrev mutual
  pub parts : Shape → List Part → List Part
  parts (node line None value) rest = (0, (pos line, [])) ∷ content_parts value rest
  parts (node line (Some tag) value) rest = (1, (pos line, tag)) ∷ content_parts value rest

  pub content_parts : Content → List Part → List Part
  content_parts null rest = (2, (pos 0, [])) ∷ rest
  content_parts (boolean true) rest = (3, (pos 0, [])) ∷ rest
  content_parts (boolean false) rest = (4, (pos 0, [])) ∷ rest
  content_parts (integer i) rest = (5, (i, [])) ∷ rest
  content_parts (text bytes) rest = (6, (pos 0, bytes)) ∷ rest
  content_parts (binary bytes) rest = (7, (pos 0, bytes)) ∷ rest
  content_parts (mapping ps) rest = parts_of_pairs ps rest
  content_parts (sequence xs) rest = parts_of_items xs rest

  pub parts_of_items : Shapes → List Part → List Part
  parts_of_items no_items rest = (8, (pos 0, [])) ∷ rest
  parts_of_items (item x xs) rest = (9, (pos 0, [])) ∷ parts x (parts_of_items xs rest)

  pub parts_of_pairs : Pairs → List Part → List Part
  parts_of_pairs no_pairs rest = (10, (pos 0, [])) ∷ rest
  parts_of_pairs (pair k v ps) rest = (11, (pos 0, [])) ∷ parts k (parts v (parts_of_pairs ps rest))

-- a value by itself, while its node is put together
abbrev pub bare : Content → Shape
bare value = node 0 None value

-- a node given its line and its tag
abbrev pub with_line : ℕ → Option (List ℕ) → List Shape → List Shape
with_line line tag (node l t value ∷ rest) = node line tag value ∷ rest
with_line line tag [] = []

-- a node put before a list of nodes
abbrev pub with_item : List Shape → List Shape
with_item (x ∷ node l t (sequence xs) ∷ rest) = bare (sequence (item x xs)) ∷ rest
with_item other = []

-- a key and its value put before a list of pairs
abbrev pub with_pair : List Shape → List Shape
with_pair (k ∷ v ∷ node l t (mapping ps) ∷ rest) = bare (mapping (pair k v ps)) ∷ rest
with_pair other = []

-- the number of a line
abbrev pub natural : ℤ → ℕ
natural (pos n) = n
natural (negsuc n) = 0

-- what a part makes of the nodes behind it
abbrev pub node_before : Part → List Shape → List Shape
node_before p rest =
    if p.0 == 0 then with_line (natural p.1.0) None rest
    else if p.0 == 1 then with_line (natural p.1.0) (Some p.1.1) rest
    else if p.0 == 2 then bare null ∷ rest
    else if p.0 == 3 then bare (boolean true) ∷ rest
    else if p.0 == 4 then bare (boolean false) ∷ rest
    else if p.0 == 5 then bare (integer p.1.0) ∷ rest
    else if p.0 == 6 then bare (text p.1.1) ∷ rest
    else if p.0 == 7 then bare (binary p.1.1) ∷ rest
    else if p.0 == 8 then bare (sequence no_items) ∷ rest
    else if p.0 == 9 then with_item rest
    else if p.0 == 10 then bare (mapping no_pairs) ∷ rest
    else with_pair rest

-- the nodes that parts make
abbrev pub nodes_of_parts : List Part → List Shape
nodes_of_parts [] = []
nodes_of_parts (p ∷ ps) = node_before p (nodes_of_parts ps)

abbrev pub first_or_null : List Shape → Shape
first_or_null [] = bare null
first_or_null (x ∷ xs) = x

mutual
  pub again : (x : Shape) (rest : List Part) → nodes_of_parts (parts x rest) ≡ x ∷ nodes_of_parts rest
  again (node line None value) rest = ap (with_line line None) (again_content value rest)
  again (node line (Some tag) value) rest = ap (with_line line (Some tag)) (again_content value rest)

  pub again_content : (c : Content) (rest : List Part) → nodes_of_parts (content_parts c rest) ≡ bare c ∷ nodes_of_parts rest
  again_content null rest = refl
  again_content (boolean true) rest = refl
  again_content (boolean false) rest = refl
  again_content (integer i) rest = refl
  again_content (text bytes) rest = refl
  again_content (binary bytes) rest = refl
  again_content (mapping ps) rest = again_pairs ps rest
  again_content (sequence xs) rest = again_items xs rest

  pub again_items : (xs : Shapes) (rest : List Part) → nodes_of_parts (parts_of_items xs rest) ≡ bare (sequence xs) ∷ nodes_of_parts rest
  again_items no_items rest = refl
  again_items (item x xs) rest =
      ap with_item (again x (parts_of_items xs rest) ∙ ap (λ (ys : List Shape). x ∷ ys) (again_items xs rest))

  pub again_pairs : (ps : Pairs) (rest : List Part) → nodes_of_parts (parts_of_pairs ps rest) ≡ bare (mapping ps) ∷ nodes_of_parts rest
  again_pairs no_pairs rest = refl
  again_pairs (pair k v ps) rest =
      ap with_pair (again k (parts v (parts_of_pairs ps rest))
      ∙ ap (λ (ys : List Shape). k ∷ ys) (again v (parts_of_pairs ps rest) ∙ ap (λ (ys : List Shape). v ∷ ys) (again_pairs ps rest)))

abbrev pub shape_code : Coded Shape
shape_code =
    code_by (List Part) (coded_list (coded× coded_ℕ (coded× coded_ℤ (coded_list coded_ℕ)))) (λ x. parts x [])
    (λ ps. first_or_null (nodes_of_parts ps)) (λ x. ap first_or_null (again x []))
