-- Lists of values that are copied as they stand.
use Rattle.std.specs.Prelude.{List, [], ◌∷◌}

-- the list with the value in the place of its first, if it has one
abbrev pub with_first : {X : Type 0} → X → List X → List X
with_first value [] = []
with_first value (first ∷ rest) = value ∷ rest
