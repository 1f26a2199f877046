-- The turns that rows of them mean.
use Rattle.std.specs.Prelude.{ℕ, List, [], ◌∷◌, ◌++◌, replicate}
use Rattle.run_types.specs.declared.turn_list.Row.{Row}

abbrev pub turns_in : List Row → List ℕ
turns_in [] = []
turns_in (row ∷ rows) = replicate row.count row.tid ++ turns_in rows
