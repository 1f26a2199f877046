-- What a map ends as after one of its values was borrowed.
use Rattle.std.specs.Prelude.{ℕ}
use Rattle.std.specs.Borrow.{Lends, MutBor, Fml, RattleType}
use Rattle.std.specs.Ordering.{nat_cmp}
use Rattle.std.specs.FinMap.{FinMap, insert}
use Rattle.maps.specs.contracts.num_map.NumMap.{the_row}

-- the map behind m ends with the last value behind r at the key k
abbrev pub LendsValue : (V : RattleType) → MutBor (FinMap nat_cmp V.Denot) → ℕ → MutBor V.Denot → Fml
LendsValue V m k r = Lends (the_row V) V m r (λ w. insert m.now k w)
