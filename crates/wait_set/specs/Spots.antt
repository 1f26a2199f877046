-- Spots, and who stands at each.
--     kind, number      which kind of spot it is, and its number
--     same_spot      whether two spots are one
--     listed x spots      whether the spot is in the list
use Rattle.std.specs.Prelude.{ℕ, Bool, ◌&&◌, List, nat_eq}
use Rattle.std.specs.List.{list_any}
use Rattle.wait_set.specs.declared.spot.Spot.{Spot}
use Rattle.wait_set.specs.declared.spot.Spot.TheVariants.{Channel, Ended, Moment}

abbrev pub kind : Spot → ℕ
kind (Channel n) = 0
kind (Ended n) = 1
kind (Moment n) = 2

abbrev pub number : Spot → ℕ
number (Channel n) = n
number (Ended n) = n
number (Moment n) = n

abbrev pub same_spot : Spot → Spot → Bool
same_spot x y = nat_eq (kind x) (kind y) && nat_eq (number x) (number y)

abbrev pub listed : Spot → List Spot → Bool
listed x spots = list_any (same_spot x) spots
