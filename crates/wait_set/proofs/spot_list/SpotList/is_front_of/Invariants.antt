use Rattle.std.proofs.Common.{◌≡◌, take}
use Rattle.wait_set.proofs.spot_list.SpotList.is_front_of.Given as goal

abbrev pub invariant-loop-place : goal.invariant-loop-place
invariant-loop-place l = take l.place l.spots ≡ take l.place l.spot-items
