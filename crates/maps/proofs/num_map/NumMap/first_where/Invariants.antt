use Rattle.std.proofs.Common.{◌≡◌, Bool}
use Rattle.std.specs.Fn.{FnReturnsAt}
use Rattle.maps.specs.Maps.{least_key, first_key}
use Rattle.maps.proofs.num_map.NumMap.first_where.Given as goal

abbrev pub invariant-loop-key : goal.invariant-loop-key
invariant-loop-key g l =
    (goal.iterator-loop-key g).can_next l.key-iterator
    × (goal.iterator-loop-key g).is_finite l.key-iterator
    × ((passes : _ → Bool) → ((v : _) (b : Bool) → FnReturnsAt g.F.Fn l.test v b → b ≡ passes v)
    → least_key (λ _ v. passes v) l.self ≡ first_key (λ _ v. passes v) l.key-iterator)
