-- What is made at the start and by an entry.
use Rattle.std.proofs.Common.{ℕ, [], Contains, IsSome, refl, sym, subst}
use Rattle.std.specs.FinMap.{empty, get}
use Rattle.abi_types.specs.declared.status.Status.TheVariants.{Live}
use Rattle.run_types.specs.declared.history.Entry.{Entry}
use Rattle.run_types.specs.declared.launch.Launch.{Launch}
use Rattle.kernel_model.specs.State.{State}
use Rattle.kernel_model.specs.Valid.{IsValid}
use Rattle.maps.specs.Maps.{get-insert-same}
use Rattle.run_model.specs.Legal.{Fits}
use Rattle.run_model.specs.Own.{born, Made}
use Rattle.run_model.specs.World.{World, apply, world}
use Rattle.run_model.proofs.Histories.{world_none, first_state}
use Rattle.run_model.proofs.Own as own

-- process 0 is made at the start
pub first_made : (launch : Launch) → Made (world launch []) 0
first_made launch =
    subst (λ (w : World). Made w 0) (sym (world_none launch))
    (subst (λ (S : State). IsSome (get S.statuses 0)) (sym (first_state launch)) (subst IsSome (sym (get-insert-same empty 0 Live)) refl))

-- a process that an act makes was not there before, and is there afterwards
pub born_is_new : (w : World) (e : Entry) (q : ℕ) → IsValid w.state → Fits w e → Contains (born e.act) q → Made w q → ⊥
born_is_new w e q valid fits there made = (own.born_is_new w e q valid fits there).0 made

pub born_is_made : (w : World) (e : Entry) (q : ℕ) → IsValid w.state → Fits w e → Contains (born e.act) q → Made (apply w e) q
born_is_made w e q valid fits there = (own.born_is_new w e q valid fits there).1
