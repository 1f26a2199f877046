use Rattle.std.proofs.Common.{◌≡◌, true, List, inr, refl, ap, subst, ◌∙◌}
use Rattle.std.specs.FinMap.{get}
use Rattle.wait_set.specs.declared.spot.Spot.{Spot}
use Rattle.kernel_invariant.specs.Readiness.{places_by_key, places_of, HasStood}
use Rattle.kernel_invariant.proofs.readiness.stand_anew.Goals as goal

pub returns-in-Ok : goal.returns-in-Ok
returns-in-Ok c =
    let table = c.get-table.ensures.value ∙ ap (get c.args.tables.now) (c.from.ensures ∙ c.pid.view_is ∙ c.thread_of_key-pid.ensures.process) in
    let thread = c.thread_at.ensures in
    let places : List Spot = places_by_key c.args.objects.now.kinds c.args.tables.now c.args.processes.now c.args.key in
    let spots : c.as_slice.result.now ≡ places =
    c.as_slice.ensures.value ∙ c.in-Ok.ensures ∙ (λ i. places_of c.args.objects.now.kinds (table i) (thread i)) in
    subst (λ (those : List Spot). HasStood c.args.key (λ v. v) those c.args.waits.now c.stand_anew.new.self) spots c.stand_anew.ensures.there

pub returns-in-Err : goal.returns-in-Err
returns-in-Err c = λ v there. (record v { everywhere = true }, c.spread.ensures v there, inr (v.spots, refl))
