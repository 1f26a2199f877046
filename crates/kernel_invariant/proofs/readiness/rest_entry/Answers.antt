use Rattle.std.proofs.Common.{IsSome, is_some, refl, sym, ap, subst, ◌∙◌}
use Rattle.std.specs.FinMap.{get}
use Rattle.maps.specs.Maps.{get-insert-same}
use Rattle.wait_set.specs.Waits.{WaitMap, resting}
use Rattle.kernel_model.proofs.Tests.{not_true}
use Rattle.kernel_invariant.specs.Readiness.{places_by_key}
use Rattle.kernel_invariant.proofs.HeldEntries.{stood_after, there_is}
use Rattle.kernel_invariant.proofs.readiness.rest_entry.Goals as goal

pub stand_anew-requires : goal.stand_anew-requires
stand_anew-requires c =
    let k = c.args.key in
    let there = there_is (get c.args.waits.now k) (sym c.contains.ensures ∙ c.if-contains.true) in
    subst IsSome
    (sym (ap (λ (m : WaitMap). get m k) (c.rest.ensures there.0 there.1) ∙ get-insert-same c.args.waits.now k (resting c.args.is_left there.0))) refl

pub returns-then-contains : goal.returns-then-contains
returns-then-contains c =
    stood_after c.args.key (resting c.args.is_left) (places_by_key c.args.objects.now.kinds c.args.tables.now c.args.processes.now c.args.key) c.args.waits.now
    c.rest.new.self c.stand_anew.new.waits c.rest.ensures c.stand_anew.ensures

pub returns-else-contains : goal.returns-else-contains
returns-else-contains c = λ v there. absurd (not_true (sym c.if-contains.false ∙ c.contains.ensures ∙ ap is_some there))
