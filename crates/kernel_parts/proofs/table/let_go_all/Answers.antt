use Rattle.std.proofs.Common.{◌≡◌, ℕ, ◌+◌, ◌<◌, ap, refl, ◌∙◌, arith}
use Rattle.std.specs.FinMap.{get}
use Rattle.maps.specs.Maps.{number, total-empty}
use Rattle.kernel_model.specs.Release.{names_open, count_in}
use Rattle.object_store.specs.Objects.{Held}
use Rattle.kernel_model.specs.State.{Table}
use Rattle.channel_calls.proofs.Holders.{number-let_go}
use Rattle.kernel_parts.proofs.Counts.{count_in-remove, counted_at_own}
use Rattle.kernel_parts.proofs.table.let_go_all.Goals as goal

pub let_go-requires : goal.let_go-requires
let_go-requires c =
    let own = counted_at_own _ _ _ c.in-Some.ensures.value in
    omega (arith, own, c.loop-descriptor.invariant.covered c.in-Some.descriptor.id)

pub loop-descriptor-preserved : goal.loop-descriptor-preserved
loop-descriptor-preserved c =
    let objects = c.loop-descriptor.objects in
    let d = c.in-Some.descriptor in
    let own = counted_at_own _ _ _ c.in-Some.ensures.value in
    let held : 0 < number (get objects.counts d.id) = omega (arith, own, c.loop-descriptor.invariant.covered d.id) in
    let less : (o : ℕ) → number (get c.let_go.new.self.counts o) + names_open o d ≡ number (get objects.counts o) = λ o.
    ap (λ (h : Held). number (get h.counts o) + names_open o d) c.let_go.ensures.new ∙ number-let_go objects.counts d o held in
    let left : (o : ℕ) → count_in o c.pop_first.new.self + names_open o d ≡ count_in o c.loop-descriptor.table = λ o.
    ap (λ (t : Table). count_in o t + names_open o d) c.in-Some.ensures.new ∙ count_in-remove o _ _ _ c.in-Some.ensures.value in
    record {
      kinds = ap (λ (h : Held). h.kinds) c.let_go.ensures.new ∙ c.loop-descriptor.invariant.kinds;
      covered = λ o. omega (arith, less o, left o, c.loop-descriptor.invariant.covered o);
      counts = λ o. omega (arith, less o, left o, c.loop-descriptor.invariant.counts o);
    }

pub returns-clause-counts : goal.returns-clause-counts
returns-clause-counts c = λ o.
    let gone : count_in o c.loop-descriptor.table ≡ 0 = ap (count_in o) (c.in_default.ensures.none.0 refl) ∙ total-empty _ in
    omega (arith, gone, c.loop-descriptor.invariant.counts o)
