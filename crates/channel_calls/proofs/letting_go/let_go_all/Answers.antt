use Rattle.std.proofs.Common.{◌≡◌, ℕ, suc, ◌+◌, ◌<◌, ◌∷◌, drop, ap, sym, ◌∙◌, arith}
use Rattle.std.proofs.Math.Seq.{drop-cons}
use Rattle.std.specs.FinMap.{get}
use Rattle.abi_types.specs.declared.descriptor.Descriptor.{Descriptor}
use Rattle.maps.specs.Maps.{number}
use Rattle.kernel_model.specs.Release.{count_carried, names_open}
use Rattle.object_store.specs.Objects.{Held}
use Rattle.channel_calls.proofs.Holders.{first_counts, number-let_go}
use Rattle.channel_calls.proofs.letting_go.let_go_all.Goals as goal

pub loop-descriptor-preserved : goal.loop-descriptor-preserved
loop-descriptor-preserved c =
    let objects = c.loop-descriptor.objects in
    let d = c.descriptor-item.result in
    let i = c.loop-descriptor.descriptor-index in
    let ds = c.args.descriptors.now in
    let next : suc i ≡ i + 1 = omega arith in
    let split : drop i ds ≡ d ∷ drop (i + 1) ds =
    drop-cons ds i d c.loop-descriptor-test.true ∙ ap (λ (x : Descriptor). x ∷ drop (suc i) ds) (sym c.descriptor-item.is) ∙ ap (λ k. d ∷ drop k ds) next in
    let first = first_counts d (drop (i + 1) ds) in
    let whole : (o : ℕ) → count_carried o (drop i ds) ≡ names_open o d + count_carried o (drop (i + 1) ds) = λ o. ap (count_carried o) split in
    let held : 0 < number (get objects.counts d.id) = omega (arith, first, whole d.id, c.loop-descriptor.invariant.covered d.id) in
    let less : (o : ℕ) → number (get c.let_go.new.self.counts o) + names_open o d ≡ number (get objects.counts o) = λ o.
    ap (λ (h : Held). number (get h.counts o) + names_open o d) c.let_go.ensures.new ∙ number-let_go objects.counts d o held in
    record {
      kinds = ap (λ (h : Held). h.kinds) c.let_go.ensures.new ∙ c.loop-descriptor.invariant.kinds;
      covered = λ o. omega (arith, less o, whole o, c.loop-descriptor.invariant.covered o);
      counts = λ o. omega (arith, less o, whole o, c.loop-descriptor.invariant.counts o);
    }
