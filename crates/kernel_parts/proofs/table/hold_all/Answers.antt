use Rattle.std.proofs.Common.{◌+◌, ◌<◌, refl, sym, ap, subst, ◌∙◌, arith}
use Rattle.abi_base.specs.declared.limits.TheConstants.{MOST_DESCRIPTORS}
use Rattle.object_store.specs.Objects.{Held}
use Rattle.kernel_parts.proofs.Holding.{IsHeldBelow, held_all, held_none, held_one, held_past, numbers_left}
use Rattle.kernel_parts.proofs.table.hold_all.Goals as goal
use Rattle.kernel_parts.proofs.table.hold_all.Goals.{in-Some, in_default}

pub loop-left-init : goal.loop-left-init
loop-left-init c =
    let counts = c.args.objects.now.counts in
    record {
      few = omega arith;
      kinds = refl;
      so_far = subst (λ left. IsHeldBelow 0 left c.args.table.now counts counts) (sym c.len-left.ensures.len) (held_none c.args.table.now counts);
    }

pub loop-left-smaller : goal.loop-left-smaller
loop-left-smaller c =
    let below = numbers_left _ _ _ _ _ c.loop-left.invariant.so_far c.len-left.ensures.below c.loop-left-test.true in
    omega (arith, below)

pub loop-left-preserved : goal.loop-left-preserved
loop-left-preserved c =
    let table = c.args.table.now in
    let fd = c.loop-left.fd in
    let before = c.args.objects.now.counts in
    let after = c.loop-left.objects.counts in
    let so = c.loop-left.invariant.so_far in
    let some = c.loop-left-test.true in
    let below : fd < MOST_DESCRIPTORS = numbers_left _ _ _ _ _ so c.len-left.ensures.below some in
    record {
      few = omega (arith, below);
      kinds = elim c.match-get.branch [
        | in-Some w ↦ ap (λ (h : Held). h.kinds) (w.objects-is ∙ w.hold.ensures) ∙ c.loop-left.invariant.kinds
        | in_default w ↦ ap (λ (h : Held). h.kinds) w.objects-is ∙ c.loop-left.invariant.kinds
      ];
      so_far = elim c.match-get.branch [
        | in-Some w ↦ (
            let left = w.left-is in
            held_one fd c.loop-left.left table w.in-Some.descriptor.now before after c.match-get.objects.counts so (sym w.in-Some.ensures)
            (ap (λ (h : Held). h.counts) (w.objects-is ∙ w.hold.ensures)) c.match-get.left (omega (arith, left, some)))
        | in_default w ↦
            subst (λ left. IsHeldBelow (fd + 1) left table before c.match-get.objects.counts) (sym w.left-is)
            (subst (λ (h : Held). IsHeldBelow (fd + 1) c.loop-left.left table before h.counts) (sym w.objects-is)
            (held_past fd c.loop-left.left table before after so (sym w.in_default.ensures)))
      ];
    }

pub returns-clause-counts : goal.returns-clause-counts
returns-clause-counts c =
    let over = c.loop-left-test.false in
    held_all c.loop-left.fd c.args.table.now c.args.objects.now.counts c.loop-left.objects.counts
    (subst (λ left. IsHeldBelow c.loop-left.fd left c.args.table.now c.args.objects.now.counts c.loop-left.objects.counts) (omega (arith, over)) c.loop-left.invariant.so_far)
