use Rattle.std.proofs.Common.{ap, subst, ◌∙◌}
use Rattle.std.specs.Ordering.{nat_cmp}
use Rattle.std.specs.FinMap.{FinMap, get, remove}
use Rattle.abi_types.specs.declared.open_kind.OpenKind.{OpenKind}
use Rattle.maps.specs.Maps.{number, remove-inserted}
use Rattle.object_store.specs.Objects.{Held}
use Rattle.kernel_model.specs.State.{Table}
use Rattle.kernel_parts.specs.Changes.{IsMoved}
use Rattle.kernel_parts.proofs.Counts.{number-back}
use Rattle.kernel_parts.proofs.opens.put_opening.Goals as goal

pub returns-in-Err-clause-same_table : goal.returns-in-Err-clause-same_table
returns-in-Err-clause-same_table c =
    let o = c.args.opening.now in
    c.remove.ensures.new ∙ ap (λ (t : Table). remove t o.fd) c.in_ok-add_open.ensures.table ∙ remove-inserted c.args.table.now o.fd o.descriptor c.requires.free

pub returns-in-Err-clause-same_kinds : goal.returns-in-Err-clause-same_kinds
returns-in-Err-clause-same_kinds c =
    let o = c.args.opening.now in
    ap (λ (h : Held). h.kinds) c.remove-in-Err.ensures.new ∙ ap (λ (m : FinMap nat_cmp OpenKind). remove m o.descriptor.id) c.in_ok-add_open.ensures.kinds
    ∙ remove-inserted c.args.objects.now.kinds o.descriptor.id o.kind c.requires.new

pub returns-in-Err-clause-same_counts : goal.returns-in-Err-clause-same_counts
returns-in-Err-clause-same_counts c = λ n.
    let o = c.args.opening.now in
    ap (λ (h : Held). number (get h.counts n)) c.remove-in-Err.ensures.new
    ∙ number-back c.args.table.now o.fd o.descriptor c.args.objects.now.counts c.add_open.new.objects.counts c.requires.free c.requires.unheld
    (subst (λ (t : Table). IsMoved c.args.table.now t c.args.objects.now.counts c.add_open.new.objects.counts) c.in_ok-add_open.ensures.table c.in_ok-add_open.ensures.counts) n
