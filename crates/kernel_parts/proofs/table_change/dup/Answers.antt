use Rattle.std.proofs.Common.{◌+◌, true, Ok, refl, sym, ap, subst, ◌∙◌}
use Rattle.std.specs.FinMap.{get}
use Rattle.abi_types.specs.declared.reply.Answer.TheVariants as answer
use Rattle.maps.specs.Maps.{number}
use Rattle.object_store.specs.Objects.{Held}
use Rattle.kernel_model.specs.Families.DescriptorCalls.{dup_of}
use Rattle.kernel_model.specs.Outcome.{Outcome, IsSuccess}
use Rattle.kernel_model.specs.Reply.{success}
use Rattle.kernel_model.specs.Release.{count_in}
use Rattle.kernel_model.specs.State.{Table}
use Rattle.kernel_parts.specs.Changes.{IsChangeDone}
use Rattle.kernel_parts.proofs.Counts.{counted_there, moved_in}
use Rattle.kernel_parts.proofs.Done.{change_lacked}
use Rattle.kernel_parts.proofs.Lowest.{dup_done, dup_full, full_is_none}
use Rattle.kernel_parts.proofs.table_change.dup.Goals as goal

pub hold-requires-clause-there : goal.hold-requires-clause-there
hold-requires-clause-there c = counted_there c.args.table.now c.args.fd c.in-Some.held.now c.args.objects.now.counts (sym c.in-Some.ensures) c.requires.covered

pub returns-then-len-eq-MOST_DESCRIPTORS-clause-done : goal.returns-then-len-eq-MOST_DESCRIPTORS-clause-done
returns-then-len-eq-MOST_DESCRIPTORS-clause-done c = λ p.
    let t = c.args.table.now in
    let h = c.args.objects.now in
    subst (λ (o : Outcome). IsChangeDone true o t t h h (Ok c.refused-then-len-eq-MOST_DESCRIPTORS.result))
    (sym (dup_full p t c.args.fd c.in-Some.held.now (sym c.in-Some.ensures)
    (full_is_none t c.len.ensures.below (sym c.len.ensures.len ∙ c.if-len-eq-MOST_DESCRIPTORS.true))))
    (ap answer.Reply c.refused-then-len-eq-MOST_DESCRIPTORS.ensures, refl, refl)

pub returns-clause-done : goal.returns-clause-done
returns-clause-done c = λ p.
    let t = c.args.table.now in
    let h = c.args.objects.now in
    subst (λ (o : Outcome). IsChangeDone true o t c.insert_at.new.self h c.hold.new.self (Ok c.success.result))
    (sym (dup_done p t c.args.fd c.in-Some-lowest.number c.in-Some.held.now (sym c.in-Some.ensures) c.in-Some-lowest.ensures.free))
    (ap answer.Reply (c.success.ensures ∙ ap (λ n. success n 0) c.from.ensures), c.in_ok-insert_at.ensures.ok, ap (λ (x : Held). x.kinds) c.hold.ensures)

pub returns-clause-counts : goal.returns-clause-counts
returns-clause-counts c = λ o.
    ap (λ (h : Held). number (get h.counts o) + count_in o c.args.table.now) c.hold.ensures
    ∙ moved_in c.args.table.now c.in-Some-lowest.number c.in-Some.held.now c.args.objects.now.counts c.in-Some-lowest.ensures.free.1 o
    ∙ ap (λ (t : Table). number (get c.args.objects.now.counts o) + count_in o t) (sym c.in_ok-insert_at.ensures.ok)

pub returns-in_err-insert_at-clause-done : goal.returns-in_err-insert_at-clause-done
returns-in_err-insert_at-clause-done c = λ p.
    change_lacked (dup_of p c.args.table.now (get c.args.table.now c.args.fd)) c.args.table.now _ c.args.objects.now _ c.from_residual.result c.from_residual.ensures.0 (subst (λ (o : Outcome). IsSuccess o.answer)
    (sym (dup_done p c.args.table.now c.args.fd c.in-Some-lowest.number c.in-Some.held.now (sym c.in-Some.ensures) c.in-Some-lowest.ensures.free)) refl)
    c.in_err-insert_at.ensures.err refl
