use Rattle.std.proofs.Common.{◌≡◌, ap, subst, ◌∙◌, arith}
use Rattle.std.specs.Ordering.{nat_cmp}
use Rattle.std.specs.FinMap.{FinMap, get, remove}
use Rattle.abi_types.specs.declared.open_kind.OpenKind.{OpenKind}
use Rattle.maps.specs.Maps.{number, get-insert-other, remove-inserted}
use Rattle.object_store.specs.Objects.{Held}
use Rattle.kernel_model.specs.Release.{count_in}
use Rattle.kernel_model.specs.State.{Table}
use Rattle.channel_calls.proofs.Holders.{IsHeld, number-back, other_unheld}
use Rattle.channel_calls.proofs.pairs.put_ends.Goals as goal

pub put_end-requires-2-clause-free : goal.put_end-requires-2-clause-free
put_end-requires-2-clause-free c =
    let one = c.args.one.now in
    let two = c.args.two.now in
    ap (λ (t : Table). get t two.fd) c.in_ok-put_end.ensures.table ∙ get-insert-other c.args.table.now one.fd one.descriptor two.fd c.requires.apart
    ∙ c.requires.free_two

pub put_end-requires-2-clause-new : goal.put_end-requires-2-clause-new
put_end-requires-2-clause-new c =
    let one = c.args.one.now in
    let two = c.args.two.now in
    ap (λ (m : FinMap nat_cmp OpenKind). get m two.descriptor.id) c.in_ok-put_end.ensures.kinds
    ∙ get-insert-other c.args.objects.now.kinds one.descriptor.id one.kind two.descriptor.id c.requires.other ∙ c.requires.new_two

pub put_end-requires-2-clause-unheld : goal.put_end-requires-2-clause-unheld
put_end-requires-2-clause-unheld c =
    let one = c.args.one.now in
    other_unheld c.args.table.now one.fd one.descriptor c.args.objects.now.counts c.put_end.new.objects.counts c.args.two.now.descriptor.id
    c.requires.free_one c.requires.other
    (subst (λ (t : Table). IsHeld c.args.table.now t c.args.objects.now.counts c.put_end.new.objects.counts) c.in_ok-put_end.ensures.table
    c.in_ok-put_end.ensures.counts) c.requires.unheld_two

pub returns-in-Err-clause-same_table : goal.returns-in-Err-clause-same_table
returns-in-Err-clause-same_table c =
    let one = c.args.one.now in
    c.remove.ensures.new ∙ ap (λ (t : Table). remove t one.fd) (c.in-Err.ensures.same_table ∙ c.in_ok-put_end.ensures.table)
    ∙ remove-inserted c.args.table.now one.fd one.descriptor c.requires.free_one

pub returns-in-Err-clause-same_kinds : goal.returns-in-Err-clause-same_kinds
returns-in-Err-clause-same_kinds c =
    let one = c.args.one.now in
    ap (λ (h : Held). h.kinds) c.remove-in-Err.ensures.new
    ∙ ap (λ (m : FinMap nat_cmp OpenKind). remove m one.descriptor.id) (ap (λ (h : Held). h.kinds) c.in-Err.ensures.same_objects ∙ c.in_ok-put_end.ensures.kinds)
    ∙ remove-inserted c.args.objects.now.kinds one.descriptor.id one.kind c.requires.new_one

pub returns-in-Err-clause-counts : goal.returns-in-Err-clause-counts
returns-in-Err-clause-counts c = λ o.
    let one = c.args.one.now in
    let back =
    ap (λ (h : Held). number (get h.counts o)) c.remove-in-Err.ensures.new
    ∙ ap (λ (h : Held). number (get (remove h.counts one.descriptor.id) o)) c.in-Err.ensures.same_objects
    ∙ number-back c.args.table.now one.fd one.descriptor c.args.objects.now.counts c.put_end.new.objects.counts c.requires.free_one c.requires.unheld_one
    (subst (λ (t : Table). IsHeld c.args.table.now t c.args.objects.now.counts c.put_end.new.objects.counts) c.in_ok-put_end.ensures.table
    c.in_ok-put_end.ensures.counts) o in
    let same : count_in o c.remove.new.self ≡ count_in o c.args.table.now = ap (count_in o)
    (c.remove.ensures.new ∙ ap (λ (t : Table). remove t one.fd) (c.in-Err.ensures.same_table ∙ c.in_ok-put_end.ensures.table)
    ∙ remove-inserted c.args.table.now one.fd one.descriptor c.requires.free_one) in
    omega (arith, back, same)
