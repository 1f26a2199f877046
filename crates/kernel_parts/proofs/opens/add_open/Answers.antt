use Rattle.std.proofs.Common.{◌≡◌, IsSome, is_some, sym, ap, subst, ◌∙◌, arith}
use Rattle.std.specs.FinMap.{get, remove}
use Rattle.maps.specs.Maps.{number, get-insert-same, remove-inserted, total-insert_new}
use Rattle.object_store.specs.Objects.{Held}
use Rattle.kernel_model.specs.Release.{count_in, names_open}
use Rattle.kernel_model.specs.State.{Table}
use Rattle.kernel_parts.proofs.Counts.{number-hold, zero_added}
use Rattle.kernel_parts.proofs.Holding.{count_stays}
use Rattle.kernel_parts.proofs.opens.add_open.Goals as goal

pub returns-in-Err-clause-same_table : goal.returns-in-Err-clause-same_table
returns-in-Err-clause-same_table c =
    c.remove.ensures.new ∙ ap (λ (t : Table). remove t c.args.fd) c.in_ok-insert_at.ensures.ok
    ∙ remove-inserted c.args.table.now c.args.fd c.args.descriptor c.requires.free

pub hold-requires-clause-there : goal.hold-requires-clause-there
hold-requires-clause-there c =
    ap (λ (h : Held). is_some (get h.counts c.args.descriptor.id)) c.in_default.ensures.ok ∙ ap is_some (get-insert-same c.args.objects.now.counts c.args.descriptor.id 0)

pub hold-requires-clause-few : goal.hold-requires-clause-few
hold-requires-clause-few c =
    let none : number (get c.add.new.self.counts c.args.descriptor.id) ≡ 0 =
    ap (λ (h : Held). number (get h.counts c.args.descriptor.id)) c.in_default.ensures.ok
    ∙ ap number (get-insert-same c.args.objects.now.counts c.args.descriptor.id 0) in
    omega (arith, none)

pub returns-clause-counts : goal.returns-clause-counts
returns-clause-counts c = λ o.
    let d = c.args.descriptor in
    let held = ap (λ (h : Held). number (get h.counts o)) c.hold.ensures ∙ number-hold c.add.new.self.counts d o in
    let added = ap (λ (h : Held). number (get h.counts o)) c.in_default.ensures.ok ∙ zero_added c.args.objects.now.counts d.id o c.requires.unheld in
    let grown = ap (count_in o) c.in_ok-insert_at.ensures.ok ∙ total-insert_new (names_open o) c.args.table.now c.args.fd d c.requires.free in
    omega (arith, held, added, grown)

pub returns-clause-there : goal.returns-clause-there
returns-clause-there c = λ o some.
    let d = c.args.descriptor in
    let added : IsSome (get c.add.new.self.counts o) =
    subst (λ (h : Held). IsSome (get h.counts o)) (sym c.in_default.ensures.ok) (count_stays c.args.objects.now.counts d.id 0 o some) in
    subst (λ (h : Held). IsSome (get h.counts o)) (sym c.hold.ensures) (count_stays c.add.new.self.counts d.id _ o added)
