use Rattle.std.proofs.Common.{◌≡◌, is_some, ap, ◌∙◌, arith}
use Rattle.std.specs.FinMap.{get, remove}
use Rattle.maps.specs.Maps.{number, get-insert-same, remove-inserted, total-insert_new}
use Rattle.object_store.specs.Objects.{Held}
use Rattle.kernel_model.specs.Release.{count_in, names_open}
use Rattle.kernel_model.specs.State.{Table}
use Rattle.channel_calls.proofs.Holders.{number-hold, zero_added}
use Rattle.channel_calls.proofs.pairs.put_end.Goals as goal

pub returns-in-Err-clause-same_table : goal.returns-in-Err-clause-same_table
returns-in-Err-clause-same_table c =
    let end = c.args.end.now in
    c.remove.ensures.new ∙ ap (λ (t : Table). remove t end.fd) c.in_ok-insert_at.ensures.ok
    ∙ remove-inserted c.args.table.now end.fd end.descriptor c.requires.free

pub hold-requires-clause-there : goal.hold-requires-clause-there
hold-requires-clause-there c =
    let id = c.args.end.now.descriptor.id in
    ap (λ (h : Held). is_some (get h.counts id)) c.in_default.ensures.ok ∙ ap is_some (get-insert-same c.args.objects.now.counts id 0)

pub hold-requires-clause-few : goal.hold-requires-clause-few
hold-requires-clause-few c =
    let id = c.args.end.now.descriptor.id in
    let none : number (get c.add.new.self.counts id) ≡ 0 =
    ap (λ (h : Held). number (get h.counts id)) c.in_default.ensures.ok ∙ ap number (get-insert-same c.args.objects.now.counts id 0) in
    omega (arith, none)

pub returns-clause-counts : goal.returns-clause-counts
returns-clause-counts c = λ o.
    let end = c.args.end.now in
    let d = end.descriptor in
    let held = ap (λ (h : Held). number (get h.counts o)) c.hold.ensures ∙ number-hold c.add.new.self.counts d o in
    let added = ap (λ (h : Held). number (get h.counts o)) c.in_default.ensures.ok ∙ zero_added c.args.objects.now.counts d.id o c.requires.unheld in
    let grown = ap (count_in o) c.in_ok-insert_at.ensures.ok ∙ total-insert_new (names_open o) c.args.table.now end.fd d c.requires.free in
    omega (arith, held, added, grown)
