use Rattle.std.proofs.Common.{◌≡◌, ◌+◌, ◌<◌, Some, sym, ap, subst, ◌∙◌}
use Rattle.std.specs.FinMap.{get}
use Rattle.maps.specs.Maps.{number}
use Rattle.object_store.specs.Objects.{Held}
use Rattle.kernel_model.specs.Release.{count_in}
use Rattle.kernel_model.specs.State.{Table}
use Rattle.kernel_parts.proofs.Counts.{counted_there, held_more, moved_over, some_count}
use Rattle.kernel_parts.proofs.Tests.{not_absent}
use Rattle.kernel_parts.proofs.table_change.replace.Goals as goal
use Rattle.kernel_parts.proofs.table_change.replace.Goals.{in-Some-replace, in_default-replace}

pub hold-requires-clause-there : goal.hold-requires-clause-there
hold-requires-clause-there c = counted_there c.args.table.now c.args.from c.in-Some.held.now c.args.objects.now.counts (sym c.in-Some.ensures) c.requires.covered

pub let_go-requires : goal.let_go-requires
let_go-requires c =
    subst (λ (h : Held). 0 < number (get h.counts c.in-Some-replace.gone.id)) (sym c.hold.ensures)
    (held_more c.args.objects.now.counts c.in-Some.held.now c.in-Some-replace.gone
    (some_count c.args.table.now c.args.to c.in-Some-replace.gone c.args.objects.now.counts (sym c.in-Some-replace.ensures.value) c.requires.covered))

pub returns-clause-counts : goal.returns-clause-counts
returns-clause-counts c = λ o.
    elim c.match-replace.branch [
      | in-Some-replace w ↦ (
          let gone = w.in-Some-replace.gone in
          let there : get c.args.table.now c.args.to ≡ Some gone = sym w.in-Some-replace.ensures.value in
          ap (λ (h : Held). number (get h.counts o) + count_in o c.args.table.now) (w.objects-is ∙ w.let_go.ensures.new)
          ∙ moved_over c.args.table.now c.args.to c.in-Some.held.now gone c.args.objects.now.counts c.hold.new.self.counts there
          (some_count c.args.table.now c.args.to gone c.args.objects.now.counts there c.requires.covered) (ap (λ (h : Held). h.counts) c.hold.ensures) o
          ∙ ap (λ (t : Table). number (get c.args.objects.now.counts o) + count_in o t) (sym w.in-Some-replace.ensures.new))
      | in_default-replace w ↦ absurd (not_absent _ c.requires.there (sym w.in_default-replace.ensures.value))
    ]
