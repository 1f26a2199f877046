use Rattle.std.proofs.Common.{◌+◌, sym, ap, ◌∙◌}
use Rattle.std.specs.FinMap.{get}
use Rattle.maps.specs.Maps.{number, remove_absent}
use Rattle.object_store.specs.Objects.{Held}
use Rattle.kernel_model.specs.Release.{count_in}
use Rattle.kernel_model.specs.State.{Table}
use Rattle.kernel_parts.proofs.Counts.{moved_away, some_count}
use Rattle.kernel_parts.proofs.table_change.close.Goals as goal

pub let_go-requires : goal.let_go-requires
let_go-requires c = some_count c.args.table.now c.args.fd c.in-Some.gone c.args.objects.now.counts (sym c.in-Some.ensures.value) c.requires

pub returns-in-Some-clause-counts : goal.returns-in-Some-clause-counts
returns-in-Some-clause-counts c = λ o.
    ap (λ (h : Held). number (get h.counts o) + count_in o c.args.table.now) c.let_go.ensures.new
    ∙ moved_away c.args.table.now c.args.fd c.in-Some.gone c.args.objects.now.counts (sym c.in-Some.ensures.value) c.requires o
    ∙ ap (λ (t : Table). number (get c.args.objects.now.counts o) + count_in o t) (sym c.in-Some.ensures.new)

pub returns-in_default-clause-counts : goal.returns-in_default-clause-counts
returns-in_default-clause-counts c = λ o.
    ap (λ (t : Table). number (get c.args.objects.now.counts o) + count_in o t)
    (sym (c.in_default.ensures.new ∙ remove_absent c.args.table.now c.args.fd (sym c.in_default.ensures.value)))
