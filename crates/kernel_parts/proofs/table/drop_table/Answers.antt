use Rattle.std.proofs.Common.{◌+◌, sym, ap, ◌∙◌, arith}
use Rattle.std.specs.FinMap.{get}
use Rattle.maps.specs.Maps.{number, total}
use Rattle.kernel_model.specs.Release.{count_in}
use Rattle.kernel_parts.proofs.Releases.{covered, left_holders, none_dropped}
use Rattle.kernel_parts.proofs.table.drop_table.Goals as goal

pub let_go_all-requires : goal.let_go_all-requires
let_go_all-requires c = λ o.
    let own = covered c.args.tables.now c.args.process c.in-Some.table (sym c.remove.ensures.value ∙ c.in-Some.is) o in
    let all = c.requires o in
    omega (arith, own, all)

pub returns-in-Some-clause-counts : goal.returns-in-Some-clause-counts
returns-in-Some-clause-counts c = λ o.
    left_holders c.args.tables.now c.args.process c.in-Some.table c.args.objects.now.counts c.let_go_all.new.objects.counts
    (sym c.remove.ensures.value ∙ c.in-Some.is) c.let_go_all.ensures.counts o
    ∙ sym (ap (λ m. number (get c.args.objects.now.counts o) + total (count_in o) m) c.remove.ensures.new)

pub returns-in_default-clause-counts : goal.returns-in_default-clause-counts
returns-in_default-clause-counts c = λ o.
    none_dropped c.args.tables.now c.args.process o (number (get c.args.objects.now.counts o)) (sym c.remove.ensures.value ∙ c.in_default.is)
    ∙ sym (ap (λ m. number (get c.args.objects.now.counts o) + total (count_in o) m) c.remove.ensures.new)
