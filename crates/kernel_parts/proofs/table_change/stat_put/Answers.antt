use Rattle.std.proofs.Common.{◌≡◌, ℕ, ◌+◌, cond, Some, sym, ap, ◌∙◌}
use Rattle.std.specs.FinMap.{get, insert}
use Rattle.maps.specs.Maps.{number}
use Rattle.object_store.specs.Objects.{Held}
use Rattle.kernel_model.specs.Families.DescriptorCalls.{lowered_to}
use Rattle.kernel_model.specs.Release.{count_in}
use Rattle.kernel_parts.proofs.Counts.{same_counted}
use Rattle.kernel_parts.proofs.StatPuts.{is_zero, lowered_is, not_zero, stat_table}
use Rattle.kernel_parts.proofs.table_change.stat_put.Goals as goal
use Rattle.kernel_parts.proofs.table_change.stat_put.Goals.{then-flags-ne0, else-flags-ne0, then-flags-ne0-2, else-flags-ne0-2}

pub returns-clause-table : goal.returns-clause-table
returns-clause-table c = λ p.
    let table = c.args.table.now in
    let d = c.in-Some.held.now in
    let new = insert table c.args.fd (lowered_to d c.args.stat.now) in
    let there : get table c.args.fd ≡ Some d = sym c.in-Some.ensures in
    let is = stat_table p c.args.objects.now.kinds table c.args.fd c.args.stat.now c.args.flags d c.in-Some-get.kind.now there (sym c.in-Some-get.ensures) in
    elim c.if-flags-ne0-2.branch [
      | then-flags-ne0-2 w ↦
          w.table-is
          ∙ lowered_is table w.lower.new.self c.args.fd c.args.stat.now d w.meet-base.result w.meet-inheriting.result w.lower.result there w.meet-base.ensures.bits
          w.meet-inheriting.ensures.bits w.lower.ensures.held w.lower.ensures.new
          ∙ sym (ap (λ b. cond b table new) (not_zero _ w.if-flags-ne0-2.true))
          ∙ sym is
      | else-flags-ne0-2 w ↦ w.table-is ∙ sym (ap (λ b. cond b table new) (is_zero _ w.if-flags-ne0-2.false)) ∙ sym is
    ]

pub returns-clause-counts : goal.returns-clause-counts
returns-clause-counts c = λ o.
    let table = c.args.table.now in
    let d = c.in-Some.held.now in
    let there : get table c.args.fd ≡ Some d = sym c.in-Some.ensures in
    let objects : number (get c.if-flags-ne0.objects.counts o) ≡ number (get c.args.objects.now.counts o) =
    elim c.if-flags-ne0.branch [
      | then-flags-ne0 w ↦ ap (λ (h : Held). number (get h.counts o)) (w.objects-is ∙ w.set.ensures)
      | else-flags-ne0 w ↦ ap (λ (h : Held). number (get h.counts o)) w.objects-is
    ] in
    let counted : count_in o c.if-flags-ne0-2.table ≡ count_in o table =
    elim c.if-flags-ne0-2.branch [
      | then-flags-ne0-2 w ↦
          ap (count_in o) (w.table-is
          ∙ lowered_is table w.lower.new.self c.args.fd c.args.stat.now d w.meet-base.result w.meet-inheriting.result w.lower.result there w.meet-base.ensures.bits
          w.meet-inheriting.ensures.bits w.lower.ensures.held w.lower.ensures.new)
          ∙ same_counted o table c.args.fd (lowered_to d c.args.stat.now) d there (λ _. d.id)
      | else-flags-ne0-2 w ↦ ap (count_in o) w.table-is
    ] in
    ap (λ (n : ℕ). n + count_in o table) objects ∙ ap (λ (n : ℕ). number (get c.args.objects.now.counts o) + n) (sym counted)
