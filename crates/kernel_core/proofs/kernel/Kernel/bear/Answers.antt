use Rattle.std.proofs.Common.{sym, ap, subst, ◌∙◌}
use Rattle.std.specs.FinMap.{remove}
use Rattle.kernel_model.specs.Families.ForkCalls.{fork_updates}
use Rattle.kernel_model.specs.Release.{release}
use Rattle.kernel_model.specs.State.{State, put_all}
use Rattle.kernel_model.proofs.Valids.{release_valid, same_value}
use Rattle.kernel_core.specs.contracts.kernel.Kernel.{the_view}
use Rattle.readiness_laws.specs.Watched.{looked_at}
use Rattle.kernel_invariant.specs.Held.{AreHeld}
use Rattle.kernel_invariant.proofs.HeldBirths.{born_is_held, unborn_is_held}
use Rattle.kernel_invariant.proofs.Kept.{kept_again}
use Rattle.kernel_invariant.proofs.ForkCalls.{child_seen, counts_room, fork_kept, fork_valid, may_put, opens_counted, opens_there, plan_unheld, put_is}
use Rattle.kernel_core.proofs.kernel.Kernel.bear.Goals as goal

pub put_child-put-requires-clause-may : goal.put_child-put-requires-clause-may
put_child-put-requires-clause-may c =
    may_put (the_view c.self.inside) c.requires.0 c.args.plan.now (child_seen _ _ c.requires.0 c.args.plan.now c.self.view_is c.requires.1)
    c.self.inside.objects.counts c.self.invariant.kept

pub put_child-put-requires-clause-unheld : goal.put_child-put-requires-clause-unheld
put_child-put-requires-clause-unheld c =
    plan_unheld (the_view c.self.inside) c.requires.0 c.args.plan.now (child_seen _ _ c.requires.0 c.args.plan.now c.self.view_is c.requires.1)
    c.self.inside.objects.counts c.self.invariant.kept

pub put_child-put-requires-clause-counted : goal.put_child-put-requires-clause-counted
put_child-put-requires-clause-counted c = opens_counted (the_view c.self.inside) c.self.inside.objects.counts c.self.invariant.kept

pub put_child-put-requires-clause-opens : goal.put_child-put-requires-clause-opens
put_child-put-requires-clause-opens c = λ table n there.
    opens_there (the_view c.self.inside) c.args.plan.now.parent table n there c.self.invariant.kept.valid.nearly

pub put_child-put-requires-clause-few : goal.put_child-put-requires-clause-few
put_child-put-requires-clause-few c = counts_room (the_view c.self.inside) c.self.inside.objects.counts c.self.invariant.kept

-- ---- where memory runs out nothing has changed

pub invariant_of-self-in-Err : goal.invariant_of-self-in-Err
invariant_of-self-in-Err c = record {
  kept =
      let k = c.self.inside in
      let e = c.in-Err.ensures in
      kept_again (the_view k) k.objects.counts c.self.invariant.kept
      (record (the_view k) { tables = c.put_child-put.new.tables; processes = c.put_child-put.new.processes; statuses = c.put_child-put.new.statuses; opens = c.put_child-put.new.objects.kinds })
      c.put_child-put.new.objects.counts
      (λ i. record (the_view k) { tables = e.same_tables i; processes = e.same_processes i; statuses = e.same_statuses i; opens = e.same_kinds i })
      e.same_counts;
  waits =
      let k = c.self.inside in
      let e = c.in-Err.ensures in
      let plan = c.args.plan.now in
      let is = child_seen _ _ c.requires.0 plan c.self.view_is c.requires.1 in
      subst (λ (U : State). AreHeld (looked_at U) c.remove.new.self)
      (λ i. record (the_view k) { tables = sym e.same_tables i; processes = sym e.same_processes i; statuses = sym e.same_statuses i; opens = sym e.same_kinds i })
      (subst (AreHeld (looked_at (the_view k))) (sym (c.remove.ensures ∙ ap (remove c.ensure_entry.new.waits) c.thread_key.ensures))
      (unborn_is_held (the_view k) c.requires.0 plan is k.objects.counts c.self.invariant.kept k.waits c.ensure_entry.new.waits c.in_ok-ensure_entry.ensures.ok c.self.invariant.waits));
}

pub returns-in-Err-clause-err : goal.returns-in-Err-clause-err
returns-in-Err-clause-err c =
    let k = c.self.inside in
    let e = c.in-Err.ensures in
    (λ i. record (the_view k) { tables = e.same_tables i; processes = e.same_processes i; statuses = e.same_statuses i; opens = e.same_kinds i }) ∙ c.self.view_is

-- ---- the child is made

pub invariant_of-self-2 : goal.invariant_of-self-2
invariant_of-self-2 c = record {
  kept =
      let k = c.self.inside in
      let e = c.in_default.ensures in
      let plan = c.args.plan.now in
      let is = child_seen _ _ c.requires.0 plan c.self.view_is c.requires.1 in
      fork_kept (the_view k) c.requires.0 plan is k.objects.counts c.self.invariant.kept
      (record (the_view k) { tables = c.put_child-put.new.tables; processes = c.put_child-put.new.processes; statuses = c.put_child-put.new.statuses; opens = c.put_child-put.new.objects.kinds })
      c.put_child-put.new.objects.counts
      (put_is (the_view k) c.requires.0 plan is k.objects.counts c.self.invariant.kept c.put_child-put.new.tables c.put_child-put.new.processes c.put_child-put.new.statuses
      c.put_child-put.new.objects.kinds e.put)
      e.counts;
  waits =
      let k = c.self.inside in
      let plan = c.args.plan.now in
      let is = child_seen _ _ c.requires.0 plan c.self.view_is c.requires.1 in
      born_is_held (the_view k) c.requires.0 plan is k.objects.counts c.self.invariant.kept c.put_child-put.new.tables c.put_child-put.new.processes
      c.put_child-put.new.statuses c.put_child-put.new.objects.kinds c.in_default.ensures.put k.waits c.ensure_entry.new.waits c.touch_number_of.new.waits
      c.in_ok-ensure_entry.ensures.ok c.touch_number_of.ensures c.self.invariant.waits;
}

pub returns-clause-ok : goal.returns-clause-ok
returns-clause-ok c = λ table own here there.
    let k = c.self.inside in
    let e = c.in_default.ensures in
    let plan = c.args.plan.now in
    let had = c.requires.1 in
    let is = child_seen _ _ c.requires.0 plan c.self.view_is had in
    let mine = same_value _ _ _ had.has_own there in
    let tables = same_value _ _ _ had.has_table here in
    put_is (the_view k) c.requires.0 plan is k.objects.counts c.self.invariant.kept c.put_child-put.new.tables c.put_child-put.new.processes c.put_child-put.new.statuses
    c.put_child-put.new.objects.kinds e.put
    ∙ sym (release_valid _ (fork_valid (the_view k) c.requires.0 plan is k.objects.counts c.self.invariant.kept))
    ∙ ap (λ (S : State). release (put_all (fork_updates plan.parent plan.tid had.own had.table plan.fd) S)) c.self.view_is
    ∙ (λ i. release (put_all (fork_updates plan.parent plan.tid (mine i) (tables i) plan.fd) c.args.self.now))
