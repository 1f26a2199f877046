use Rattle.std.proofs.Common.{◌≡◌, ◌<◌, is_some, sym, ap, subst, ◌∙◌}
use Rattle.std.specs.FinMap.{get, len}
use Rattle.maps.specs.Maps.{number}
use Rattle.object_store.specs.Objects.{Held}
use Rattle.kernel_parts.specs.Released.{state_by}
use Rattle.kernel_parts.proofs.Releases.{after_end, after_node, after_none, after_process, channels_covered, fewer, going_starts, in_the_end, of_no_other, tables_covered}
use Rattle.kernel_parts.specs.Touched.{IsTouched}
use Rattle.kernel_parts.proofs.LeftEntries.{goes_alone, goes_killing, goes_leaving}
use Rattle.kernel_parts.proofs.Touched.{is_touched_self}
use Rattle.kernel_parts.proofs.releasing.release.Goals as goal

pub loop-kind-init : goal.loop-kind-init
loop-kind-init c = (
  going_starts c.args.tables.now c.args.processes.now c.args.statuses.now c.args.channels.now c.args.objects.now c.args.tree.now c.requires.tree c.requires.used c.requires.counted
      c.requires.going,
  λ last. is_touched_self (state_by c.args.tables.now c.args.processes.now c.args.statuses.now c.args.objects.now.kinds c.args.channels.now c.args.tree.now) c.args.waits.now,
)

pub kill-requires : goal.kill-requires
kill-requires c =
    tables_covered (state_by c.args.tables.now c.args.processes.now c.args.statuses.now c.args.objects.now.kinds c.args.channels.now c.args.tree.now) c.args.tree.now
    c.loop-kind.tree c.loop-kind.tables c.loop-kind.processes c.loop-kind.statuses c.loop-kind.channels c.loop-kind.objects c.pop_unheld.new.self
    c.in-Some.field-0-0 c.in-Some.kind c.in-Some.ensures.unheld c.in-Some.ensures.kind c.in-Some.ensures.new c.loop-kind.invariant.0

pub loop-kind-smaller-in-Process : goal.loop-kind-smaller-in-Process
loop-kind-smaller-in-Process c =
    subst (λ n. n < len c.loop-kind.objects.kinds) (sym (ap (λ m. len m) c.kill.ensures.kinds))
    (fewer (state_by c.args.tables.now c.args.processes.now c.args.statuses.now c.args.objects.now.kinds c.args.channels.now c.args.tree.now) c.args.tree.now
    c.loop-kind.tree c.loop-kind.tables c.loop-kind.processes c.loop-kind.statuses c.loop-kind.channels c.loop-kind.objects c.pop_unheld.new.self
    c.in-Some.field-0-0 c.in-Some.kind c.in-Some.ensures.unheld c.in-Some.ensures.kind c.in-Some.ensures.new c.loop-kind.invariant.0)

pub loop-kind-preserved-in-Process : goal.loop-kind-preserved-in-Process
loop-kind-preserved-in-Process c = (
  after_process (state_by c.args.tables.now c.args.processes.now c.args.statuses.now c.args.objects.now.kinds c.args.channels.now c.args.tree.now) c.args.tree.now
      c.loop-kind.tree c.loop-kind.tables c.loop-kind.processes c.loop-kind.statuses c.loop-kind.channels c.loop-kind.objects c.pop_unheld.new.self
      c.in-Some.field-0-0 c.in-Some.kind c.in-Some.ensures.unheld c.in-Some.ensures.kind c.in-Some.ensures.new c.loop-kind.invariant.0 c.in-Process.pid _ c.kill.new.tables c.kill.new.processes
      c.kill.new.statuses c.kill.new.objects c.in-Process.is c.kill.ensures.kinds c.kill.ensures.counts c.kill.ensures.parts,
  goes_killing (state_by c.args.tables.now c.args.processes.now c.args.statuses.now c.args.objects.now.kinds c.args.channels.now c.args.tree.now)
      c.loop-kind.tables c.loop-kind.processes c.loop-kind.statuses c.loop-kind.channels c.loop-kind.objects c.pop_unheld.new.self c.loop-kind.tree
      c.args.waits.now c.loop-kind.waits c.in-Some.field-0-0 c.in-Some.ensures.unheld c.in-Some.ensures.new (c.loop-kind.invariant.0.counted c.in-Some.field-0-0) c.loop-kind.invariant.1
      c.kill.new.tables c.kill.new.processes c.kill.new.statuses c.kill.new.objects c.kill.new.waits c.kill.ensures.touched,
)

pub leave-requires-clause-covered : goal.leave-requires-clause-covered
leave-requires-clause-covered c =
    channels_covered (state_by c.args.tables.now c.args.processes.now c.args.statuses.now c.args.objects.now.kinds c.args.channels.now c.args.tree.now) c.args.tree.now
    c.loop-kind.tree c.loop-kind.tables c.loop-kind.processes c.loop-kind.statuses c.loop-kind.channels c.loop-kind.objects c.pop_unheld.new.self
    c.in-Some.field-0-0 c.in-Some.kind c.in-Some.ensures.unheld c.in-Some.ensures.kind c.in-Some.ensures.new c.loop-kind.invariant.0

pub leave-requires-clause-going : goal.leave-requires-clause-going
leave-requires-clause-going c = c.loop-kind.invariant.0.going

pub loop-kind-smaller-in-End : goal.loop-kind-smaller-in-End
loop-kind-smaller-in-End c =
    subst (λ n. n < len c.loop-kind.objects.kinds) (sym (ap (λ m. len m) c.leave.ensures.kinds))
    (fewer (state_by c.args.tables.now c.args.processes.now c.args.statuses.now c.args.objects.now.kinds c.args.channels.now c.args.tree.now) c.args.tree.now
    c.loop-kind.tree c.loop-kind.tables c.loop-kind.processes c.loop-kind.statuses c.loop-kind.channels c.loop-kind.objects c.pop_unheld.new.self
    c.in-Some.field-0-0 c.in-Some.kind c.in-Some.ensures.unheld c.in-Some.ensures.kind c.in-Some.ensures.new c.loop-kind.invariant.0)

pub loop-kind-preserved-in-End : goal.loop-kind-preserved-in-End
loop-kind-preserved-in-End c = (
  after_end (state_by c.args.tables.now c.args.processes.now c.args.statuses.now c.args.objects.now.kinds c.args.channels.now c.args.tree.now) c.args.tree.now
      c.loop-kind.tree c.loop-kind.tables c.loop-kind.processes c.loop-kind.statuses c.loop-kind.channels c.loop-kind.objects c.pop_unheld.new.self
      c.in-Some.field-0-0 c.in-Some.kind c.in-Some.ensures.unheld c.in-Some.ensures.kind c.in-Some.ensures.new c.loop-kind.invariant.0 _ _ _ _
      c.leave.new.channels c.leave.new.objects c.in-End.is c.leave.ensures.kinds c.leave.ensures.channels c.leave.ensures.going c.leave.ensures.counts
      c.leave.ensures.few,
  goes_leaving (state_by c.args.tables.now c.args.processes.now c.args.statuses.now c.args.objects.now.kinds c.args.channels.now c.args.tree.now)
      c.loop-kind.tables c.loop-kind.processes c.loop-kind.statuses c.loop-kind.channels c.loop-kind.objects c.pop_unheld.new.self c.loop-kind.tree
      c.args.waits.now c.loop-kind.waits c.in-Some.field-0-0 c.in-Some.ensures.unheld c.in-Some.ensures.new (c.loop-kind.invariant.0.counted c.in-Some.field-0-0) c.loop-kind.invariant.1
      c.in-Some.kind c.leave.new.channels c.leave.new.objects c.touch_end.new.waits c.leave.ensures.kinds c.leave.ensures.channels c.loop-kind.invariant.0.going
      c.touch_end.ensures,
)

pub loop-kind-smaller-in-Some-node_of : goal.loop-kind-smaller-in-Some-node_of
loop-kind-smaller-in-Some-node_of c =
    fewer (state_by c.args.tables.now c.args.processes.now c.args.statuses.now c.args.objects.now.kinds c.args.channels.now c.args.tree.now) c.args.tree.now
    c.loop-kind.tree c.loop-kind.tables c.loop-kind.processes c.loop-kind.statuses c.loop-kind.channels c.loop-kind.objects c.pop_unheld.new.self
    c.in-Some.field-0-0 c.in-Some.kind c.in-Some.ensures.unheld c.in-Some.ensures.kind c.in-Some.ensures.new c.loop-kind.invariant.0

pub loop-kind-preserved-in-Some-node_of : goal.loop-kind-preserved-in-Some-node_of
loop-kind-preserved-in-Some-node_of c = (
  after_node (state_by c.args.tables.now c.args.processes.now c.args.statuses.now c.args.objects.now.kinds c.args.channels.now c.args.tree.now) c.args.tree.now
      c.loop-kind.tree c.loop-kind.tables c.loop-kind.processes c.loop-kind.statuses c.loop-kind.channels c.loop-kind.objects c.pop_unheld.new.self
      c.in-Some.field-0-0 c.in-Some.kind c.in-Some.ensures.unheld c.in-Some.ensures.kind c.in-Some.ensures.new c.loop-kind.invariant.0 c.in-Some-node_of.node c.forget_unused.new.tree
      c.in_default-kind.not-Process c.in_default-kind.not-End (of_no_other c.in-Some.kind c.in-Some-node_of.node c.in-Some-node_of.ensures)
      c.forget_unused.ensures.used c.forget_unused.ensures.absent c.forget_unused.ensures.unused c.forget_unused.ensures.tree,
  goes_alone (state_by c.args.tables.now c.args.processes.now c.args.statuses.now c.args.objects.now.kinds c.args.channels.now c.args.tree.now)
      c.loop-kind.tables c.loop-kind.processes c.loop-kind.statuses c.loop-kind.channels c.loop-kind.objects c.pop_unheld.new.self c.loop-kind.tree
      c.args.waits.now c.loop-kind.waits c.in-Some.field-0-0 c.in-Some.ensures.unheld c.in-Some.ensures.new (c.loop-kind.invariant.0.counted c.in-Some.field-0-0) c.loop-kind.invariant.1
      c.forget_unused.new.tree,
)

pub loop-kind-smaller : goal.loop-kind-smaller
loop-kind-smaller c =
    fewer (state_by c.args.tables.now c.args.processes.now c.args.statuses.now c.args.objects.now.kinds c.args.channels.now c.args.tree.now) c.args.tree.now
    c.loop-kind.tree c.loop-kind.tables c.loop-kind.processes c.loop-kind.statuses c.loop-kind.channels c.loop-kind.objects c.pop_unheld.new.self
    c.in-Some.field-0-0 c.in-Some.kind c.in-Some.ensures.unheld c.in-Some.ensures.kind c.in-Some.ensures.new c.loop-kind.invariant.0

pub loop-kind-preserved : goal.loop-kind-preserved
loop-kind-preserved c = (
  after_none (state_by c.args.tables.now c.args.processes.now c.args.statuses.now c.args.objects.now.kinds c.args.channels.now c.args.tree.now) c.args.tree.now
      c.loop-kind.tree c.loop-kind.tables c.loop-kind.processes c.loop-kind.statuses c.loop-kind.channels c.loop-kind.objects c.pop_unheld.new.self
      c.in-Some.field-0-0 c.in-Some.kind c.in-Some.ensures.unheld c.in-Some.ensures.kind c.in-Some.ensures.new c.loop-kind.invariant.0
      c.in_default-kind.not-Process c.in_default-kind.not-End c.in_default-node_of.ensures,
  goes_alone (state_by c.args.tables.now c.args.processes.now c.args.statuses.now c.args.objects.now.kinds c.args.channels.now c.args.tree.now)
      c.loop-kind.tables c.loop-kind.processes c.loop-kind.statuses c.loop-kind.channels c.loop-kind.objects c.pop_unheld.new.self c.loop-kind.tree
      c.args.waits.now c.loop-kind.waits c.in-Some.field-0-0 c.in-Some.ensures.unheld c.in-Some.ensures.new (c.loop-kind.invariant.0.counted c.in-Some.field-0-0) c.loop-kind.invariant.1
      c.loop-kind.tree,
)

pub returns-clause-state : goal.returns-clause-state
returns-clause-state c =
    let first = state_by c.args.tables.now c.args.processes.now c.args.statuses.now c.args.objects.now.kinds c.args.channels.now c.args.tree.now in
    let same : c.pop_unheld.new.self ≡ c.loop-kind.objects = c.in_default.ensures.unchanged in
    ap (λ (h : Held). state_by c.loop-kind.tables c.loop-kind.processes c.loop-kind.statuses h.kinds c.loop-kind.channels c.loop-kind.tree) same
    ∙ in_the_end first c.args.tree.now c.loop-kind.tree c.loop-kind.tables c.loop-kind.processes c.loop-kind.statuses c.loop-kind.channels c.loop-kind.objects
    c.loop-kind.invariant.0 c.pop_unheld.ensures.all (c.pop_unheld.ensures.none.0 (ap is_some c.in_default.is))

pub returns-clause-counted : goal.returns-clause-counted
returns-clause-counted c = λ o.
    ap (λ (h : Held). number (get h.counts o)) c.in_default.ensures.unchanged ∙ c.loop-kind.invariant.0.counted o

pub returns-clause-few : goal.returns-clause-few
returns-clause-few c = c.loop-kind.invariant.0.few

pub returns-clause-touched : goal.returns-clause-touched
returns-clause-touched c = λ last.
    let same : c.pop_unheld.new.self ≡ c.loop-kind.objects = c.in_default.ensures.unchanged in
    let first = state_by c.args.tables.now c.args.processes.now c.args.statuses.now c.args.objects.now.kinds c.args.channels.now c.args.tree.now in
    subst (λ (h : Held). IsTouched first (state_by c.loop-kind.tables c.loop-kind.processes c.loop-kind.statuses h.kinds c.loop-kind.channels c.loop-kind.tree) c.args.waits.now c.loop-kind.waits)
    (sym same) (c.loop-kind.invariant.1 last)
