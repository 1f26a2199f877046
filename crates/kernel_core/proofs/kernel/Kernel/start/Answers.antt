use Rattle.std.proofs.Common.{◌≡◌, sym, ap, subst, ◌∙◌}
use Rattle.std.specs.Ordering.{nat_cmp}
use Rattle.std.specs.FinMap.{insert, empty}
use Rattle.object_store.specs.Objects.{Held}
use Rattle.kernel_parts.specs.Start.{granted_objects}
use Rattle.kernel_model.specs.Start.{granted_table, start_state}
use Rattle.kernel_model.specs.State.{State, Table, no_state}
use Rattle.kernel_model.specs.Valid.{IsValid}
use Rattle.kernel_model.proofs.Starts.{start_valid}
use Rattle.kernel_parts.specs.Keys.{key}
use Rattle.readiness_laws.specs.Watched.{looked_at}
use Rattle.wait_set.specs.Waits.{fresh}
use Rattle.kernel_invariant.specs.Held.{AreHeld}
use Rattle.kernel_invariant.proofs.HeldStanding.{started_is_held}
use Rattle.kernel_invariant.proofs.Starts.{start_kept}
use Rattle.kernel_core.proofs.kernel.Kernel.start.Goals as goal
use Rattle.kernel_core.proofs.kernel.Kernel.start.Goals.{After-new}

-- the fields as they are made
abbrev fields : After-new → State
fields c = record no_state {
  tables = c.in_ok-tables.tables;
  processes = c.in_ok-first.first.processes;
  statuses = c.in_ok-first.first.statuses;
  opens = c.in_ok-table.objects.kinds;
  nodes = c.in_ok-tree.tree.nodes;
  names = c.in_ok-tree.tree.names;
  terms = c.in_ok-terms.terms;
  chans = c.new.result;
}

held : (c : After-new) → c.in_ok-table.objects ≡ granted_objects c.args.launch.now.tree c.args.launch.now.grants
held c = c.in_ok-table.ensures.1 ∙ ap (granted_objects c.args.launch.now.tree) c.as_slice.ensures

made : (c : After-new) → fields c ≡ start_state c.args.launch.now.tree c.args.launch.now.grants c.args.launch.now.stdin
made c =
    let tables : c.in_ok-tables.tables ≡ insert empty 0 (granted_table c.args.launch.now.tree c.args.launch.now.grants) =
    c.in_ok-tables.ensures ∙ ap (λ (t : Table). insert (empty {R = nat_cmp}) 0 t) (c.in_ok-table.ensures.0 ∙ ap (granted_table c.args.launch.now.tree) c.as_slice.ensures) in
    let own = c.in_ok-first.ensures.own in
    let statuses = c.in_ok-first.ensures.lives in
    let opens = ap (λ (h : Held). h.kinds) (held c) in
    let terms = c.in_ok-terms.ensures in
    let tree = c.in_ok-tree.ensures in
    let channels = c.new.ensures in
    λ i. record no_state { tables = tables i; processes = own i; statuses = statuses i; opens = opens i; nodes = (tree i).nodes; names = (tree i).names; terms = terms i; chans = channels i }

pub invariant_of-result : goal.invariant_of-result
invariant_of-result c = record {
  kept =
      start_kept c.args.launch.now.tree c.args.launch.now.grants c.args.launch.now.stdin (fields c) c.in_ok-table.objects.counts c.requires (made c)
      (ap (λ (h : Held). h.counts) (held c));
  waits =
      subst (AreHeld (looked_at (fields c))) (sym c.in_ok-first.ensures.waits)
      (subst (λ (S : State). AreHeld (looked_at S) (insert empty (key 0 1) fresh)) (sym (made c))
      (started_is_held c.args.launch.now.tree c.args.launch.now.grants c.args.launch.now.stdin));
}

pub returns-clause-valid : goal.returns-clause-valid
returns-clause-valid c = subst IsValid (sym (made c)) (start_valid c.args.launch.now.tree c.args.launch.now.grants c.args.launch.now.stdin c.requires)
