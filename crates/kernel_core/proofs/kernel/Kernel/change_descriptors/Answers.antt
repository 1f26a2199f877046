use Rattle.std.proofs.Common.{◌≡◌, ℕ, ◌^◌, List, Some, Ok, is_some, refl, sym, ap, subst, ◌∙◌}
use Rattle.std.specs.Ordering.{nat_cmp}
use Rattle.std.specs.FinMap.{FinMap, get, insert}
use Rattle.abi_types.specs.declared.open_kind.OpenKind.{OpenKind}
use Rattle.maps.specs.Maps.{insert_self, number}
use Rattle.fd_table.specs.Sizes.{below-insert_again}
use Rattle.fd_table.specs.Table.{IsTable}
use Rattle.object_store.specs.Objects.{Held}
use Rattle.abi_types.specs.Families.{call_of_change}
use Rattle.abi_types.specs.declared.reply.Answer.TheVariants as answer
use Rattle.kernel_model.specs.Calls.{takes_memory}
use Rattle.tree_model.specs.Opens.{is_used}
use Rattle.kernel_model.specs.Release.{release}
use Rattle.kernel_model.specs.State.{State, Update, put_all}
use Rattle.kernel_model.specs.Valid.{IsNearlyValid}
use Rattle.kernel_parts.specs.Released.{state_by}
use Rattle.kernel_parts.specs.Changes.{change_outcome, opens_after, table_after}
use Rattle.kernel_core.specs.contracts.kernel.Kernel.{the_view}
use Rattle.readiness_laws.specs.Watched.{looked_at}
use Rattle.kernel_invariant.specs.Held.{AreHeld}
use Rattle.kernel_invariant.specs.Readiness.{number_changed, open_changed, AreLeftBy}
use Rattle.kernel_invariant.proofs.HeldTables.{change_is_held}
use Rattle.kernel_core.proofs.Released.{kept_released, released_is_held, released_to}
use Rattle.kernel_invariant.proofs.Changes.{change_of_own, change_small, change_valid, puts_are}
use Rattle.kernel_invariant.proofs.Channels.{counts_few, covered_alone, table_counts}
use Rattle.kernel_core.proofs.Done.{done_at, lacked}
use Rattle.kernel_invariant.proofs.Kept.{kept_again, small_set}
use Rattle.kernel_core.proofs.Uses.{change_use}
use Rattle.kernel_core.proofs.kernel.Kernel.change_descriptors.Goals as goal
use Rattle.kernel_core.proofs.kernel.Kernel.change_descriptors.Goals.{In_err-reply, After-release}

pub change_table-requires-clause-covered : goal.change_table-requires-clause-covered
change_table-requires-clause-covered c =
    covered_alone c.self.inside.tables c.from-p.result c.get_mut.result.now (sym c.get_mut.ensures.value) c.self.inside.channels c.self.inside.objects.counts
    c.self.invariant.kept.counted

pub change_table-requires-clause-few : goal.change_table-requires-clause-few
change_table-requires-clause-few c =
    counts_few (the_view c.self.inside) c.self.inside.objects.counts c.self.invariant.kept.counted c.self.invariant.kept.small c.self.invariant.kept.processes c.self.invariant.kept.few

-- ---- where memory runs out nothing has changed

abbrev unchanged : In_err-reply → State
unchanged c = record (the_view c.self.inside) {
  tables = insert c.self.inside.tables c.from-p.result c.change_table.new.table;
  opens = c.change_table.new.objects.kinds;
}

same_tables : (c : In_err-reply) → insert c.self.inside.tables c.from-p.result c.change_table.new.table ≡ c.self.inside.tables
same_tables c =
    ap (insert c.self.inside.tables c.from-p.result) (c.in_err-reply.ensures.done c.args.pid).2 ∙ insert_self c.self.inside.tables c.from-p.result c.get_mut.result.now (sym c.get_mut.ensures.value)

as_before : (c : In_err-reply) → unchanged c ≡ the_view c.self.inside
as_before c = λ i. record (the_view c.self.inside) {
  tables = same_tables c i;
  opens = (ap (λ (h : Held). h.kinds) (c.in_err-reply.ensures.done c.args.pid).3) i;
}

pub invariant_of-self : goal.invariant_of-self
invariant_of-self d = record {
  kept =
      let c = (goal.at.invariant_of-self d).In_err-reply in
      kept_again (the_view d.self.inside) d.self.inside.objects.counts d.self.invariant.kept (unchanged c) d.change_table.new.objects.counts (as_before c)
      (λ o. ap (λ (h : Held). number (get h.counts o)) (d.in_err-reply.ensures.done d.args.pid).3);
  waits = subst (λ (U : State). AreHeld (looked_at U) d.self.inside.waits) (sym (as_before (goal.at.invariant_of-self d).In_err-reply)) d.self.invariant.waits;
}

-- and the change would succeed
pub returns-in_err-reply : goal.returns-in_err-reply
returns-in_err-reply d = λ table here.
    let c = (goal.at.returns-in_err-reply d).In_err-reply in
    let S = the_view d.self.inside in
    let takes = takes_memory (call_of_change d.args.change) in
    let found : get S.tables d.args.pid ≡ Some d.get_mut.result.now = ap (get S.tables) (sym (d.from-p.ensures ∙ d.pid.view_is)) ∙ sym d.get_mut.ensures.value in
    done_at S d.args.self.now d.self.view_is takes (λ X t. change_outcome d.args.pid X.opens t d.args.change) d.args.pid d.get_mut.result.now table (unchanged c)
    d.from_residual.result found here
    (lacked takes (change_outcome d.args.pid S.opens d.get_mut.result.now d.args.change) S (unchanged c) d.from_residual.result d.from_residual.ensures.0
    (d.in_err-reply.ensures.done d.args.pid).0 (d.in_err-reply.ensures.done d.args.pid).1 (as_before c))

-- ---- the change, and what ends after it

-- the table that was changed
there : (c : After-release) → get c.self.inside.tables c.args.pid ≡ Some c.get_mut.result.now
there c = ap (get c.self.inside.tables) (sym (c.from-p.ensures ∙ c.pid.view_is)) ∙ sym c.get_mut.ensures.value

abbrev us : After-release → List Update
us c = (change_outcome c.args.pid c.self.inside.objects.kinds c.get_mut.result.now c.args.change).updates

-- the fields as they are in the end
abbrev fields : After-release → State
fields c = record (the_view c.self.inside) {
  tables = c.release.new.tables;
  processes = c.release.new.processes;
  statuses = c.release.new.statuses;
  opens = c.release.new.objects.kinds;
  nodes = c.release.new.tree.nodes;
  names = c.release.new.tree.names;
  chans = c.release.new.channels;
}

-- the state with the change alone
abbrev changed : After-release → State
changed c = record (the_view c.self.inside) {
  tables = insert c.self.inside.tables c.args.pid (table_after c.get_mut.result.now (us c));
  opens = opens_after c.self.inside.objects.kinds (us c);
}

set : (c : After-release) → insert c.self.inside.tables c.from-p.result c.change_table.new.table ≡ insert c.self.inside.tables c.args.pid (table_after c.get_mut.result.now (us c))
set c =
    ap (insert c.self.inside.tables c.from-p.result) (c.in_ok-reply.ensures.done c.args.pid).1
    ∙ ap (λ (p : ℕ). insert c.self.inside.tables p (table_after c.get_mut.result.now (us c))) (c.from-p.ensures ∙ c.pid.view_is)

puts : (c : After-release) → put_all (us c) (the_view c.self.inside) ≡ changed c
puts c =
    puts_are (us c) (the_view c.self.inside) c.args.pid c.get_mut.result.now (there c)
    (change_of_own c.args.pid c.self.inside.objects.kinds c.get_mut.result.now c.args.change)

released : (c : After-release) → fields c ≡ release (changed c)
released c =
    let k = c.self.inside in
    released_to (changed c) _ _ (λ i. state_by (set c i) k.processes k.statuses ((c.in_ok-reply.ensures.done c.args.pid).2 i) k.channels k.tree) c.release.ensures.state

pub release-requires-clause-counted : goal.release-requires-clause-counted
release-requires-clause-counted c =
    table_counts c.self.inside.tables c.from-p.result c.get_mut.result.now (sym c.get_mut.ensures.value) c.self.inside.channels c.self.inside.objects.counts
    c.self.invariant.kept.counted c.change_table.new.table c.change_table.new.objects.counts c.in_ok-reply.ensures.counts

-- each node is as much used after the change as before it, and so is used
pub release-requires-clause-used : goal.release-requires-clause-used
release-requires-clause-used c = λ n there.
    ap (λ (m : FinMap nat_cmp OpenKind). is_used m c.self.inside.tree n) (c.in_ok-reply.ensures.done c.args.pid).2
    ∙ change_use c.args.pid c.self.inside.objects.kinds c.get_mut.result.now c.self.inside.tree n c.args.change ∙ c.self.invariant.kept.valid.kept n there

pub release-requires-clause-going : goal.release-requires-clause-going
release-requires-clause-going c = c.self.invariant.kept.valid.going

pub release-requires-clause-tree : goal.release-requires-clause-tree
release-requires-clause-tree c = c.self.invariant.kept.valid.nearly.tree

-- the process had this table before the change
had : (c : After-release) → get c.args.self.now.tables c.args.pid ≡ Some c.get_mut.result.now
had c = ap (λ (S : State). get S.tables c.args.pid) (sym c.self.view_is) ∙ there c

-- what the release is given
abbrev before_release : After-release → State
before_release c = record (the_view c.self.inside) {
  tables = insert c.self.inside.tables c.from-p.result c.change_table.new.table;
  opens = c.change_table.new.objects.kinds;
}

-- those are left that wait on the number, or stand at the open's channels
left : (c : After-release)
    → AreLeftBy c.args.pid (get c.self.inside.processes c.args.pid) (number_changed (Some c.get_mut.result.now) c.args.change)
    (open_changed c.self.inside.objects.kinds (Some c.get_mut.result.now) c.args.change) c.self.inside.waits c.touch_changed.new.waits
left c =
    let own = get c.self.inside.processes c.args.pid in
    let was = c.changed_by-changed.ensures in
    let V = c.self.inside.waits in
    let W = c.touch_changed.new.waits in
    subst (λ kind. AreLeftBy c.args.pid own (number_changed (Some c.get_mut.result.now) c.args.change) kind V W)
    (was.open ∙ ap (λ (S : State). open_changed S.opens (get S.tables c.args.pid) c.args.change) (sym c.self.view_is)
    ∙ ap (λ t. open_changed c.self.inside.objects.kinds t c.args.change) (there c))
    (subst (λ number. AreLeftBy c.args.pid own number c.changed_by-changed.result.1 V W) (was.number
    ∙ ap (λ (S : State). number_changed (get S.tables c.args.pid) c.args.change) (sym c.self.view_is) ∙ ap (λ t. number_changed t c.args.change) (there c))
    c.touch_changed.ensures)

held : (c : After-release) → AreHeld (looked_at (before_release c)) c.touch_changed.new.waits
held c =
    let S = the_view c.self.inside in
    let done = c.in_ok-reply.ensures.done c.args.pid in
    subst (λ (U : State). AreHeld (looked_at U) c.touch_changed.new.waits) (λ i. record S { tables = sym (set c) i; opens = sym done.2 i })
    (change_is_held S c.args.pid c.get_mut.result.now c.args.change c.self.inside.waits c.touch_changed.new.waits (there c)
    (c.self.invariant.kept.processes c.args.pid (ap is_some (there c))) (left c) c.self.invariant.waits)

pub invariant_of-self-2 : goal.invariant_of-self-2
invariant_of-self-2 d = record {
  kept =
      let c = (goal.at.invariant_of-self-2 d).After-release in
      let k = c.self.inside in
      let table = c.get_mut.result.now in
      let fits : IsTable (table_after table (us c)) =
      change_small c.args.pid k.objects.kinds table c.args.change (c.requires.replaced table (had c)) (c.self.invariant.kept.small c.args.pid table (there c)) in
      kept_released (changed c) (fields c) c.release.new.objects.counts (released c)
      (subst IsNearlyValid (puts c) (change_valid (the_view k) c.args.pid table c.args.change (there c) c.self.invariant.kept.valid.nearly))
      c.release.ensures.counted (c.release.ensures.few c.self.invariant.kept.few) (small_set k.tables c.args.pid (table_after table (us c)) c.self.invariant.kept.small fits)
      (below-insert_again (2 ^ 32) k.tables c.args.pid (table_after table (us c)) c.self.invariant.kept.processes (ap is_some (there c)));
  waits =
      let c = (goal.at.invariant_of-self-2 d).After-release in
      released_is_held (before_release c) (fields c) _ d.touch_changed.new.waits d.release.new.waits refl (held c) d.release.ensures.touched refl;
}

pub returns : goal.returns
returns d = λ table here.
    let c = (goal.at.returns d).After-release in
    done_at (the_view d.self.inside) d.args.self.now d.self.view_is (takes_memory (call_of_change d.args.change))
    (λ X t. change_outcome d.args.pid X.opens t d.args.change) d.args.pid d.get_mut.result.now table (fields c) (Ok (answer.Reply d.in_ok-reply.reply)) (there c) here
    ((d.in_ok-reply.ensures.done d.args.pid).0, released c ∙ sym (ap release (puts c)))
