use Rattle.std.proofs.Common.{◌≡◌, ℕ, ◌^◌, Some, IsSome, is_some, refl, sym, ap, subst, ◌∙◌}
use Rattle.std.specs.Ordering.{nat_cmp}
use Rattle.std.specs.FinMap.{FinMap, get, insert}
use Rattle.abi_types.specs.declared.open_kind.OpenKind.{OpenKind}
use Rattle.fd_table.specs.Sizes.{below-insert_again}
use Rattle.tree_model.specs.Opens.{is_used}
use Rattle.kernel_model.specs.OwnChanges.{begun_anew}
use Rattle.kernel_model.specs.Release.{release}
use Rattle.kernel_model.specs.Start.{canary_words}
use Rattle.kernel_model.specs.State.{State, ProcessState, put_all}
use Rattle.kernel_model.specs.Valid.{IsNearlyValid}
use Rattle.kernel_model.proofs.Valids.{same_value}
use Rattle.kernel_parts.specs.Released.{state_by}
use Rattle.process_calls.specs.Forks.{IsOpenOf}
use Rattle.process_calls.specs.NewPrograms.{begun_updates}
use Rattle.kernel_core.specs.contracts.kernel.Kernel.{the_view}
use Rattle.kernel_invariant.proofs.HeldEnds.{begun_is_held, process_few}
use Rattle.kernel_core.proofs.Released.{kept_released, parts, released_is_held, released_to}
use Rattle.kernel_invariant.proofs.Channels.{covered_alone, table_counts}
use Rattle.kernel_invariant.proofs.ForkCalls.{counts_room, opens_counted}
use Rattle.kernel_invariant.proofs.Kept.{small_set}
use Rattle.kernel_core.proofs.kernel.Kernel.begin.Goals as goal
use Rattle.kernel_core.proofs.kernel.Kernel.begin.Goals.{After-get_mut-own, After-release}

-- the process, by its number
same : (c : After-get_mut-own) → c.from-p.result ≡ c.args.pid
same c = c.from-p.ensures ∙ c.pid.view_is

owned : (c : After-get_mut-own) → get c.self.inside.processes c.args.pid ≡ Some c.get_mut-own.result.now
owned c = ap (get c.self.inside.processes) (sym (same c)) ∙ sym c.get_mut-own.ensures.value

seen : (c : After-get_mut-own) → get c.args.self.now.processes c.args.pid ≡ Some c.get_mut-own.result.now
seen c = ap (λ (S : State). get S.processes c.args.pid) (sym c.self.view_is) ∙ owned c

pub begin_anew-requires : goal.begin_anew-requires
begin_anew-requires d =
    let c = (goal.at.begin_anew-requires d).After-get_mut-own in
    d.requires.can c.get_mut-own.result.now (seen c)

pub put_table-requires-clause-covered : goal.put_table-requires-clause-covered
put_table-requires-clause-covered c =
    covered_alone c.self.inside.tables c.from-p.result c.get_mut.result.now (sym c.get_mut.ensures.value) c.self.inside.channels c.self.inside.objects.counts
    c.self.invariant.kept.counted

pub put_table-requires-clause-counted : goal.put_table-requires-clause-counted
put_table-requires-clause-counted c = opens_counted (the_view c.self.inside) c.self.inside.objects.counts c.self.invariant.kept

pub put_table-requires-clause-opens : goal.put_table-requires-clause-opens
put_table-requires-clause-opens c = λ n. subst (λ (S : State). IsOpenOf S.opens (get c.args.table n)) (sym c.self.view_is) (c.requires.opens n)

pub put_table-requires-clause-few : goal.put_table-requires-clause-few
put_table-requires-clause-few c = counts_room (the_view c.self.inside) c.self.inside.objects.counts c.self.invariant.kept

-- the fields as they are in the end
abbrev fields : After-release → State
fields c = record (the_view c.self.inside) {
  tables = c.release.new.tables;
  processes = c.release.new.processes;
  statuses = c.release.new.statuses;
  opens = c.release.new.objects.kinds;
  nodes = c.release.new.tree.nodes;
  names = c.release.new.tree.names;
  chans = c.release.new.channels;
}

-- before anything is released
abbrev unreleased : After-release → State
unreleased c = put_all (begun_updates c.args.pid c.args.tid c.get_mut-own.result.now c.args.table) (the_view c.self.inside)

-- the release is given that
given : (c : After-release)
    → state_by (insert c.self.inside.tables c.from-p.result c.put_table.new.table) (insert c.self.inside.processes c.from-p.result c.begin_anew.new.self) c.self.inside.statuses
    c.put_table.new.objects.kinds c.self.inside.channels c.self.inside.tree ≡ parts (unreleased c)
given c =
    let k = c.self.inside in
    let same : c.from-p.result ≡ c.args.pid = c.from-p.ensures ∙ c.pid.view_is in
    let new : ProcessState = begun_anew canary_words c.args.tid c.get_mut-own.result.now in
    let own : insert k.processes c.from-p.result c.begin_anew.new.self ≡ insert k.processes c.args.pid new =
    ap (insert k.processes c.from-p.result) c.begin_anew.ensures ∙ ap (λ (p : ℕ). insert k.processes p new) same in
    let tables : insert k.tables c.from-p.result c.put_table.new.table ≡ insert k.tables c.args.pid c.args.table =
    ap (insert k.tables c.from-p.result) c.put_table.ensures.table ∙ ap (λ (p : ℕ). insert k.tables p c.args.table) same in
    λ i. state_by (tables i) (own i) k.statuses (c.put_table.ensures.kinds i) k.channels k.tree

after : (c : After-release) → fields c ≡ release (unreleased c)
after c = released_to (unreleased c) _ _ (given c) c.release.ensures.state

pub release-requires-clause-counted : goal.release-requires-clause-counted
release-requires-clause-counted c =
    table_counts c.self.inside.tables c.from-p.result c.get_mut.result.now (sym c.get_mut.ensures.value) c.self.inside.channels c.self.inside.objects.counts
    c.self.invariant.kept.counted c.put_table.new.table c.put_table.new.objects.counts c.put_table.ensures.counts

pub release-requires-clause-used : goal.release-requires-clause-used
release-requires-clause-used c = λ n there.
    ap (λ (m : FinMap nat_cmp OpenKind). is_used m c.self.inside.tree n) c.put_table.ensures.kinds ∙ c.self.invariant.kept.valid.kept n there

pub release-requires-clause-going : goal.release-requires-clause-going
release-requires-clause-going c = c.self.invariant.kept.valid.going

pub release-requires-clause-tree : goal.release-requires-clause-tree
release-requires-clause-tree c = c.self.invariant.kept.valid.nearly.tree

pub invariant_of-self : goal.invariant_of-self
invariant_of-self d = record {
  kept =
      let a = (goal.at.invariant_of-self d).After-release in
      let g = (goal.at.invariant_of-self d).After-get_mut-own in
      let k = a.self.inside in
      let there : IsSome (get k.tables a.args.pid) =
      ap (λ p. is_some (get k.tables p)) (sym (same g)) ∙ ap is_some (sym a.get_mut.ensures.value) in
      let nearly : IsNearlyValid (unreleased a) =
      subst (λ S. IsNearlyValid (put_all (begun_updates a.args.pid a.args.tid a.get_mut-own.result.now a.args.table) S)) (sym a.self.view_is)
      (a.requires.nearly a.get_mut-own.result.now (seen g)) in
      kept_released (unreleased a) (fields a) a.release.new.objects.counts (after a) nearly a.release.ensures.counted
      (a.release.ensures.few a.self.invariant.kept.few)
      (small_set k.tables a.args.pid a.args.table a.self.invariant.kept.small a.requires.small)
      (below-insert_again (2 ^ 32) k.tables a.args.pid a.args.table a.self.invariant.kept.processes there);
  waits =
      let a = (goal.at.invariant_of-self d).After-release in
      let g = (goal.at.invariant_of-self d).After-get_mut-own in
      let k = a.self.inside in
      let own : ProcessState = a.get_mut-own.result.now in
      released_is_held (unreleased a) (fields a) _ a.touch_numbers.new.waits a.release.new.waits (given a)
      (begun_is_held (the_view k) a.args.pid a.args.tid canary_words own a.args.table k.waits a.keep_thread.new.waits a.touch_numbers.new.waits
      (process_few (the_view k) k.objects.counts a.args.pid a.self.invariant.kept (ap is_some (owned g))) (owned g) a.keep_thread.ensures a.touch_numbers.ensures
      a.self.invariant.waits)
      a.release.ensures.touched refl;
}

pub returns : goal.returns
returns d = λ own here.
    let a = (goal.at.returns d).After-release in
    let g = (goal.at.returns d).After-get_mut-own in
    after a ∙ ap (λ (S : State). release (put_all (begun_updates a.args.pid a.args.tid a.get_mut-own.result.now a.args.table) S)) a.self.view_is
    ∙ ap (λ x. release (put_all (begun_updates a.args.pid a.args.tid x a.args.table) a.args.self.now)) (same_value _ _ _ (seen g) here)
