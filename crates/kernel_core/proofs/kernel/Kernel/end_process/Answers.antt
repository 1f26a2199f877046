use Rattle.std.proofs.Common.{◌≡◌, ℕ, ◌^◌, true, IsSome, is_some, refl, sym, ap, subst, ◌∙◌, arith}
use Rattle.std.specs.Ordering.{nat_cmp}
use Rattle.std.specs.FinMap.{FinMap, get, insert, remove}
use Rattle.kernel_model.specs.Families.ProcessCalls.{end_updates}
use Rattle.abi_types.specs.declared.open_kind.OpenKind.{OpenKind}
use Rattle.tree_model.specs.Opens.{is_used}
use Rattle.kernel_model.specs.Release.{lives, release}
use Rattle.kernel_model.specs.State.{State, put_all}
use Rattle.kernel_model.specs.Valid.{IsNearlyValid}
use Rattle.kernel_model.proofs.EndedValid.{end_nearly_valid}
use Rattle.kernel_model.proofs.Valids.{lives_by}
use Rattle.kernel_parts.specs.Released.{state_by}
use Rattle.kernel_core.specs.contracts.kernel.Kernel.{the_view}
use Rattle.kernel_invariant.proofs.HeldEnds.{process_end_is_held}
use Rattle.kernel_core.proofs.Released.{kept_released, parts, released_is_held, released_to}
use Rattle.kernel_invariant.proofs.Kept.{below_dropped, small_dropped}
use Rattle.kernel_core.proofs.kernel.Kernel.end_process.Goals as goal
use Rattle.kernel_core.proofs.kernel.Kernel.end_process.Goals.{After-release}

pub drop_table-requires : goal.drop_table-requires
drop_table-requires c = λ o. let counted = c.self.invariant.kept.counted o in omega (arith, counted)

-- the fields as they are in the end
abbrev fields : After-release → State
fields c = record (the_view c.self.inside) {
  tables = c.release.new.tables;
  processes = c.release.new.processes;
  statuses = c.release.new.statuses;
  opens = c.release.new.objects.kinds;
  nodes = c.release.new.tree.nodes;
  names = c.release.new.tree.names;
  chans = c.release.new.channels;
}

-- before anything is released
abbrev unreleased : After-release → State
unreleased c = put_all (end_updates c.args.pid c.args.status) (the_view c.self.inside)

alive : (c : After-release) → lives (get c.self.inside.statuses c.args.pid) ≡ true
alive c = subst (λ (S : State). lives (get S.statuses c.args.pid) ≡ true) (sym c.self.view_is) c.requires.live

nearly : (c : After-release) → IsNearlyValid (unreleased c)
nearly c =
    end_nearly_valid (the_view c.self.inside) c.args.pid c.args.status c.requires.dead (ap is_some (lives_by _ (alive c))) c.self.invariant.kept.valid.nearly

-- the release is given that
given : (c : After-release)
    → state_by c.drop_table.new.tables c.remove.new.self c.replace.new.self c.drop_table.new.objects.kinds c.self.inside.channels c.self.inside.tree
    ≡ parts (unreleased c)
given c =
    let k = c.self.inside in
    let same : c.from-p.result ≡ c.args.pid = c.from-p.ensures ∙ c.pid.view_is in
    let tables : c.drop_table.new.tables ≡ remove k.tables c.args.pid = c.drop_table.ensures.tables ∙ ap (λ (p : ℕ). remove k.tables p) same in
    let own : c.remove.new.self ≡ remove k.processes c.args.pid = c.remove.ensures.new ∙ ap (λ (p : ℕ). remove k.processes p) same in
    let statuses : c.replace.new.self ≡ insert k.statuses c.args.pid c.args.status =
    c.replace.ensures.new ∙ ap (λ (p : ℕ). insert k.statuses p c.args.status) same in
    λ i. state_by (tables i) (own i) (statuses i) (c.drop_table.ensures.kinds i) k.channels k.tree

after : (c : After-release) → fields c ≡ release (unreleased c)
after c = released_to (unreleased c) _ _ (given c) c.release.ensures.state

k_has : (c : After-release) → IsSome (get c.self.inside.tables c.args.pid)
k_has c = c.self.invariant.kept.valid.nearly.tables c.args.pid ∙ alive c

pub release-requires-clause-counted : goal.release-requires-clause-counted
release-requires-clause-counted c = λ o.
    let before = c.self.invariant.kept.counted o in let dropped = c.drop_table.ensures.counts o in omega (arith, before, dropped)

-- each node is used before anything ends, as in each valid state
pub release-requires-clause-used : goal.release-requires-clause-used
release-requires-clause-used c = λ n there.
    ap (λ (m : FinMap nat_cmp OpenKind). is_used m c.self.inside.tree n) c.drop_table.ensures.kinds ∙ c.self.invariant.kept.valid.kept n there

pub release-requires-clause-going : goal.release-requires-clause-going
release-requires-clause-going c = c.self.invariant.kept.valid.going

pub release-requires-clause-tree : goal.release-requires-clause-tree
release-requires-clause-tree c = c.self.invariant.kept.valid.nearly.tree

pub invariant_of-self : goal.invariant_of-self
invariant_of-self c = record {
  kept =
      let a = (goal.at.invariant_of-self c).After-release in
      let k = a.self.inside in
      kept_released (unreleased a) (fields a) a.release.new.objects.counts (after a) (nearly a) a.release.ensures.counted
      (a.release.ensures.few a.self.invariant.kept.few)
      (small_dropped k.tables a.args.pid a.self.invariant.kept.small)
      (below_dropped k.tables a.args.pid (2 ^ 32) a.self.invariant.kept.processes);
  waits =
      let a = (goal.at.invariant_of-self c).After-release in
      let k = a.self.inside in
      released_is_held (unreleased a) (fields a) _ a.touch_ended.new.waits a.release.new.waits (given a)
      (process_end_is_held (the_view k) a.args.pid a.args.status k.waits a.touch_ended.new.waits (a.self.invariant.kept.processes a.args.pid (k_has a)) a.touch_ended.ensures a.self.invariant.waits)
      a.release.ensures.touched refl;
}

pub returns : goal.returns
returns c = rw (← c.self.view_is) (after (goal.at.returns c).After-release)
