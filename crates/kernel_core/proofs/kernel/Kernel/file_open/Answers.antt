use Rattle.std.proofs.Common.{◌≡◌, ℕ, ◌+◌, ◌^◌, true, Some, Ok, is_some, refl, sym, ap, subst, ◌∙◌, arith}
use Rattle.std.specs.Ordering.{nat_cmp}
use Rattle.std.specs.FinMap.{FinMap, get, insert}
use Rattle.abi_base.specs.declared.limits.TheConstants.{MOST_DESCRIPTORS}
use Rattle.abi_types.specs.declared.reply.Answer.TheVariants as answer
use Rattle.fd_table.specs.Sizes.{below-insert, below-insert_again}
use Rattle.fd_table.specs.Table.{IsTable}
use Rattle.maps.specs.Maps.{insert_self}
use Rattle.tree_model.specs.Opens.{is_used}
use Rattle.tree_model.specs.Retained.{retained}
use Rattle.kernel_model.specs.Families.Numbers.{made_more, next_object}
use Rattle.kernel_model.specs.Outcome.{Outcome, IsSuccess}
use Rattle.kernel_model.specs.Release.{release}
use Rattle.kernel_model.specs.Reply.{success}
use Rattle.kernel_model.specs.State.{ProcessState, State, Table, Tree, counts_in, put_all, tree_of}
use Rattle.kernel_model.specs.Valid.{IsValid}
use Rattle.kernel_model.proofs.Valids.{release_restores}
use Rattle.entry_calls.specs.Plans.{change_of, new_nodes_of}
use Rattle.kernel_core.specs.Opening.{IsOpening, open_outcome}
use Rattle.kernel_core.specs.contracts.kernel.Kernel.{the_view}
use Rattle.kernel_parts.specs.Touching.{HasEach, spread_if}
use Rattle.readiness_laws.specs.Watched.{looked_at}
use Rattle.kernel_invariant.specs.Held.{AreHeld}
use Rattle.kernel_invariant.specs.Readiness.{is_concerned_in}
use Rattle.kernel_invariant.proofs.HeldNew.{opening_is_held}
use Rattle.kernel_invariant.proofs.Channels.{table_counts}
use Rattle.kernel_core.proofs.Done.{done_at, lacked, replied}
use Rattle.kernel_invariant.proofs.Kept.{kept_again, small_set}
use Rattle.kernel_core.proofs.OpenCalls.{none_holds_it, node_is_new, open_answer, open_fits, open_is_new, open_keeps, open_released, open_valid, planned_before}
use Rattle.kernel_core.proofs.kernel.Kernel.file_open.Goals as goal
use Rattle.kernel_core.proofs.kernel.Kernel.file_open.Goals.{After-get_mut-table, In_err-put_opening, After-success}

-- ---- nothing is opened

pub returns-in-Err : goal.returns-in-Err
returns-in-Err c = λ table here.
    let S = c.args.self.now in
    let call = c.args.call.now in
    let now : ℕ = S.clock + c.args.constants.now.epoch in
    replied (open_outcome now S c.args.pid table call.lookup call.path.now call.oflags call.stat) S c.in-Err.reply (subst IsValid c.self.view_is c.self.invariant.kept.valid)
    (c.in-Err.ensures.refused table here now)

-- ---- what is opened was planned for this state

planned : (c : After-get_mut-table) → IsOpening (the_view c.self.inside) c.args.pid c.get_mut-table.result.now c.args.call.now.lookup c.args.call.now.path.now c.args.call.now.oflags
    c.args.call.now.stat c.in-Ok.opening
planned c =
    planned_before (λ S t. IsOpening S c.args.pid t c.args.call.now.lookup c.args.call.now.path.now c.args.call.now.oflags c.args.call.now.stat c.in-Ok.opening) (the_view c.self.inside)
    c.args.self.now c.args.pid c.from-p.result c.get_mut-table.result.now c.self.view_is (c.from-p.ensures ∙ c.pid.view_is) c.get_mut-table.ensures.value
    c.in-Ok.ensures.ok

pub put_opening-requires-clause-few : goal.put_opening-requires-clause-few
put_opening-requires-clause-few d = (planned (goal.at.put_opening-requires-clause-few d).After-get_mut-table).free.0

pub put_opening-requires-clause-free : goal.put_opening-requires-clause-free
put_opening-requires-clause-free d = (planned (goal.at.put_opening-requires-clause-free d).After-get_mut-table).free.1

pub put_opening-requires-clause-new : goal.put_opening-requires-clause-new
put_opening-requires-clause-new d =
    open_is_new (the_view d.self.inside) d.args.pid d.get_mut-table.result.now d.args.call.now.lookup d.args.call.now.path.now d.args.call.now.oflags d.args.call.now.stat d.in-Ok.opening
    (planned (goal.at.put_opening-requires-clause-new d).After-get_mut-table) d.self.invariant.kept.valid

pub put_opening-requires-clause-unheld : goal.put_opening-requires-clause-unheld
put_opening-requires-clause-unheld d =
    d.self.invariant.kept.counted d.in-Ok.opening.descriptor.id
    ∙ none_holds_it (the_view d.self.inside) d.args.pid d.get_mut-table.result.now d.args.call.now.lookup d.args.call.now.path.now d.args.call.now.oflags d.args.call.now.stat d.in-Ok.opening
    (planned (goal.at.put_opening-requires-clause-unheld d).After-get_mut-table) d.self.invariant.kept.valid

pub put_opening-requires-clause-made : goal.put_opening-requires-clause-made
put_opening-requires-clause-made d =
    node_is_new (the_view d.self.inside) d.args.pid d.get_mut-table.result.now d.args.call.now.lookup d.args.call.now.path.now d.args.call.now.oflags d.args.call.now.stat d.in-Ok.opening
    (planned (goal.at.put_opening-requires-clause-made d).After-get_mut-table) d.self.invariant.kept.valid

-- ---- where memory runs out nothing has changed

abbrev unchanged : In_err-put_opening → State
unchanged c = record (the_view c.self.inside) {
  tables = insert c.self.inside.tables c.from-p.result c.put_opening.new.table;
  opens = c.put_opening.new.objects.kinds;
  nodes = c.put_opening.new.tree.nodes;
  names = c.put_opening.new.tree.names;
}

as_before : (c : In_err-put_opening) → unchanged c ≡ the_view c.self.inside
as_before c =
    let tables : insert c.self.inside.tables c.from-p.result c.put_opening.new.table ≡ c.self.inside.tables =
    ap (insert c.self.inside.tables c.from-p.result) c.in_err-put_opening.ensures.same_table
    ∙ insert_self c.self.inside.tables c.from-p.result c.get_mut-table.result.now (sym c.get_mut-table.ensures.value) in
    λ i. record (the_view c.self.inside) {
      tables = tables i;
      opens = c.in_err-put_opening.ensures.same_kinds i;
      nodes = (c.in_err-put_opening.ensures.same_tree i).nodes;
      names = (c.in_err-put_opening.ensures.same_tree i).names;
    }

pub invariant_of-self : goal.invariant_of-self
invariant_of-self d = record {
  kept =
      let c = (goal.at.invariant_of-self d).In_err-put_opening in
      kept_again (the_view d.self.inside) d.self.inside.objects.counts d.self.invariant.kept (unchanged c) d.put_opening.new.objects.counts (as_before c)
      d.in_err-put_opening.ensures.same_counts;
  waits = subst (λ (S : State). AreHeld (looked_at S) d.self.inside.waits) (sym (as_before (goal.at.invariant_of-self d).In_err-put_opening)) d.self.invariant.waits;
}

-- what was planned succeeds
pub returns-in_err-put_opening : goal.returns-in_err-put_opening
returns-in_err-put_opening d = λ table here.
    let c = (goal.at.returns-in_err-put_opening d).In_err-put_opening in
    let S = d.args.self.now in
    let call = d.args.call.now in
    let now : ℕ = S.clock + d.args.constants.now.epoch in
    lacked true (open_outcome now S d.args.pid table call.lookup call.path.now call.oflags call.stat) S (unchanged c) d.from_residual.result d.from_residual.ensures.0 refl
    (subst IsSuccess (sym (open_answer S d.args.pid table call.lookup call.path.now call.oflags call.stat d.in-Ok.opening (d.in-Ok.ensures.ok table here)
    (subst IsValid d.self.view_is d.self.invariant.kept.valid) now)) refl)
    (as_before c ∙ d.self.view_is)

-- ---- something is opened

-- the numbers of its process have room
pub make-requires : goal.make-requires
make-requires d =
    let S = the_view d.self.inside in
    let fits = open_fits S d.args.pid d.get_mut-table.result.now d.args.call.now.lookup d.args.call.now.path.now d.args.call.now.oflags d.args.call.now.stat d.in-Ok.opening
    (planned (goal.at.make-requires d).After-get_mut-table) d.self.invariant.kept.valid in
    let own : get S.processes d.args.pid ≡ Some d.get_mut.result.now =
    ap (get S.processes) (sym (d.from-p.ensures ∙ d.pid.view_is)) ∙ sym d.get_mut.ensures.value in
    let made = ap (λ o. (counts_in o).objects) own in
    let new_nodes = d.new_nodes.ensures in
    omega (arith, fits.1, made, new_nodes)

-- what its process had
there : (c : After-success) → get c.self.inside.tables c.args.pid ≡ Some c.get_mut-table.result.now
there c = ap (get c.self.inside.tables) (sym (c.from-p.ensures ∙ c.pid.view_is)) ∙ sym c.get_mut-table.ensures.value

owned : (c : After-success) → get c.self.inside.processes c.args.pid ≡ Some c.get_mut.result.now
owned c = ap (get c.self.inside.processes) (sym (c.from-p.ensures ∙ c.pid.view_is)) ∙ sym c.get_mut.ensures.value

abbrev Plans : After-success → Type 0
Plans c = IsOpening (the_view c.self.inside) c.args.pid c.get_mut-table.result.now c.args.call.now.lookup c.args.call.now.path.now c.args.call.now.oflags c.args.call.now.stat c.in-Ok.opening

abbrev outcome : After-success → Outcome
outcome c =
    open_outcome (c.self.inside.clock + c.args.constants.now.epoch) (the_view c.self.inside) c.args.pid c.get_mut-table.result.now c.args.call.now.lookup c.args.call.now.path.now
    c.args.call.now.oflags c.args.call.now.stat

-- the fields as they are in the end
abbrev fields : After-success → State
fields c = record (the_view c.self.inside) {
  tables = insert c.self.inside.tables c.from-p.result c.put_opening.new.table;
  processes = insert c.self.inside.processes c.from-p.result c.make.new.self;
  opens = c.put_opening.new.objects.kinds;
  nodes = c.put_opening.new.tree.nodes;
  names = c.put_opening.new.tree.names;
}

-- those are left that wait on the number; nobody stands at an open that is new
held : (c : After-success) → Plans c → AreHeld (looked_at (fields c)) c.touch_number_of.new.waits
held c plan =
    let S = the_view c.self.inside in
    let p : ℕ = c.args.pid in
    let o = c.in-Ok.opening in
    let same : c.from-p.result ≡ p = c.from-p.ensures ∙ c.pid.view_is in
    let table = c.get_mut-table.result.now in
    let own = c.get_mut.result.now in
    let V = c.self.inside.waits in
    let W = c.touch_number_of.new.waits in
    let new = open_is_new S p table c.args.call.now.lookup c.args.call.now.path.now c.args.call.now.oflags c.args.call.now.stat o plan c.self.invariant.kept.valid in
    let tables : insert S.tables c.from-p.result c.put_opening.new.table ≡ insert S.tables p (insert table o.fd o.descriptor) =
    ap (insert S.tables c.from-p.result) c.in_ok-put_opening.ensures.table ∙ ap (λ (q : ℕ). insert S.tables q (insert table o.fd o.descriptor)) same in
    let processes : insert S.processes c.from-p.result c.make.new.self ≡ insert S.processes p c.make.new.self = ap (λ (q : ℕ). insert S.processes q c.make.new.self) same in
    subst (λ (U : State). AreHeld (looked_at U) W)
    (λ i. record (fields c) { tables = sym tables i; processes = sym processes i; opens = sym c.in_ok-put_opening.ensures.kinds i })
    (opening_is_held S p o.fd o.descriptor.id own c.make.new.self table o.descriptor o.kind V W c.self.invariant.kept.valid.nearly
    (c.self.invariant.kept.processes p (ap is_some (there c))) (owned c) (ap (λ (x : ProcessState). x.threads) c.make.ensures) (there c) new
    (subst (λ (m : FinMap nat_cmp ProcessState). HasEach (λ k. spread_if (is_concerned_in p o.fd (get m p) k)) V W) processes
    c.touch_number_of.ensures)
    c.self.invariant.waits)

after : (c : After-success) → Plans c → fields c ≡ release (put_all (outcome c).updates (the_view c.self.inside))
after c plan =
    let S = the_view c.self.inside in
    let p : ℕ = c.args.pid in
    let o = c.in-Ok.opening in
    let now : ℕ = c.self.inside.clock + c.args.constants.now.epoch in
    let same : c.from-p.result ≡ p = c.from-p.ensures ∙ c.pid.view_is in
    let tables : insert S.tables c.from-p.result c.put_opening.new.table ≡ insert S.tables p (insert c.get_mut-table.result.now o.fd o.descriptor) =
    ap (insert S.tables c.from-p.result) c.in_ok-put_opening.ensures.table
    ∙ ap (λ (q : ℕ). insert S.tables q (insert c.get_mut-table.result.now o.fd o.descriptor)) same in
    let own : insert S.processes c.from-p.result c.make.new.self ≡ insert S.processes p (made_more (new_nodes_of o.plan + 1) c.get_mut.result.now) =
    ap (insert S.processes c.from-p.result) (c.make.ensures ∙ ap (λ k. made_more (k + 1) c.get_mut.result.now) c.new_nodes.ensures)
    ∙ ap (λ (q : ℕ). insert S.processes q (made_more (new_nodes_of o.plan + 1) c.get_mut.result.now)) same in
    let opens : c.put_opening.new.objects.kinds ≡ insert S.opens o.descriptor.id o.kind = c.in_ok-put_opening.ensures.kinds in
    let u : Tree = (change_of o.plan c.args.call.now.path.now now (next_object p (get S.processes p) 1) (tree_of S)).tree in
    let changed : c.put_opening.new.tree ≡ u =
    c.in_ok-put_opening.ensures.tree ∙ ap (λ n. (change_of o.plan c.args.call.now.path.now now n (tree_of S)).tree) plan.new in
    let tree : c.put_opening.new.tree ≡ retained u (is_used (insert S.opens o.descriptor.id o.kind) u) =
    changed ∙ open_keeps S p c.get_mut-table.result.now c.args.call.now.lookup c.args.call.now.path.now c.args.call.now.oflags c.args.call.now.stat o plan c.self.invariant.kept.valid now in
    (λ i. record S { tables = tables i; processes = own i; opens = opens i; nodes = (tree i).nodes; names = (tree i).names })
    ∙ open_released S p c.get_mut-table.result.now c.args.call.now.lookup c.args.call.now.path.now c.args.call.now.oflags c.args.call.now.stat o plan c.self.invariant.kept.valid (there c) now
    c.get_mut.result.now (owned c)

pub invariant_of-self-2 : goal.invariant_of-self-2
invariant_of-self-2 d = record {
  kept =
      let c = (goal.at.invariant_of-self-2 d).After-success in
      let plan = planned (goal.at.invariant_of-self-2 d).After-get_mut-table in
      let table : Table = d.get_mut-table.result.now in
      let o = d.in-Ok.opening in
      let had : IsTable table = d.self.invariant.kept.small d.args.pid table (there c) in
      let fits : IsTable d.put_opening.new.table =
      subst IsTable (sym d.in_ok-put_opening.ensures.table) (below-insert MOST_DESCRIPTORS table o.fd o.descriptor had plan.free.0) in
      record {
        valid = subst IsValid (sym (after c plan)) (release_restores _
            (open_valid d.args.constants.now (the_view d.self.inside) d.args.pid table d.args.call.now.lookup d.args.call.now.path.now d.args.call.now.oflags d.args.call.now.stat (there c)
            d.self.invariant.kept.valid.nearly));
        counted = table_counts d.self.inside.tables d.from-p.result table (sym d.get_mut-table.ensures.value) d.self.inside.channels d.self.inside.objects.counts
            d.self.invariant.kept.counted d.put_opening.new.table d.put_opening.new.objects.counts d.in_ok-put_opening.ensures.counts;
        few = d.self.invariant.kept.few;
        small = small_set d.self.inside.tables d.from-p.result d.put_opening.new.table d.self.invariant.kept.small fits;
        processes = below-insert_again (2 ^ 32) d.self.inside.tables d.from-p.result d.put_opening.new.table d.self.invariant.kept.processes
            (ap is_some (sym d.get_mut-table.ensures.value));
      };
  waits =
      let c = (goal.at.invariant_of-self-2 d).After-success in
      held c (planned (goal.at.invariant_of-self-2 d).After-get_mut-table);
}

pub returns : goal.returns
returns d = λ table here.
    let c = (goal.at.returns d).After-success in
    let plan = planned (goal.at.returns d).After-get_mut-table in
    let S = the_view d.self.inside in
    let p = d.args.pid in
    let found = d.get_mut-table.result.now in
    let call = d.args.call.now in
    let epoch = d.args.constants.now.epoch in
    let number : success d.from.result 0 ≡ success d.in-Ok.opening.fd 0 = ap (λ n. success n 0) d.from.ensures in
    done_at S d.args.self.now d.self.view_is true (λ X t. open_outcome (X.clock + epoch) X p t call.lookup call.path.now call.oflags call.stat) p found table
    (fields c) (Ok (answer.Reply d.success.result)) (there c) here (
      ap answer.Reply (d.success.ensures ∙ number)
          ∙ sym (open_answer S p found call.lookup call.path.now call.oflags call.stat d.in-Ok.opening plan d.self.invariant.kept.valid (S.clock + epoch)),
      after c plan,
    )
