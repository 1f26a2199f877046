use Rattle.std.proofs.Common.{◌≡◌, ℕ, ◌+◌, ◌^◌, true, Option, Some, Ok, is_some, refl, sym, ap, subst, ◌∙◌, arith}
use Rattle.std.specs.Ordering.{nat_cmp}
use Rattle.std.specs.FinMap.{FinMap, get, insert}
use Rattle.abi_types.specs.declared.open_kind.OpenKind.{OpenKind}
use Rattle.abi_types.specs.declared.reply.Answer.TheVariants as answer
use Rattle.abi_types.specs.declared.who.Who.{Who}
use Rattle.channel_calls.specs.Calls.{AllGoOn}
use Rattle.channel_calls.specs.Pairs.{AreFree, AreNew, model_of, table_with}
use Rattle.channel_calls.specs.declared.pairs.PairKind.{PairKind}
use Rattle.fd_table.specs.Sizes.{below-insert_again}
use Rattle.maps.specs.Maps.{insert_self}
use Rattle.tree_model.specs.Opens.{is_used}
use Rattle.kernel_model.specs.Families.Numbers.{can_number, made_more, object_of, next_object}
use Rattle.kernel_model.specs.Families.SocketCalls as model
use Rattle.kernel_model.specs.Outcome.{IsSuccess, Outcome, replies}
use Rattle.kernel_model.specs.Release.{carriers, holders, release}
use Rattle.kernel_model.specs.Reply.{success}
use Rattle.kernel_model.specs.State.{ProcessState, State, Table, counts_in, put_all}
use Rattle.kernel_model.specs.Valid.{IsNearlyValid}
use Rattle.kernel_core.specs.Ends.{IsPair}
use Rattle.kernel_core.specs.contracts.kernel.Kernel.{the_view}
use Rattle.kernel_parts.specs.Touching.{HasEach, spread_if}
use Rattle.readiness_laws.specs.Watched.{looked_at}
use Rattle.kernel_invariant.specs.Held.{AreHeld}
use Rattle.kernel_invariant.specs.Readiness.{is_concerned_in}
use Rattle.kernel_invariant.proofs.HeldNew.{pair_is_held}
use Rattle.kernel_core.proofs.Released.{kept_released, parts, released_is_held, released_to}
use Rattle.kernel_invariant.proofs.Channels.{AreCounted, moved_counts}
use Rattle.kernel_core.proofs.Done.{done_at, lacked, replied}
use Rattle.kernel_invariant.proofs.EndCalls.{create_is, create_nearly, numbers_can, pair_fits, pair_free, pair_going, pair_new, pair_put, pair_small, pair_table, pair_used, with_pair}
use Rattle.kernel_invariant.proofs.Kept.{kept_again, small_set}
use Rattle.kernel_core.proofs.OpenCalls.{planned_before}
use Rattle.kernel_core.proofs.kernel.Kernel.fd_create2.Goals as goal
use Rattle.kernel_core.proofs.kernel.Kernel.fd_create2.Goals.{After-get_mut-table, After-put_pair, After-release, In_err-put_pair}

-- what the call comes to
abbrev Comes : ℕ → Who → State → Table → Outcome
Comes kind who S table = model.create (model.made_of kind) who.pid who.tid (get S.processes who.pid) table

-- ---- nothing is made

pub returns-in_default : goal.returns-in_default
returns-in_default c = λ table here.
    let S = c.args.self.now in
    let who = c.args.who.now in
    replied (Comes c.args.kind who S table) S c.refused.result c.requires.valid
    (ap (λ m. model.create m who.pid who.tid (get S.processes who.pid) table) (sym c.in_default.ensures) ∙ ap replies (sym c.refused.ensures))

pub returns-in-Err : goal.returns-in-Err
returns-in-Err c = λ table here.
    let S = c.args.self.now in
    let who = c.args.who.now in
    replied (Comes c.args.kind who S table) S c.in-Err.reply c.requires.valid
    (ap (λ m. model.create m who.pid who.tid (get S.processes who.pid) table) (sym c.in-Some.ensures) ∙ c.in-Err.ensures.refused table here)

-- ---- what is made was planned for this state

same : (c : After-get_mut-table) → c.from-p.result ≡ c.args.who.now.pid
same c = c.from-p.ensures ∙ ap (λ (w : Who). w.pid) c.who.view_is

there : (c : After-get_mut-table) → get c.self.inside.tables c.args.who.now.pid ≡ Some c.get_mut-table.result.now
there c = ap (get c.self.inside.tables) (sym (same c)) ∙ sym c.get_mut-table.ensures.value

planned : (c : After-get_mut-table) → IsPair (the_view c.self.inside) c.args.who.now c.get_mut-table.result.now c.in-Some.kind c.in-Ok.pair
planned c =
    planned_before (λ S t. IsPair S c.args.who.now t c.in-Some.kind c.in-Ok.pair) (the_view c.self.inside) c.args.self.now c.args.who.now.pid c.from-p.result
    c.get_mut-table.result.now c.self.view_is (same c) c.get_mut-table.ensures.value c.in-Ok.ensures.ok

-- the process that has it, and that it has numbers for so many
record Owner (S : State) (p : ℕ) (f : ℕ) (k : PairKind) : Type 0 where
  own : ProcessState
  there : get S.processes p ≡ Some own
  can : can_number p (model.count_of (model_of k)) (Some own) ≡ true
  first : f ≡ object_of p (own.counts.objects + 1)

some_there : (o : Option ProcessState) → is_some o ≡ true → (own : ProcessState) × (o ≡ Some own)
some_there Option.None is = cc
some_there (Some own) is = (own, refl)

owner : (c : After-get_mut-table) → Owner (the_view c.self.inside) c.args.who.now.pid c.in-Ok.pair.first c.in-Ok.pair.kind
owner c =
    let S = the_view c.self.inside in
    let p = c.args.who.now.pid in
    let v = c.self.invariant.kept.valid.nearly in
    let some = some_there (get S.processes p) (v.owns p ∙ sym (v.tables p) ∙ ap is_some (there c)) in
    let plan = planned c in
    let can : model.can_create p c.args.who.now.tid (model.count_of (model_of c.in-Ok.pair.kind)) (get S.processes p) ≡ true =
    ap (λ k. model.can_create p c.args.who.now.tid (model.count_of (model_of k)) (get S.processes p)) plan.kind_is ∙ plan.can in
    record {
      own = some.0;
      there = some.1;
      can = numbers_can p c.args.who.now.tid (model_of c.in-Ok.pair.kind) (get S.processes p) some.0 some.1 can;
      first = plan.first ∙ ap (λ o. next_object p o 1) some.1;
    }

new : (c : After-get_mut-table) → AreNew c.in-Ok.pair c.self.inside.channels c.self.inside.objects.kinds c.self.inside.objects.counts
new c =
    let is = owner c in
    pair_new (the_view c.self.inside) c.args.who.now.pid is.own is.there c.self.invariant.kept.valid.nearly c.self.inside.objects.counts c.self.invariant.kept.counted
    c.in-Ok.pair.kind c.in-Ok.pair.first c.in-Ok.pair.one c.in-Ok.pair.two is.can is.first

free : (c : After-get_mut-table) → AreFree c.in-Ok.pair c.get_mut-table.result.now
free c = pair_free c.get_mut-table.result.now c.in-Ok.pair.one c.in-Ok.pair.two (planned c).one (planned c).two c.in-Ok.pair.kind c.in-Ok.pair.first

pub put_pair-requires-clause-small : goal.put_pair-requires-clause-small
put_pair-requires-clause-small d =
    let c = (goal.at.put_pair-requires-clause-small d).After-get_mut-table in
    let is = owner c in
    pair_small d.in-Ok.pair.kind d.args.who.now.pid d.in-Ok.pair.first is.own is.can is.first

pub put_pair-requires-clause-free : goal.put_pair-requires-clause-free
put_pair-requires-clause-free d = free (goal.at.put_pair-requires-clause-free d).After-get_mut-table

pub put_pair-requires-clause-new : goal.put_pair-requires-clause-new
put_pair-requires-clause-new d = new (goal.at.put_pair-requires-clause-new d).After-get_mut-table

-- the counts are those of what holds the opens
counted : (c : After-put_pair) → AreCounted c.put_pair.new.objects.counts (insert c.self.inside.tables c.from-p.result c.put_pair.new.table) c.put_pair.new.channels
counted c =
    moved_counts c.self.inside.tables c.from-p.result c.get_mut-table.result.now (sym c.get_mut-table.ensures.value) c.self.inside.channels
    c.self.inside.objects.counts c.self.invariant.kept.counted c.put_pair.new.table c.put_pair.new.channels c.put_pair.new.objects.counts c.put_pair.ensures.counts

-- ---- where memory runs out nothing has changed

abbrev unchanged : In_err-put_pair → State
unchanged c = record (the_view c.self.inside) {
  tables = insert c.self.inside.tables c.from-p.result c.put_pair.new.table;
  opens = c.put_pair.new.objects.kinds;
  chans = c.put_pair.new.channels;
}

as_before : (c : In_err-put_pair) → unchanged c ≡ the_view c.self.inside
as_before c =
    let e = c.in_err-put_pair.ensures in
    let tables : insert c.self.inside.tables c.from-p.result c.put_pair.new.table ≡ c.self.inside.tables =
    ap (insert c.self.inside.tables c.from-p.result) e.same_table ∙ insert_self c.self.inside.tables c.from-p.result c.get_mut-table.result.now (sym c.get_mut-table.ensures.value) in
    λ i. record (the_view c.self.inside) { tables = tables i; opens = e.same_kinds i; chans = e.same_channels i }

pub invariant_of-self : goal.invariant_of-self
invariant_of-self d = record {
  kept =
      let same = as_before (goal.at.invariant_of-self d).In_err-put_pair in
      kept_again (the_view d.self.inside) d.self.inside.objects.counts d.self.invariant.kept (unchanged (goal.at.invariant_of-self d).In_err-put_pair)
      d.put_pair.new.objects.counts same
      (λ o. counted (goal.at.invariant_of-self d).After-put_pair o ∙ ap (λ (S : State). holders S o + carriers S o) same ∙ sym (d.self.invariant.kept.counted o));
  waits = subst (λ (S : State). AreHeld (looked_at S) d.self.inside.waits) (sym (as_before (goal.at.invariant_of-self d).In_err-put_pair)) d.self.invariant.waits;
}

-- what was planned succeeds
outcome_is : (c : After-get_mut-table) → model.create (model.made_of c.args.kind) c.args.who.now.pid c.args.who.now.tid (get c.self.inside.processes c.args.who.now.pid) c.get_mut-table.result.now
    ≡ record {
      answer = answer.Reply (success c.in-Ok.pair.one c.in-Ok.pair.two);
      updates = model.create_updates (model_of c.in-Ok.pair.kind) c.args.who.now.pid (get c.self.inside.processes c.args.who.now.pid) c.get_mut-table.result.now c.in-Ok.pair.one c.in-Ok.pair.two;
    }
outcome_is c =
    let S = the_view c.self.inside in
    let who = c.args.who.now in
    let plan = planned c in
    ap (λ m. model.create m who.pid who.tid (get S.processes who.pid) c.get_mut-table.result.now) (sym c.in-Some.ensures ∙ ap (λ k. Some (model_of k)) (sym plan.kind_is))
    ∙ create_is who.pid who.tid (get S.processes who.pid) c.get_mut-table.result.now (model_of c.in-Ok.pair.kind) c.in-Ok.pair.one c.in-Ok.pair.two plan.one plan.two
    (ap (λ k. model.can_create who.pid who.tid (model.count_of (model_of k)) (get S.processes who.pid)) plan.kind_is ∙ plan.can)

pub returns-in_err-put_pair : goal.returns-in_err-put_pair
returns-in_err-put_pair d = λ table here.
    let c = (goal.at.returns-in_err-put_pair d).In_err-put_pair in
    let g = (goal.at.returns-in_err-put_pair d).After-get_mut-table in
    let S = the_view d.self.inside in
    let found = d.get_mut-table.result.now in
    done_at S d.args.self.now d.self.view_is true (Comes d.args.kind d.args.who.now) d.args.who.now.pid found table (unchanged c) d.from_residual.result (there g) here
    (lacked true (Comes d.args.kind d.args.who.now S found) S (unchanged c) d.from_residual.result d.from_residual.ensures.0 refl
    (subst (λ (o : Outcome). IsSuccess o.answer) (sym (outcome_is g)) refl) (as_before c))

-- ---- a pair is made

pub make-requires : goal.make-requires
make-requires d =
    let c = (goal.at.make-requires d).After-get_mut-table in
    let is = owner c in
    let fits = (pair_fits d.in-Ok.pair.kind d.args.who.now.pid is.own is.can).1 in
    let own : Some is.own ≡ Some d.get_mut.result.now = sym is.there ∙ ap (get d.self.inside.processes) (sym (same c)) ∙ sym d.get_mut.ensures.value in
    let made = ap (λ o. (counts_in o).objects) own in
    let count : d.count_of.result ≡ model.count_of (model_of d.in-Ok.pair.kind) =
    d.count_of.ensures ∙ ap (λ k. model.count_of (model_of k)) (sym (planned c).kind_is) in
    omega (arith, fits, made, count)

pub release-requires-clause-counted : goal.release-requires-clause-counted
release-requires-clause-counted d = counted (goal.at.release-requires-clause-counted d).After-put_pair

pub release-requires-clause-used : goal.release-requires-clause-used
release-requires-clause-used d = λ n some.
    let c = (goal.at.release-requires-clause-used d).After-get_mut-table in
    ap (λ (m : FinMap nat_cmp OpenKind). is_used m d.self.inside.tree n) d.in_ok-put_pair.ensures.kinds
    ∙ pair_used d.in-Ok.pair.kind d.in-Ok.pair.first d.in-Ok.pair.one d.in-Ok.pair.two d.self.inside.channels d.self.inside.objects.kinds
    d.self.inside.objects.counts d.self.inside.tree n (new c)
    ∙ d.self.invariant.kept.valid.kept n some

pub release-requires-clause-going : goal.release-requires-clause-going
release-requires-clause-going d =
    subst AllGoOn (sym d.in_ok-put_pair.ensures.channels)
    (pair_going d.in-Ok.pair.kind d.in-Ok.pair.first d.in-Ok.pair.one d.in-Ok.pair.two d.self.inside.channels d.self.invariant.kept.valid.going)

pub release-requires-clause-tree : goal.release-requires-clause-tree
release-requires-clause-tree c = c.self.invariant.kept.valid.nearly.tree

-- the fields as they are in the end
abbrev fields : After-release → State
fields c = record (the_view c.self.inside) {
  tables = c.release.new.tables;
  processes = c.release.new.processes;
  statuses = c.release.new.statuses;
  opens = c.release.new.objects.kinds;
  nodes = c.release.new.tree.nodes;
  names = c.release.new.tree.names;
  chans = c.release.new.channels;
}

-- what its process had
owned : (c : After-release) → c.from-p.result ≡ c.args.who.now.pid → get c.self.inside.processes c.args.who.now.pid ≡ Some c.get_mut.result.now
owned c at = ap (get c.self.inside.processes) (sym at) ∙ sym c.get_mut.ensures.value

-- before anything is released
abbrev left : After-release → State
left c = with_pair (the_view c.self.inside) c.args.who.now.pid c.get_mut.result.now c.get_mut-table.result.now c.in-Ok.pair

-- what the release is given
abbrev before_release : After-release → State
before_release c = record (the_view c.self.inside) {
  tables = insert c.self.inside.tables c.from-p.result c.put_pair.new.table;
  processes = insert c.self.inside.processes c.from-p.result c.make.new.self;
  opens = c.put_pair.new.objects.kinds;
  chans = c.put_pair.new.channels;
}

before_is : (c : After-release) → c.from-p.result ≡ c.args.who.now.pid → c.in-Ok.pair.kind ≡ c.in-Some.kind → before_release c ≡ left c
before_is c at kind =
    let k = c.self.inside in
    let p = c.args.who.now.pid in
    let tables : insert k.tables c.from-p.result c.put_pair.new.table ≡ insert k.tables p (table_with c.in-Ok.pair c.get_mut-table.result.now) =
    ap (insert k.tables c.from-p.result) c.in_ok-put_pair.ensures.table ∙ ap (λ (q : ℕ). insert k.tables q (table_with c.in-Ok.pair c.get_mut-table.result.now)) at in
    let count : c.count_of.result ≡ model.count_of (model_of c.in-Ok.pair.kind) = c.count_of.ensures ∙ ap (λ x. model.count_of (model_of x)) (sym kind) in
    let own : insert k.processes c.from-p.result c.make.new.self ≡ insert k.processes p (made_more (model.count_of (model_of c.in-Ok.pair.kind)) c.get_mut.result.now) =
    ap (insert k.processes c.from-p.result) (c.make.ensures ∙ ap (λ n. made_more n c.get_mut.result.now) count)
    ∙ ap (λ (q : ℕ). insert k.processes q (made_more (model.count_of (model_of c.in-Ok.pair.kind)) c.get_mut.result.now)) at in
    λ i. record (the_view k) { tables = tables i; processes = own i; opens = c.in_ok-put_pair.ensures.kinds i; chans = c.in_ok-put_pair.ensures.channels i }

released : (c : After-release) → c.from-p.result ≡ c.args.who.now.pid → c.in-Ok.pair.kind ≡ c.in-Some.kind → fields c ≡ release (left c)
released c at kind = released_to (left c) _ _ (ap parts (before_is c at kind)) c.release.ensures.state

-- those are left that wait on one of the two numbers; nobody stands at what is new
held : (c : After-release) → AreNew c.in-Ok.pair c.self.inside.channels c.self.inside.objects.kinds c.self.inside.objects.counts
    → c.from-p.result ≡ c.args.who.now.pid → c.in-Ok.pair.kind ≡ c.in-Some.kind → get c.self.inside.tables c.args.who.now.pid ≡ Some c.get_mut-table.result.now
    → AreHeld (looked_at (before_release c)) c.touch_number_of-2.new.waits
held c new at kind had =
    let S = the_view c.self.inside in
    let p = c.args.who.now.pid in
    let pair = c.in-Ok.pair in
    let V = c.self.inside.waits in
    let X = c.touch_number_of.new.waits in
    let W = c.touch_number_of-2.new.waits in
    let is = before_is c at kind in
    subst (λ (U : State). AreHeld (looked_at U) W) (sym is)
    (pair_is_held S p c.get_mut.result.now c.get_mut-table.result.now pair c.self.inside.objects.counts V X W c.self.invariant.kept.valid.nearly
    (c.self.invariant.kept.processes p (ap is_some had)) (owned c at) had new
    (subst (λ (U : State). HasEach (λ k. spread_if (is_concerned_in p pair.one (get U.processes p) k)) V X) is c.touch_number_of.ensures)
    (subst (λ (U : State). HasEach (λ k. spread_if (is_concerned_in p pair.two (get U.processes p) k)) X W) is c.touch_number_of-2.ensures)
    c.self.invariant.waits)

put : (c : After-release) (g : After-get_mut-table) → c.from-p.result ≡ c.args.who.now.pid → c.in-Ok.pair.first ≡ next_object c.args.who.now.pid (get c.self.inside.processes c.args.who.now.pid) 1
    → left c ≡ put_all (model.create_updates (model_of c.in-Ok.pair.kind) c.args.who.now.pid (get c.self.inside.processes c.args.who.now.pid) c.get_mut-table.result.now c.in-Ok.pair.one c.in-Ok.pair.two) (the_view c.self.inside)
put c g at first =
    let own = owned c at in
    pair_put (the_view c.self.inside) c.args.who.now.pid c.get_mut.result.now c.get_mut-table.result.now c.in-Ok.pair.kind c.in-Ok.pair.first c.in-Ok.pair.one c.in-Ok.pair.two
    own (first ∙ ap (λ o. next_object c.args.who.now.pid o 1) own)

pub invariant_of-self-2 : goal.invariant_of-self-2
invariant_of-self-2 d = record {
  kept =
      let c = (goal.at.invariant_of-self-2 d).After-release in
      let g = (goal.at.invariant_of-self-2 d).After-get_mut-table in
      let k = d.self.inside in
      let p = d.args.who.now.pid in
      let table = d.get_mut-table.result.now in
      let plan = planned g in
      kept_released (left c) (fields c) d.release.new.objects.counts (released c (same g) plan.kind_is)
      (subst IsNearlyValid (ap (λ (o : Outcome). put_all o.updates (the_view k)) (outcome_is g) ∙ sym (put c g (same g) plan.first))
      (create_nearly (the_view k) d.args.who.now table d.args.kind (there g) d.self.invariant.kept.valid.nearly))
      d.release.ensures.counted (d.release.ensures.few (d.put_pair.ensures.few d.self.invariant.kept.few))
      (small_set k.tables p (table_with d.in-Ok.pair table) d.self.invariant.kept.small
      (pair_table table d.in-Ok.pair.kind d.in-Ok.pair.first d.in-Ok.pair.one d.in-Ok.pair.two (free g) (d.self.invariant.kept.small p table (there g))))
      (below-insert_again (2 ^ 32) k.tables p (table_with d.in-Ok.pair table) d.self.invariant.kept.processes (ap is_some (there g)));
  waits =
      let c = (goal.at.invariant_of-self-2 d).After-release in
      let g = (goal.at.invariant_of-self-2 d).After-get_mut-table in
      released_is_held (before_release c) (fields c) _ d.touch_number_of-2.new.waits d.release.new.waits refl (held c (new g) (same g) (planned g).kind_is (there g))
      d.release.ensures.touched refl;
}

pub returns : goal.returns
returns d = λ table here.
    let c = (goal.at.returns d).After-release in
    let g = (goal.at.returns d).After-get_mut-table in
    let one = d.from.ensures in
    let two = d.from-2.ensures in
    done_at (the_view d.self.inside) d.args.self.now d.self.view_is true (Comes d.args.kind d.args.who.now) d.args.who.now.pid d.get_mut-table.result.now table (fields c)
    (Ok (answer.Reply d.success-reply.result)) (there g) here (
      ap answer.Reply (d.success-reply.ensures ∙ (λ i. success (one i) (two i))) ∙ ap (λ (o : Outcome). o.answer) (sym (outcome_is g)),
      released c (same g) (planned g).kind_is
          ∙ ap release (put c g (same g) (planned g).first ∙ sym (ap (λ (o : Outcome). put_all o.updates (the_view d.self.inside)) (outcome_is g))),
    )
