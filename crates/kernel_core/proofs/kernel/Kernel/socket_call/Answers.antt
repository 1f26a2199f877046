use Rattle.std.proofs.Common.{◌≡◌, ℕ, ◌^◌, None, Some, Result, Ok, is_some, refl, sym, ap, subst, ◌∙◌}
use Rattle.std.specs.FinMap.{get, insert}
use Rattle.std.specs.declared.alloc.AllocError.{AllocError}
use Rattle.abi_types.specs.Families.{call_of_socket}
use Rattle.abi_types.specs.declared.reply.Answer.{Answer}
use Rattle.channel_calls.specs.Calls.{channels_after, socket_outcome, table_after}
use Rattle.fd_table.specs.Sizes.{below-insert_again}
use Rattle.maps.specs.Maps.{insert_self, number}
use Rattle.object_store.specs.Objects.{Held}
use Rattle.kernel_model.specs.Calls.{takes_memory}
use Rattle.kernel_model.specs.Outcome.{replies}
use Rattle.kernel_model.specs.Release.{release}
use Rattle.kernel_model.specs.State.{State, Table}
use Rattle.kernel_parts.specs.Entries.{open_in, open_with}
use Rattle.kernel_parts.specs.Released.{state_by}
use Rattle.kernel_parts.specs.Waiting.{fd_of_socket, socket_at}
use Rattle.kernel_model.specs.Done.{IsDone}
use Rattle.kernel_invariant.specs.Sockets.{socket_on}
use Rattle.kernel_core.specs.contracts.kernel.Kernel.{the_view}
use Rattle.readiness_laws.specs.Watched.{looked_at}
use Rattle.kernel_invariant.specs.Held.{AreHeld}
use Rattle.kernel_invariant.specs.Readiness.{has_received, left_where_done}
use Rattle.kernel_invariant.proofs.HeldChannels.{end_is_held, socket_keeps}
use Rattle.kernel_invariant.proofs.HeldTables.{received_is_held}
use Rattle.kernel_core.proofs.Released.{kept_released, released_is_held, released_to}
use Rattle.kernel_invariant.proofs.Channels.{covered_by, moved_counts, socket_found, socket_going, socket_left_nearly, socket_put, socket_small}
use Rattle.kernel_core.proofs.Done.{done_as, done_at, lacked, replied_seen}
use Rattle.kernel_invariant.proofs.Kept.{kept_again, small_set}
use Rattle.kernel_core.proofs.Opens.{IsFound, found_kind, open_absent, open_found}
use Rattle.kernel_core.proofs.kernel.Kernel.socket_call.Goals as goal
use Rattle.kernel_core.proofs.kernel.Kernel.socket_call.Goals.{In-Some, In_err-answer, After-get_mut-table, After-release}

-- the descriptor and its open
found : (c : In-Some) → IsFound c.self.inside.objects.kinds (get c.self.inside.tables c.args.pid) (fd_of_socket c.args.call) c.in-Some.field-0-0 c.in-Some.kind
found c =
    subst (λ fd. IsFound c.self.inside.objects.kinds (get c.self.inside.tables c.args.pid) fd c.in-Some.field-0-0 c.in-Some.kind) c.socket_fd-fd.ensures
    (open_found _ _ _ _ _ (sym c.open_of.ensures ∙ c.in-Some.is))

pub returns-in_default : goal.returns-in_default
returns-in_default d = λ table here.
    let S = the_view d.self.inside in
    let p = d.args.pid in
    let called = call_of_socket d.args.call in
    let had = ap (λ (X : State). get X.tables p) d.self.view_is ∙ here in
    let none : open_in S.opens (get table (fd_of_socket d.args.call)) ≡ None =
    open_absent S.opens (get S.tables p) table (fd_of_socket d.args.call) had
    (ap (λ fd. open_with S.opens (get S.tables p) fd) (sym d.socket_fd-fd.ensures) ∙ sym d.open_of.ensures ∙ d.in_default.is) in
    replied_seen S d.args.self.now d.self.view_is (λ X. socket_on X p table (fd_of_socket d.args.call) called) d.refused.result d.self.invariant.kept.valid
    (ap (λ o. socket_at p table S.chans o called) none ∙ ap replies (sym d.refused.ensures))

-- the table
there : (c : After-get_mut-table) → get c.self.inside.tables c.args.pid ≡ Some c.get_mut-table.result.now
there c = ap (get c.self.inside.tables) (sym (c.from.ensures ∙ c.pid.view_is)) ∙ sym c.get_mut-table.ensures.value

opened : (c : After-get_mut-table) → IsFound c.self.inside.objects.kinds (get c.self.inside.tables c.args.pid) (fd_of_socket c.args.call) c.in-Some.field-0-0 c.in-Some.kind
    → open_in c.self.inside.objects.kinds (get c.get_mut-table.result.now (fd_of_socket c.args.call)) ≡ Some c.in-Some.kind
opened c is =
    found_kind (the_view c.self.inside) c.args.pid (fd_of_socket c.args.call) c.in-Some.field-0-0 c.in-Some.kind is c.get_mut-table.result.now (there c)

-- it is done on the socket that was found, in the state as it is kept; and so it is by the table that the process is seen to have
at_found : (c : After-get_mut-table) (table : Table) (U : State) (r : Result Answer AllocError)
    → IsFound c.self.inside.objects.kinds (get c.self.inside.tables c.args.pid) (fd_of_socket c.args.call) c.in-Some.field-0-0 c.in-Some.kind
    → get c.args.self.now.tables c.args.pid ≡ Some table
    → IsDone (takes_memory (call_of_socket c.args.call)) (socket_outcome c.args.pid c.get_mut-table.result.now c.self.inside.channels c.in-Some.kind (call_of_socket c.args.call))
    (the_view c.self.inside) U r
    → IsDone (takes_memory (call_of_socket c.args.call)) (socket_on c.args.self.now c.args.pid table (fd_of_socket c.args.call) (call_of_socket c.args.call)) c.args.self.now U r
at_found c table U r is here done =
    let S = the_view c.self.inside in
    let called = call_of_socket c.args.call in
    done_at S c.args.self.now c.self.view_is (takes_memory called) (λ X t. socket_on X c.args.pid t (fd_of_socket c.args.call) called) c.args.pid
    c.get_mut-table.result.now table U r (there c) here
    (done_as (takes_memory called) _ _ S U r (sym (socket_found S c.args.pid c.get_mut-table.result.now c.in-Some.kind c.args.call (there c) (opened c is))) done)

pub on_socket-requires : goal.on_socket-requires
on_socket-requires c = record {
  covered = covered_by c.self.inside.tables c.from.result c.get_mut-table.result.now (sym c.get_mut-table.ensures.value) c.self.inside.channels
      c.self.inside.objects.counts c.self.invariant.kept.counted;
}

-- where memory runs out nothing has changed
abbrev unchanged : In_err-answer → State
unchanged c = record (the_view c.self.inside) {
  tables = insert c.self.inside.tables c.from.result c.on_socket.new.table;
  opens = c.on_socket.new.objects.kinds;
  chans = c.on_socket.new.channels;
}

as_before : (c : In_err-answer) → unchanged c ≡ the_view c.self.inside
as_before c =
    let e = c.in_err-answer.ensures in
    let tables : insert c.self.inside.tables c.from.result c.on_socket.new.table ≡ c.self.inside.tables =
    ap (insert c.self.inside.tables c.from.result) (e.done c.args.pid).2 ∙ insert_self c.self.inside.tables c.from.result c.get_mut-table.result.now (sym c.get_mut-table.ensures.value) in
    λ i. record (the_view c.self.inside) { tables = tables i; opens = (e.same_objects i).kinds; chans = (e.done c.args.pid).3 i }

pub invariant_of-self : goal.invariant_of-self
invariant_of-self d = record {
  kept =
      kept_again (the_view d.self.inside) d.self.inside.objects.counts d.self.invariant.kept (unchanged (goal.at.invariant_of-self d).In_err-answer)
      d.on_socket.new.objects.counts (as_before (goal.at.invariant_of-self d).In_err-answer)
      (λ o. ap (λ (h : Held). number (get h.counts o)) d.in_err-answer.ensures.same_objects);
  waits = subst (λ (U : State). AreHeld (looked_at U) d.self.inside.waits) (sym (as_before (goal.at.invariant_of-self d).In_err-answer)) d.self.invariant.waits;
}

pub returns-in_err-answer : goal.returns-in_err-answer
returns-in_err-answer d = λ table here.
    let c = (goal.at.returns-in_err-answer d).In_err-answer in
    let called = call_of_socket d.args.call in
    at_found (goal.at.returns-in_err-answer d).After-get_mut-table table (unchanged c) d.from_residual.result (found (goal.at.returns-in_err-answer d).In-Some) here
    (lacked (takes_memory called) (socket_outcome d.args.pid d.get_mut-table.result.now d.self.inside.channels d.in-Some.kind called) (the_view d.self.inside)
    (unchanged c) d.from_residual.result d.from_residual.ensures.0 (d.in_err-answer.ensures.done d.args.pid).0 (d.in_err-answer.ensures.done d.args.pid).1 (as_before c))

-- ---- the call, and what ends after it

pub release-requires-clause-counted : goal.release-requires-clause-counted
release-requires-clause-counted c =
    moved_counts c.self.inside.tables c.from.result c.get_mut-table.result.now (sym c.get_mut-table.ensures.value) c.self.inside.channels c.self.inside.objects.counts
    c.self.invariant.kept.counted c.on_socket.new.table c.on_socket.new.channels c.on_socket.new.objects.counts c.on_socket.ensures.counts

pub release-requires-clause-going : goal.release-requires-clause-going
release-requires-clause-going d =
    let c = (goal.at.release-requires-clause-going d).After-get_mut-table in
    socket_going (the_view d.self.inside) d.args.pid d.get_mut-table.result.now d.in-Some.kind d.args.call (there c)
    (opened c (found (goal.at.release-requires-clause-going d).In-Some)) d.on_socket.new.channels d.self.invariant.kept.valid
    (d.in_ok-answer.ensures.done d.args.pid).2

-- the fields as they are in the end
abbrev fields : After-release → State
fields c = record (the_view c.self.inside) {
  tables = c.release.new.tables;
  processes = c.release.new.processes;
  statuses = c.release.new.statuses;
  opens = c.release.new.objects.kinds;
  nodes = c.release.new.tree.nodes;
  names = c.release.new.tree.names;
  chans = c.release.new.channels;
}

-- before anything is released
abbrev left : After-release → State
left c =
    let o = socket_outcome c.args.pid c.get_mut-table.result.now c.self.inside.channels c.in-Some.kind (call_of_socket c.args.call) in
    record (the_view c.self.inside) {
      tables = insert c.self.inside.tables c.args.pid (table_after o.updates c.get_mut-table.result.now);
      chans = channels_after o.updates c.self.inside.channels;
    }

tables_left : (c : After-release) → c.from.result ≡ c.args.pid → insert c.self.inside.tables c.from.result c.on_socket.new.table ≡ (left c).tables
tables_left c same =
    let k = c.self.inside in
    ap (insert k.tables c.from.result) (c.in_ok-answer.ensures.done c.args.pid).1
    ∙ ap (λ q. insert k.tables q (table_after (socket_outcome c.args.pid c.get_mut-table.result.now k.channels c.in-Some.kind (call_of_socket c.args.call)).updates c.get_mut-table.result.now)) same

released : (c : After-release) → c.from.result ≡ c.args.pid → fields c ≡ release (left c)
released c same =
    let k = c.self.inside in
    let done = c.in_ok-answer.ensures.done c.args.pid in
    released_to (left c) _ _ (λ i. state_by (tables_left c same i) k.processes k.statuses (c.on_socket.ensures.kinds i) (done.2 i) k.tree) c.release.ensures.state

-- what the release is given
abbrev before_release : After-release → State
before_release c = record (the_view c.self.inside) {
  tables = insert c.self.inside.tables c.from.result c.on_socket.new.table;
  opens = c.on_socket.new.objects.kinds;
  chans = c.on_socket.new.channels;
}

-- those that stand at the socket's channels are left, and where descriptors came the process's own threads are spread
held : (c : After-release) → c.from.result ≡ c.args.pid → get c.self.inside.tables c.args.pid ≡ Some c.get_mut-table.result.now
    → AreHeld (looked_at (before_release c)) c.touch_received.new.waits
held c same had =
    let S = the_view c.self.inside in
    let p : ℕ = c.args.pid in
    let table = c.get_mut-table.result.now in
    let kind = c.in-Some.kind in
    let done = c.in_ok-answer.ensures.done p in
    let o = socket_outcome p table S.chans kind (call_of_socket c.args.call) in
    let keeps = socket_keeps S.chans p table kind c.args.call in
    subst (λ (U : State). AreHeld (looked_at U) c.touch_received.new.waits)
    (λ i. record S { tables = sym (tables_left c same) i; opens = sym c.on_socket.ensures.kinds i; chans = sym done.2 i })
    (received_is_held (record S { chans = channels_after o.updates S.chans }) p table (table_after o.updates table) c.touch_answered.new.waits c.touch_received.new.waits
    (has_received c.in_ok-answer.answer) had (c.self.invariant.kept.processes p (ap is_some had)) (λ fails. keeps.same (sym (ap has_received done.0) ∙ fails))
    c.touch_received.ensures
    (end_is_held S kind table o c.self.inside.waits keeps c.self.invariant.waits c.touch_answered.new.waits
    (c.touch_answered.ensures ∙ ap (λ given. left_where_done given kind c.self.inside.waits) done.0)))

pub invariant_of-self-2 : goal.invariant_of-self-2
invariant_of-self-2 d = record {
  kept =
      let c = (goal.at.invariant_of-self-2 d).After-release in
      let g = (goal.at.invariant_of-self-2 d).After-get_mut-table in
      let S = the_view d.self.inside in
      let p = d.args.pid in
      let table = d.get_mut-table.result.now in
      kept_released (left c) (fields c) d.release.new.objects.counts (released c (d.from.ensures ∙ d.pid.view_is))
      (socket_left_nearly S p table d.in-Some.kind d.args.call (there g) (opened g (found (goal.at.invariant_of-self-2 d).In-Some)) d.self.invariant.kept.valid.nearly)
      d.release.ensures.counted (d.release.ensures.few (d.on_socket.ensures.few_carriers d.self.invariant.kept.few))
      (small_set d.self.inside.tables p _ d.self.invariant.kept.small
      (socket_small d.self.inside.channels p table d.in-Some.kind d.args.call (d.self.invariant.kept.small p table (there g))))
      (below-insert_again (2 ^ 32) d.self.inside.tables p _ d.self.invariant.kept.processes (ap is_some (there g)));
  waits =
      let c = (goal.at.invariant_of-self-2 d).After-release in
      released_is_held (before_release c) (fields c) _ d.touch_received.new.waits d.release.new.waits refl
      (held c (d.from.ensures ∙ d.pid.view_is) (there (goal.at.invariant_of-self-2 d).After-get_mut-table)) d.release.ensures.touched refl;
}

pub returns : goal.returns
returns d = λ table here.
    let c = (goal.at.returns d).After-release in
    let g = (goal.at.returns d).After-get_mut-table in
    let have = found (goal.at.returns d).In-Some in
    let S = the_view d.self.inside in
    let p = d.args.pid in
    let put = socket_put S p d.get_mut-table.result.now d.in-Some.kind d.args.call (there g) (opened g have) in
    at_found g table (fields c) (Ok d.in_ok-answer.answer) have here
    ((d.in_ok-answer.ensures.done p).0, released c (d.from.ensures ∙ d.pid.view_is) ∙ sym (ap release put))
