use Rattle.std.proofs.Common.{◌≡◌, ◌+◌, Option, Some, Result, Ok, is_some, sym, ap, subst, ◌∙◌}
use Rattle.std.specs.FinMap.{get}
use Rattle.std.specs.Option.{IfSome}
use Rattle.std.specs.declared.alloc.AllocError.{AllocError}
use Rattle.abi_types.specs.Families.{call_of_offset}
use Rattle.abi_types.specs.declared.open_kind.OpenKind.{OpenKind}
use Rattle.abi_types.specs.declared.reply.Answer.{Answer}
use Rattle.abi_types.specs.declared.reply.Answer.TheVariants as answer
use Rattle.maps.specs.Maps.{number}
use Rattle.object_store.specs.Nodes.{IsOfSameNode}
use Rattle.object_store.specs.Objects.{Held}
use Rattle.channel_calls.specs.Calls.{end_outcome}
use Rattle.fd_calls.specs.Calls.{offset_outcome_of}
use Rattle.kernel_model.specs.Calls.{takes_memory}
use Rattle.kernel_model.specs.Families.FileOffsets.{with_offset}
use Rattle.kernel_model.specs.Outcome.{Outcome, replies}
use Rattle.kernel_model.specs.State.{State, Table, tree_of}
use Rattle.kernel_model.specs.Valid.{IsValid}
use Rattle.kernel_parts.specs.StreamCalls.{stream_outcome}
use Rattle.kernel_model.specs.Done.{IsAnswered, IsDone}
use Rattle.readiness_laws.specs.Watched.{looked_at}
use Rattle.kernel_invariant.specs.Held.{AreHeld}
use Rattle.kernel_core.specs.OffsetCalls.{offset_outcome}
use Rattle.kernel_core.specs.contracts.kernel.Kernel.{the_view}
use Rattle.kernel_core.proofs.Done.{done_as, done_at, done_seen, lacked, replied_seen}
use Rattle.kernel_core.proofs.FileCalls.{there_behind, with_tree}
use Rattle.kernel_invariant.proofs.HeldSame.{moved_open_held}
use Rattle.kernel_core.proofs.OffsetCalls.{IsNoStream, absent_comes, end_outcome_is, left_valid, offset_done, offset_looked, offset_outcome_is, offset_same, offset_valid, stream_done, stream_outcome_is, with_terms}
use Rattle.kernel_core.proofs.Opens.{IsFound, open_absent, open_found}
use Rattle.kernel_core.proofs.kernel.Kernel.offset_call.Goals as goal
use Rattle.kernel_core.proofs.kernel.Kernel.offset_call.Goals.{In-Some}

-- the descriptor and its open
found : (c : In-Some) → IsFound c.self.inside.objects.kinds (get c.self.inside.tables c.args.pid) c.args.fd c.in-Some.descriptor c.in-Some.kind
found c = open_found _ _ _ _ _ (sym c.open_of.ensures ∙ c.in-Some.is)

-- it is done on the open that was found, in the state as it is kept; and so it is by the table that the process is seen to have
at_found : (c : In-Some) (table : Table) (U : State) (r : Result Answer AllocError) (o : Outcome) → get c.args.self.now.tables c.args.pid ≡ Some table
    → o ≡ offset_outcome c.args.constants.now (the_view c.self.inside) (found c).table c.args.fd (call_of_offset c.args.call)
    → IsDone (takes_memory (call_of_offset c.args.call)) o (the_view c.self.inside) U r
    → IsDone (takes_memory (call_of_offset c.args.call)) (offset_outcome c.args.constants.now c.args.self.now table c.args.fd (call_of_offset c.args.call)) c.args.self.now U r
at_found c table U r o here is done =
    let S = the_view c.self.inside in
    let called = call_of_offset c.args.call in
    let f = found c in
    done_at S c.args.self.now c.self.view_is (takes_memory called) (λ X t. offset_outcome c.args.constants.now X t c.args.fd called) c.args.pid f.table table U r f.there
    here (done_as (takes_memory called) o (offset_outcome c.args.constants.now S f.table c.args.fd called) S U r is done)

pub returns-in_default : goal.returns-in_default
returns-in_default d = λ table here.
    let S = the_view d.self.inside in
    let called = call_of_offset d.args.call in
    let had = ap (λ (X : State). get X.tables d.args.pid) d.self.view_is ∙ here in
    replied_seen S d.args.self.now d.self.view_is (λ X. offset_outcome d.args.constants.now X table d.args.fd called) d.refused.result d.self.invariant.kept.valid
    (absent_comes d.args.constants.now S table d.args.fd called d.requires.on
    (open_absent S.opens (get S.tables d.args.pid) table d.args.fd had (sym d.open_of.ensures ∙ d.in_default.is)) ∙ ap replies (sym d.refused.ensures))

-- ---- a standard stream

pub invariant_of-self : goal.invariant_of-self
invariant_of-self c = record {
  kept = record {
    valid = left_valid (call_of_offset c.args.call) (the_view c.self.inside) c.in-Terminal.which c.on_stream.new.terms c.on_stream.result c.self.invariant.kept.valid
        c.on_stream.ensures.done;
    counted = c.self.invariant.kept.counted;
    few = c.self.invariant.kept.few;
    small = c.self.invariant.kept.small;
    processes = c.self.invariant.kept.processes;
  };
  waits = c.self.invariant.waits;
}

pub returns-in-Terminal : goal.returns-in-Terminal
returns-in-Terminal d = λ table here.
    let c = (goal.at.returns-in-Terminal d).In-Some in
    let f = found c in
    let S = the_view d.self.inside in
    let called = call_of_offset d.args.call in
    let t = d.in-Terminal in
    let o = stream_outcome called t.which (get S.terms t.which) in
    let U = with_terms S d.on_stream.new.terms in
    let r = d.on_stream.result in
    at_found c table U r o here
    (sym (stream_outcome_is d.args.constants.now S f.table d.args.fd called d.in-Some.descriptor t.which t.flags d.requires.on f.named (f.opened ∙ ap Some t.is)))
    (stream_done called S t.which d.on_stream.new.terms r d.self.invariant.kept.valid d.on_stream.ensures.done)

-- ---- an end of channels

pub end_call-requires : goal.end_call-requires
end_call-requires d = record {
  there = (
    d.in-Some.descriptor.id,
    ap (λ (S : State). get S.opens d.in-Some.descriptor.id) (sym d.self.view_is) ∙ (found (goal.at.end_call-requires d).In-Some).opened,
  );
}

pub returns-in-End : goal.returns-in-End
returns-in-End d = λ table here.
    let f = found (goal.at.returns-in-End d).In-Some in
    let S = the_view d.self.inside in
    let T = d.args.self.now in
    let e = d.in-End in
    let called = call_of_offset d.args.call in
    let takes = takes_memory called in
    let U = d.end_call.new.self in
    let r = d.end_call.result in
    let is : end_outcome S.chans d.in-Some.kind called ≡ offset_outcome d.args.constants.now S f.table d.args.fd called =
    ap (λ kind. end_outcome S.chans kind called) e.is
    ∙ sym (end_outcome_is d.args.constants.now S f.table d.args.fd called d.in-Some.descriptor e.reads e.writes e.flags e.kind d.requires.on f.named (f.opened ∙ ap Some e.is)) in
    at_found (goal.at.returns-in-End d).In-Some table U r (end_outcome S.chans d.in-Some.kind called) here is
    (done_seen T S (sym d.self.view_is) takes (λ X. end_outcome X.chans d.in-Some.kind called) U r d.end_call.ensures)

-- ---- any other open

pub at_offset-requires : goal.at_offset-requires
at_offset-requires c =
    there_behind (the_view c.self.inside) c.in-Some.kind
    (c.self.invariant.kept.valid.nearly.behind c.in-Some.descriptor.id c.in-Some.kind (found (goal.at.at_offset-requires c).In-Some).opened)

pub set-requires : goal.set-requires
set-requires c = record {
  there = ap is_some (found (goal.at.set-requires c).In-Some).opened;
  same_node = subst (λ (o : Option OpenKind). IfSome o (IsOfSameNode c.at_offset.new.kind)) (sym (found (goal.at.set-requires c).In-Some).opened)
      (offset_same (c.self.inside.clock + c.args.constants.now.epoch) c.self.inside.tree c.at_offset.new.tree (call_of_offset c.args.call) c.in-Some.kind
      c.at_offset.new.kind c.in_ok-reply.reply c.in_ok-reply.ensures.done);
}

pub invariant_of-self-2 : goal.invariant_of-self-2
invariant_of-self-2 c = record {
  kept = record {
    valid = subst (λ (h : Held). IsValid (record (the_view c.self.inside) { opens = h.kinds; nodes = c.at_offset.new.tree.nodes; names = c.at_offset.new.tree.names }))
        (sym c.set.ensures)
        (offset_valid (call_of_offset c.args.call) c.args.fd (c.self.inside.clock + c.args.constants.now.epoch) c.requires.on (the_view c.self.inside)
        c.in-Some.descriptor.id c.in-Some.kind c.at_offset.new.kind (found (goal.at.invariant_of-self-2 c).In-Some).opened (c.in_default-kind.not-Terminal, c.in_default-kind-2.not-End)
        c.self.invariant.kept.valid c.at_offset.new.tree c.in_ok-reply.reply c.in_ok-reply.ensures.done c.in_ok-reply.ensures.nodes);
    counted = λ o. ap (λ (h : Held). number (get h.counts o)) c.set.ensures ∙ c.self.invariant.kept.counted o;
    few = c.self.invariant.kept.few;
    small = c.self.invariant.kept.small;
    processes = c.self.invariant.kept.processes;
  };
  waits = subst (λ (h : Held). AreHeld (looked_at (record (the_view c.self.inside) { opens = h.kinds })) c.self.inside.waits) (sym c.set.ensures)
      (moved_open_held (the_view c.self.inside) c.in-Some.descriptor.id c.in-Some.kind c.at_offset.new.kind c.self.inside.waits (found (goal.at.invariant_of-self-2 c).In-Some).opened
      (offset_looked (c.self.inside.clock + c.args.constants.now.epoch) c.self.inside.tree c.at_offset.new.tree (call_of_offset c.args.call) c.in-Some.kind c.at_offset.new.kind
      c.in_ok-reply.reply c.in_ok-reply.ensures.done) c.self.invariant.waits);
}

pub returns : goal.returns
returns d = λ table here.
    let c = (goal.at.returns d).In-Some in
    let f = found c in
    let S = the_view d.self.inside in
    let t = d.at_offset.new.tree in
    let called = call_of_offset d.args.call in
    let id = d.in-Some.descriptor.id in
    let now = S.clock + d.args.constants.now.epoch in
    let unlike : IsNoStream d.in-Some.kind = (d.in_default-kind.not-Terminal, d.in_default-kind-2.not-End) in
    let given = answer.Reply d.in_ok-reply.reply in
    let o = with_offset id (offset_outcome_of now (tree_of S) called d.in-Some.kind) in
    at_found c table (record S { opens = d.set.new.self.kinds; nodes = t.nodes; names = t.names }) (Ok given) o here
    (sym (offset_outcome_is d.args.constants.now S f.table d.args.fd called d.in-Some.descriptor d.in-Some.kind d.requires.on f.named f.opened unlike))
    (subst (λ (h : Held). IsAnswered o S (record S { opens = h.kinds; nodes = t.nodes; names = t.names }) given) (sym d.set.ensures)
    (offset_done called d.args.fd now d.requires.on S id d.in-Some.kind d.at_offset.new.kind f.opened unlike d.self.invariant.kept.valid t d.in_ok-reply.reply
    d.in_ok-reply.ensures.done d.in_ok-reply.ensures.nodes))

pub returns-in_err-reply : goal.returns-in_err-reply
returns-in_err-reply d = λ table here.
    let c = (goal.at.returns-in_err-reply d).In-Some in
    let f = found c in
    let S = the_view d.self.inside in
    let called = call_of_offset d.args.call in
    let now = S.clock + d.args.constants.now.epoch in
    let unlike : IsNoStream d.in-Some.kind = (d.in_default-kind.not-Terminal, d.in_default-kind-2.not-End) in
    let o = with_offset d.in-Some.descriptor.id (offset_outcome_of now (tree_of S) called d.in-Some.kind) in
    let U = with_tree S d.at_offset.new.tree in
    let r = d.from_residual.result in
    at_found c table U r o here
    (sym (offset_outcome_is d.args.constants.now S f.table d.args.fd called d.in-Some.descriptor d.in-Some.kind d.requires.on f.named f.opened unlike))
    (lacked (takes_memory called) o S U r d.from_residual.ensures.0 d.in_err-reply.ensures.done.0
    d.in_err-reply.ensures.done.1 (ap (with_tree S) d.in_err-reply.ensures.done.2))
