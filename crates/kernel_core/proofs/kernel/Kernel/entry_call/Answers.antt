use Rattle.std.proofs.Common.{◌≡◌, ℕ, ◌+◌, Some, Ok, option_copied, sym, ap, subst, ◌∙◌, arith}
use Rattle.std.specs.FinMap.{get, insert}
use Rattle.maps.specs.Maps.{insert_self}
use Rattle.tree_model.specs.Opens.{is_used}
use Rattle.tree_model.specs.Retained.{retained}
use Rattle.abi_types.specs.Families.{call_of_entry}
use Rattle.abi_types.specs.declared.reply.Answer.TheVariants as answer
use Rattle.kernel_model.specs.Calls.{takes_memory}
use Rattle.kernel_model.specs.Families.EntryCalls.{name_meaning}
use Rattle.kernel_model.specs.Families.NameMeaning.{NameOutcome, outcome_of}
use Rattle.kernel_model.specs.Families.Numbers.{next_object}
use Rattle.kernel_model.specs.Outcome.{Outcome}
use Rattle.kernel_model.specs.Release.{release}
use Rattle.kernel_model.specs.State.{ProcessState, State, Table, Tree, put_all, tree_of}
use Rattle.kernel_model.specs.Valid.{IsValid}
use Rattle.kernel_model.proofs.Valids.{release_restores}
use Rattle.readiness_laws.specs.Watched.{looked_at}
use Rattle.kernel_invariant.specs.Held.{AreHeld, IsKept}
use Rattle.kernel_core.specs.Entries.{entry_outcome, entries_come}
use Rattle.kernel_parts.specs.Entries.{IsLeftBy, kind_with, open_at, open_in}
use Rattle.kernel_core.specs.contracts.kernel.Kernel.{the_view}
use Rattle.kernel_core.proofs.Done.{done_as, done_at, lacked}
use Rattle.kernel_core.proofs.EntryCalls.{entries_after, entries_answer, entries_take_memory, entries_tree, entries_valid, open_there}
use Rattle.kernel_parts.proofs.Forgetting.{used_still}
use Rattle.kernel_invariant.proofs.HeldNew.{same_threads_are_held}
use Rattle.kernel_invariant.proofs.HeldSame.{named_threads}
use Rattle.kernel_core.proofs.Opens.{IsFound, open_absent, open_found}
use Rattle.kernel_core.proofs.kernel.Kernel.entry_call.Goals as goal
use Rattle.kernel_core.proofs.kernel.Kernel.entry_call.Goals.{In_err-done, In_ok-done}

-- the first descriptor and its open, by the process's table
found : (c : In_ok-done) → IsFound c.self.inside.objects.kinds (get c.self.inside.tables c.args.pid) c.args.fd c.in-Some.field-0-0 c.in-Some.here
found c = open_found _ _ _ _ _ (sym c.open_of.ensures ∙ c.in-Some.is)

abbrev table_of : In_ok-done → Table
table_of c = (found c).table

there : (c : In_ok-done) → get c.self.inside.tables c.args.pid ≡ Some (table_of c)
there c = (found c).there

-- the first descriptor is there, and so is its open
pub returns-in_default : goal.returns-in_default
returns-in_default d = λ table here.
    let S = the_view d.self.inside in
    let has = ap (λ (T : State). get T.tables d.args.pid) d.self.view_is ∙ here in
    absurd (open_there S d.args.pid d.args.fd table has d.self.invariant.kept.valid.nearly (d.requires.named table here)
    (open_absent S.opens (get S.tables d.args.pid) table d.args.fd has (sym d.open_of.ensures ∙ d.in_default.is)))

-- ---- where memory runs out nothing has changed

abbrev unchanged : In_err-done → State
unchanged c = record (the_view c.self.inside) {
  processes = insert c.self.inside.processes c.from.result c.change_entries.new.own;
  nodes = c.change_entries.new.tree.nodes;
  names = c.change_entries.new.tree.names;
}

as_before : (c : In_err-done) → unchanged c ≡ the_view c.self.inside
as_before c =
    let own : insert c.self.inside.processes c.from.result c.change_entries.new.own ≡ c.self.inside.processes =
    ap (insert c.self.inside.processes c.from.result) c.in_err-done.ensures.same_process
    ∙ insert_self c.self.inside.processes c.from.result c.get_mut-own.result.now (sym c.get_mut-own.ensures.value) in
    λ i. record (the_view c.self.inside) {
      processes = own i;
      nodes = (c.in_err-done.ensures.same_tree i).nodes;
      names = (c.in_err-done.ensures.same_tree i).names;
    }

pub invariant_of-self : goal.invariant_of-self
invariant_of-self d = record {
  kept =
      let c = (goal.at.invariant_of-self d).In_err-done in
      subst (λ (S : State). IsKept S d.self.inside.objects.counts) (sym (as_before c)) d.self.invariant.kept;
  waits =
      let c = (goal.at.invariant_of-self d).In_err-done in
      subst (λ (S : State). AreHeld (looked_at S) d.self.inside.waits) (sym (as_before c)) d.self.invariant.waits;
}

-- and the call would succeed
pub returns-in_err-done : goal.returns-in_err-done
returns-in_err-done d = λ table here.
    let c = (goal.at.returns-in_err-done d).In_err-done in
    let constants = d.args.constants.now in
    let S = the_view d.self.inside in
    let p = d.args.pid in
    let called = call_of_entry d.args.call in
    let takes = takes_memory called in
    let r = d.from_residual.result in
    let f : IsFound S.opens (get S.tables p) d.args.fd d.in-Some.field-0-0 d.in-Some.here = open_found _ _ _ _ _ (sym d.open_of.ensures ∙ d.in-Some.is) in
    let own : get S.processes p ≡ Some d.get_mut-own.result.now = ap (get S.processes) (sym (d.from.ensures ∙ d.pid.view_is)) ∙ sym d.get_mut-own.ensures.value in
    let first : Some d.in-Some.here ≡ open_in S.opens (get f.table d.args.fd) = sym (ap (open_in S.opens) f.named ∙ f.opened) in
    let other : option_copied d.as_ref.result ≡ open_at S.opens f.table d.args.other =
    d.as_ref.ensures.value ∙ d.kind_of-there.ensures ∙ ap (λ t. kind_with S.opens t d.args.other) f.there in
    let o : Outcome =
    outcome_of p (Some d.get_mut-own.result.now) (name_meaning called).new_nodes ((name_meaning called).effect (S.clock + constants.epoch)
    (next_object p (Some d.get_mut-own.result.now) 1) (tree_of S) (Some d.in-Some.here) (option_copied d.as_ref.result)) in
    let same : o ≡ entry_outcome constants S p f.table d.args.fd d.args.other called =
    λ i. outcome_of p (sym own i) (name_meaning called).new_nodes
    ((name_meaning called).effect (S.clock + constants.epoch) (next_object p (sym own i) 1) (tree_of S) (first i) (other i)) in
    done_at S d.args.self.now d.self.view_is takes (λ X t. entry_outcome constants X p t d.args.fd d.args.other called) p f.table table (unchanged c) r f.there here
    (done_as takes o (entry_outcome constants S p f.table d.args.fd d.args.other called) S (unchanged c) r same
    (lacked takes o S (unchanged c) r d.from_residual.ensures.0 (entries_take_memory called (d.args.fd, d.args.other) d.requires.on) d.in_err-done.ensures.only (as_before c)))

-- ---- the call is done

-- what the process had of its own
owned : (c : In_ok-done) → get c.self.inside.processes c.args.pid ≡ Some c.get_mut-own.result.now
owned c = ap (get c.self.inside.processes) (sym (c.from.ensures ∙ c.pid.view_is)) ∙ sym c.get_mut-own.ensures.value

abbrev comes : In_ok-done → NameOutcome
comes c = entries_come c.args.constants.now (the_view c.self.inside) c.args.pid (table_of c) c.args.fd c.args.other (call_of_entry c.args.call)

done : (c : In_ok-done) → IsLeftBy c.args.pid (name_meaning (call_of_entry c.args.call)).new_nodes c.get_mut-own.result.now c.change_entries.new.own c.self.inside.tree
    c.change_entries.new.tree (comes c) c.in_ok-done.done.reply
done c =
    let S = the_view c.self.inside in
    let f = found c in
    let here : Some c.in-Some.here ≡ open_in S.opens (get f.table c.args.fd) = sym (ap (open_in S.opens) f.named ∙ f.opened) in
    let other : option_copied c.as_ref.result ≡ open_at S.opens f.table c.args.other =
    c.as_ref.ensures.value ∙ c.kind_of-there.ensures ∙ ap (λ t. kind_with S.opens t c.args.other) f.there in
    let same : _ ≡ comes c =
    λ i. (name_meaning (call_of_entry c.args.call)).effect (c.self.inside.clock + c.args.constants.now.epoch) (next_object c.args.pid (sym (owned c) i) 1) (tree_of S) (here i) (other i) in
    subst (λ k. IsLeftBy c.args.pid (name_meaning (call_of_entry c.args.call)).new_nodes c.get_mut-own.result.now c.change_entries.new.own c.self.inside.tree c.change_entries.new.tree k
    c.in_ok-done.done.reply) same c.in_ok-done.ensures.done

pub forget_nameless-requires-clause-tree : goal.forget_nameless-requires-clause-tree
forget_nameless-requires-clause-tree d =
    let c = (goal.at.forget_nameless-requires-clause-tree d).In_ok-done in
    let S = the_view d.self.inside in
    entries_tree d.args.constants.now S d.args.pid (table_of c) d.args.fd d.args.other (call_of_entry d.args.call) d.requires.on d.get_mut-own.result.now d.change_entries.new.own (owned c)
    d.self.invariant.kept.valid d.change_entries.new.tree d.in_ok-done.done.reply (done c) (there c)

pub forget_nameless-requires-clause-others : goal.forget_nameless-requires-clause-others
forget_nameless-requires-clause-others d =
    let S = the_view d.self.inside in
    used_still S.opens S.opens (tree_of S) d.change_entries.new.tree d.in_ok-done.done.lost (λ n. omega arith) d.self.invariant.kept.valid.kept d.in_ok-done.ensures.lost

-- the fields as they are in the end
abbrev fields : In_ok-done → Tree → State
fields c t = record (the_view c.self.inside) { processes = insert c.self.inside.processes c.from.result c.change_entries.new.own; nodes = t.nodes; names = t.names }

after : (c : In_ok-done) (t : Tree) → t ≡ retained c.change_entries.new.tree (is_used c.self.inside.objects.kinds c.change_entries.new.tree)
    → fields c t ≡ release (put_all (entry_outcome c.args.constants.now (the_view c.self.inside) c.args.pid (table_of c) c.args.fd c.args.other (call_of_entry c.args.call)).updates (the_view c.self.inside))
after c t rest =
    let S = the_view c.self.inside in
    ap (λ (p : ℕ). record S { processes = insert S.processes p c.change_entries.new.own; nodes = t.nodes; names = t.names }) (c.from.ensures ∙ c.pid.view_is)
    ∙ entries_after c.args.constants.now S c.args.pid (table_of c) c.args.fd c.args.other (call_of_entry c.args.call) c.requires.on c.get_mut-own.result.now c.change_entries.new.own
    (owned c) c.self.invariant.kept.valid c.change_entries.new.tree c.in_ok-done.done.reply (done c) t rest

pub invariant_of-self-2 : goal.invariant_of-self-2
invariant_of-self-2 d = record {
  kept =
      let c = (goal.at.invariant_of-self-2 d).In_ok-done in
      let S = the_view d.self.inside in
      record {
        valid = subst IsValid (sym (after c d.forget_nameless.new.tree d.forget_nameless.ensures)) (release_restores _
            (entries_valid d.args.constants.now S d.args.pid (table_of (goal.at.invariant_of-self-2 d).In_ok-done) d.args.fd d.args.other (call_of_entry d.args.call) d.requires.on (there (goal.at.invariant_of-self-2 d).In_ok-done)
            d.self.invariant.kept.valid.nearly));
        counted = d.self.invariant.kept.counted;
        few = d.self.invariant.kept.few;
        small = d.self.invariant.kept.small;
        processes = d.self.invariant.kept.processes;
      };
  waits =
      let c = (goal.at.invariant_of-self-2 d).In_ok-done in
      let S = the_view d.self.inside in
      let own : ProcessState = d.get_mut-own.result.now in
      same_threads_are_held S d.from.result own d.change_entries.new.own d.self.inside.waits (sym d.get_mut-own.ensures.value)
      (ap (λ (x : ProcessState). x.threads) (done c).numbered
      ∙ named_threads d.args.pid (name_meaning (call_of_entry d.args.call)).new_nodes own (comes c)) d.self.invariant.waits;
}

pub returns : goal.returns
returns d = λ table here.
    let c = (goal.at.returns d).In_ok-done in
    let constants = d.args.constants.now in
    let S = the_view d.self.inside in
    let called = call_of_entry d.args.call in
    let t = d.forget_nameless.new.tree in
    done_at S d.args.self.now d.self.view_is (takes_memory called) (λ X t. entry_outcome constants X d.args.pid t d.args.fd d.args.other called) d.args.pid (table_of c)
    table (fields c t) (Ok (answer.Reply d.in_ok-done.done.reply)) (there c) here (
      entries_answer constants S d.args.pid (table_of c) d.args.fd d.args.other called d.requires.on d.get_mut-own.result.now d.change_entries.new.own (owned c)
          d.self.invariant.kept.valid d.change_entries.new.tree d.in_ok-done.done.reply (done c),
      after c t d.forget_nameless.ensures,
    )
