use Rattle.std.proofs.Common.{◌+◌, Some, Ok, ap, sym, ◌∙◌}
use Rattle.std.specs.FinMap.{get}
use Rattle.abi_types.specs.Families.{call_of_file}
use Rattle.abi_types.specs.declared.reply.Answer.TheVariants as answer
use Rattle.kernel_model.specs.Calls.{takes_memory}
use Rattle.kernel_model.specs.Families.FileCalls.{file_meaning}
use Rattle.kernel_model.specs.Outcome.{replies}
use Rattle.kernel_model.specs.State.{State, tree_of}
use Rattle.kernel_core.specs.Files.{file_outcome}
use Rattle.kernel_core.specs.contracts.kernel.Kernel.{the_view}
use Rattle.kernel_core.proofs.Done.{answered_as, done_as, done_at, lacked, replied_seen}
use Rattle.kernel_core.proofs.FileCalls.{absent_comes, done_released, done_valid, file_comes, file_takes_memory, there_behind, with_tree}
use Rattle.kernel_core.proofs.Opens.{IsFound, found_kind, open_absent, open_found}
use Rattle.kernel_core.proofs.kernel.Kernel.file_call.Goals as goal
use Rattle.kernel_core.proofs.kernel.Kernel.file_call.Goals.{In-Some}

-- the descriptor and its open
found : (c : In-Some) → IsFound c.self.inside.objects.kinds (get c.self.inside.tables c.args.pid) c.args.fd c.in-Some.field-0-0 c.in-Some.kind
found c = open_found _ _ _ _ _ (sym c.open_of.ensures ∙ c.in-Some.is)

pub returns-in_default : goal.returns-in_default
returns-in_default d = λ table here.
    let S = the_view d.self.inside in
    let called = call_of_file d.args.call in
    let had = ap (λ (X : State). get X.tables d.args.pid) d.self.view_is ∙ here in
    replied_seen S d.args.self.now d.self.view_is (λ X. file_outcome d.args.constants.now X table d.args.fd called) d.refused.result d.self.invariant.kept.valid
    (absent_comes d.args.constants.now S table d.args.fd called d.requires.on
    (open_absent S.opens (get S.tables d.args.pid) table d.args.fd had (sym d.open_of.ensures ∙ d.in_default.is)) ∙ ap replies (sym d.refused.ensures))

pub on_open-requires : goal.on_open-requires
on_open-requires d =
    let c = (goal.at.on_open-requires d).In-Some in
    there_behind (the_view d.self.inside) d.in-Some.kind (d.self.invariant.kept.valid.nearly.behind d.in-Some.field-0-0.id d.in-Some.kind (found c).opened)

pub invariant_of-self-2 : goal.invariant_of-self-2
invariant_of-self-2 d = record {
  kept =
      let c = (goal.at.invariant_of-self-2 d).In-Some in
      record {
        valid = done_valid (call_of_file d.args.call) d.args.fd (d.self.inside.clock + d.args.constants.now.epoch) d.requires.on (the_view d.self.inside)
            d.in-Some.field-0-0.id d.in-Some.kind (found c).opened d.self.invariant.kept.valid d.on_open.new.tree
            d.in_ok-reply.ensures.done.1 d.in_ok-reply.ensures.nodes;
        counted = d.self.invariant.kept.counted;
        few = d.self.invariant.kept.few;
        small = d.self.invariant.kept.small;
        processes = d.self.invariant.kept.processes;
      };
  waits = d.self.invariant.waits;
}

pub returns : goal.returns
returns d = λ table here.
    let f = found (goal.at.returns d).In-Some in
    let constants = d.args.constants.now in
    let S = the_view d.self.inside in
    let called = call_of_file d.args.call in
    let given = answer.Reply d.in_ok-reply.reply in
    done_at S d.args.self.now d.self.view_is (takes_memory called) (λ X t. file_outcome constants X t d.args.fd called) d.args.pid f.table table
    (with_tree S d.on_open.new.tree) (Ok given) f.there here
    (answered_as _ (file_outcome constants S f.table d.args.fd called) S (with_tree S d.on_open.new.tree) given
    (file_comes constants S f.table d.args.fd called d.in-Some.kind (found_kind S d.args.pid d.args.fd d.in-Some.field-0-0 d.in-Some.kind f f.table f.there)) (
      d.in_ok-reply.ensures.done.0,
      done_released called d.args.fd (S.clock + constants.epoch) d.requires.on S d.in-Some.field-0-0.id d.in-Some.kind f.opened
          d.self.invariant.kept.valid d.on_open.new.tree d.in_ok-reply.ensures.done.1 d.in_ok-reply.ensures.nodes,
    ))

pub returns-in_err-reply : goal.returns-in_err-reply
returns-in_err-reply d = λ table here.
    let f = found (goal.at.returns-in_err-reply d).In-Some in
    let constants = d.args.constants.now in
    let S = the_view d.self.inside in
    let called = call_of_file d.args.call in
    let r = d.from_residual.result in
    let o = (file_meaning called).effect (S.clock + constants.epoch) (tree_of S) (Some d.in-Some.kind) in
    let U = with_tree S d.on_open.new.tree in
    done_at S d.args.self.now d.self.view_is (takes_memory called) (λ X t. file_outcome constants X t d.args.fd called) d.args.pid f.table table U r f.there here
    (done_as (takes_memory called) o (file_outcome constants S f.table d.args.fd called) S U r
    (file_comes constants S f.table d.args.fd called d.in-Some.kind (found_kind S d.args.pid d.args.fd d.in-Some.field-0-0 d.in-Some.kind f f.table f.there))
    (lacked (takes_memory called) o S U r d.from_residual.ensures.0 (file_takes_memory called d.args.fd d.requires.on d.in_err-reply.ensures.done.0)
    d.in_err-reply.ensures.done.1 (ap (with_tree S) d.in_err-reply.ensures.done.2)))
