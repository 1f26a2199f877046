use Rattle.std.proofs.Common.{Some, refl, ap, subst, ◌∙◌}
use Rattle.abi_types.specs.declared.reply.Answer.TheVariants as answer
use Rattle.kernel_model.specs.Families.FileChanges.{put_found, put_times}
use Rattle.kernel_model.specs.Families.FilePaths.{walked}
use Rattle.kernel_model.specs.Outcome.{Outcome}
use Rattle.kernel_model.proofs.FileChanges.{put_times_reworks}
use Rattle.file_calls.specs.Done.{IsDone}
use Rattle.file_calls.specs.Walks.{node_or_refusal}
use Rattle.file_calls.proofs.Reworked.{becomes_is, nodes_stay, put_times_still}
use Rattle.file_calls.proofs.Walks.{found_goes_on, lost_replies}
use Rattle.file_calls.proofs.changes.file_stat_put.Goals as goal

pub returns-in-Ok-clause-ok : goal.returns-in-Ok-clause-ok
returns-in-Ok-clause-ok c =
    let t = c.args.tree.now in
    let u = c.put_times.new.tree in
    let node = c.in-Ok.node in
    let stat = c.args.stat.now in
    let reply = c.done.result in
    subst (λ (o : Outcome). IsDone o t u reply)
    (found_goes_on (put_found c.args.flags stat c.args.now t) _ node
    (c.in-Ok.ensures ∙ ap (λ mode. node_or_refusal (walked t mode c.args.path.now (Some c.args.kind.now))) c.lookup_mode.ensures))
    (becomes_is t (put_times c.args.flags stat c.args.now t node) u node reply (put_times_reworks c.args.flags stat c.args.now t node)
    (put_times_still c.args.flags stat c.args.now t node) c.put_times.ensures c.done.ensures)

pub returns-in-Err-clause-ok : goal.returns-in-Err-clause-ok
returns-in-Err-clause-ok c =
    let t = c.args.tree.now in
    subst (λ (o : Outcome). IsDone o t t c.reply_of.result)
    (lost_replies (put_found c.args.flags c.args.stat.now c.args.now t) _ c.in-Err.refusal
    (c.in-Err.ensures ∙ ap (λ mode. node_or_refusal (walked t mode c.args.path.now (Some c.args.kind.now))) c.lookup_mode.ensures))
    (ap answer.Reply c.reply_of.ensures, refl)

pub returns-in-Ok-clause-nodes : goal.returns-in-Ok-clause-nodes
returns-in-Ok-clause-nodes c =
    let t = c.args.tree.now in
    let node = c.in-Ok.node in
    let stat = c.args.stat.now in
    nodes_stay t (put_times c.args.flags stat c.args.now t node) c.put_times.new.tree node (put_times_reworks c.args.flags stat c.args.now t node)
    (put_times_still c.args.flags stat c.args.now t node) c.put_times.ensures
