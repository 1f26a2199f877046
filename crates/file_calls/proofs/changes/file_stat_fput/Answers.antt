use Rattle.std.proofs.Common.{Some, sym, subst, ◌∙◌, arith}
use Rattle.std.specs.FinMap.{get}
use Rattle.abi_types.specs.declared.open_kind.OpenKind.{OpenKind}
use Rattle.kernel_model.specs.Families.FileChanges.{asked_size, put_open, put_stat, put_times}
use Rattle.kernel_model.specs.Outcome.{IsSuccess}
use Rattle.kernel_model.proofs.FileChanges.{put_stat_reworks, put_times_reworks}
use Rattle.kernel_model.proofs.Opened.{file_is_some}
use Rattle.file_calls.specs.Done.{IsDone}
use Rattle.file_calls.specs.Opens.{IsThere}
use Rattle.file_calls.proofs.Done.{tree_lacked}
use Rattle.file_calls.proofs.Reworked.{becomes_is, becomes_succeeds, nodes_stay, not_large, put_stat_still, put_times_still, unless_done, unless_succeeds}
use Rattle.file_calls.proofs.changes.file_stat_fput.Goals as goal

pub returns-in_ok-put_stat-in-File-clause-done : goal.returns-in_ok-put_stat-in-File-clause-done
returns-in_ok-put_stat-in-File-clause-done c =
    let t = c.args.tree.now in
    let u = c.put_stat.new.tree in
    let node = c.in-File.node in
    let stat = c.args.stat.now in
    let reply = c.done.result in
    subst (λ (kind : OpenKind). IsDone (put_open c.args.flags stat c.args.now t (Some kind)) t u reply) (sym c.in-File.is)
    (unless_done _ _ _ t u reply (not_large (asked_size c.args.flags stat) (omega (arith, c.asked_size.ensures)))
    (becomes_is t (put_stat c.args.flags stat c.args.now t node) u node reply
    (put_stat_reworks c.args.flags stat c.args.now t node (subst (IsThere t) c.in-File.is c.requires))
    (put_stat_still c.args.flags stat c.args.now t node) c.in_ok-put_stat-in-File.ensures.ok c.done.ensures))

pub returns-else-has_size-clause-done : goal.returns-else-has_size-clause-done
returns-else-has_size-clause-done c =
    let t = c.args.tree.now in
    let u = c.put_times.new.tree in
    let node = c.in-Directory.node in
    let stat = c.args.stat.now in
    let reply = c.done-in-Directory.result in
    subst (λ (kind : OpenKind). IsDone (put_open c.args.flags stat c.args.now t (Some kind)) t u reply) (sym c.in-Directory.is)
    (unless_done _ _ _ t u reply (sym c.has_size.ensures ∙ c.if-has_size.false)
    (becomes_is t (put_times c.args.flags stat c.args.now t node) u node reply (put_times_reworks c.args.flags stat c.args.now t node)
    (put_times_still c.args.flags stat c.args.now t node) c.put_times.ensures c.done-in-Directory.ensures))

pub returns-in_ok-put_stat-in-File-clause-nodes : goal.returns-in_ok-put_stat-in-File-clause-nodes
returns-in_ok-put_stat-in-File-clause-nodes c =
    let t = c.args.tree.now in
    let node = c.in-File.node in
    let stat = c.args.stat.now in
    nodes_stay t (put_stat c.args.flags stat c.args.now t node) c.put_stat.new.tree node
    (put_stat_reworks c.args.flags stat c.args.now t node (subst (IsThere t) c.in-File.is c.requires))
    (put_stat_still c.args.flags stat c.args.now t node) c.in_ok-put_stat-in-File.ensures.ok

pub returns-else-has_size-clause-nodes : goal.returns-else-has_size-clause-nodes
returns-else-has_size-clause-nodes c =
    let t = c.args.tree.now in
    let node = c.in-Directory.node in
    let stat = c.args.stat.now in
    nodes_stay t (put_times c.args.flags stat c.args.now t node) c.put_times.new.tree node (put_times_reworks c.args.flags stat c.args.now t node)
    (put_times_still c.args.flags stat c.args.now t node) c.put_times.ensures

pub returns-in_err-put_stat-in-File-clause-done : goal.returns-in_err-put_stat-in-File-clause-done
returns-in_err-put_stat-in-File-clause-done c =
    let t = c.args.tree.now in
    let node = c.in-File.node in
    let stat = c.args.stat.now in
    tree_lacked (put_open c.args.flags stat c.args.now t (Some c.args.kind.now)) t c.put_stat.new.tree c.from_residual.result c.from_residual.ensures.0
    (subst (λ (kind : OpenKind). IsSuccess (put_open c.args.flags stat c.args.now t (Some kind)).answer) (sym c.in-File.is)
    (unless_succeeds _ _ _ (not_large (asked_size c.args.flags stat) (omega (arith, c.asked_size.ensures)))
    (becomes_succeeds t (put_stat c.args.flags stat c.args.now t node) node (put_stat_still c.args.flags stat c.args.now t node)
    (file_is_some (get t.nodes node) (subst (IsThere t) c.in-File.is c.requires)))))
    c.in_err-put_stat-in-File.ensures.err
