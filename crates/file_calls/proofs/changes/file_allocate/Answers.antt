use Rattle.std.proofs.Common.{◌≡◌, ◌+◌, Some, ap, sym, subst, ◌∙◌, arith}
use Rattle.std.specs.FinMap.{get}
use Rattle.abi_types.specs.declared.open_kind.OpenKind.{OpenKind}
use Rattle.kernel_model.specs.Families.FileChanges.{allocate, allocated}
use Rattle.kernel_model.specs.Outcome.{IsSuccess}
use Rattle.kernel_model.proofs.FileChanges.{allocated_reworks}
use Rattle.kernel_model.proofs.Opened.{file_is_some}
use Rattle.file_calls.specs.Done.{IsDone}
use Rattle.file_calls.specs.Opens.{IsThere}
use Rattle.file_calls.proofs.Done.{tree_lacked}
use Rattle.file_calls.proofs.Reworked.{allocated_still, becomes_is, becomes_succeeds, nodes_stay, not_large, unless_done, unless_succeeds}
use Rattle.file_calls.proofs.changes.file_allocate.Goals as goal

pub returns-in_ok-set_least_size-in-File-clause-done : goal.returns-in_ok-set_least_size-in-File-clause-done
returns-in_ok-set_least_size-in-File-clause-done c =
    let t = c.args.tree.now in
    let u = c.set_least_size.new.tree in
    let node = c.in-File.node in
    let size = c.args.offset + c.args.length in
    let same : c.saturating_add-size.result ≡ size = omega arith in
    let reply = c.done.result in
    let is : u ≡ allocated t node c.args.now size =
    c.in_ok-set_least_size-in-File.ensures.ok ∙ ap (allocated t node c.args.now) same in
    subst (λ (kind : OpenKind). IsDone (allocate size c.args.now t (Some kind)) t u reply) (sym c.in-File.is)
    (unless_done _ _ _ t u reply (not_large size (omega arith))
    (becomes_is t (allocated t node c.args.now size) u node reply
    (allocated_reworks t node c.args.now size (subst (IsThere t) c.in-File.is c.requires))
    (allocated_still t node c.args.now size) is c.done.ensures))

pub returns-in_ok-set_least_size-in-File-clause-nodes : goal.returns-in_ok-set_least_size-in-File-clause-nodes
returns-in_ok-set_least_size-in-File-clause-nodes c =
    let t = c.args.tree.now in
    let node = c.in-File.node in
    let size = c.saturating_add-size.result in
    nodes_stay t (allocated t node c.args.now size) c.set_least_size.new.tree node
    (allocated_reworks t node c.args.now size (subst (IsThere t) c.in-File.is c.requires))
    (allocated_still t node c.args.now size) c.in_ok-set_least_size-in-File.ensures.ok

pub returns-in_err-set_least_size-in-File-clause-done : goal.returns-in_err-set_least_size-in-File-clause-done
returns-in_err-set_least_size-in-File-clause-done c =
    let t = c.args.tree.now in
    let node = c.in-File.node in
    let size = c.args.offset + c.args.length in
    tree_lacked (allocate size c.args.now t (Some c.args.kind.now)) t c.set_least_size.new.tree c.from_residual.result c.from_residual.ensures.0
    (subst (λ (kind : OpenKind). IsSuccess (allocate size c.args.now t (Some kind)).answer) (sym c.in-File.is)
    (unless_succeeds _ _ _ (not_large size (omega arith))
    (becomes_succeeds t (allocated t node c.args.now size) node (allocated_still t node c.args.now size)
    (file_is_some (get t.nodes node) (subst (IsThere t) c.in-File.is c.requires)))))
    c.in_err-set_least_size-in-File.ensures.err
