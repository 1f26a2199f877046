use Rattle.std.proofs.Common.{Some, sym, subst, ◌∙◌, arith}
use Rattle.abi_types.specs.declared.open_kind.OpenKind.{OpenKind}
use Rattle.kernel_model.specs.Families.FileBytes.{overwritten, write_at}
use Rattle.kernel_model.specs.Outcome.{Outcome}
use Rattle.kernel_model.proofs.FileBytes.{overwritten_reworks}
use Rattle.file_calls.specs.Done.{IsDone}
use Rattle.file_calls.specs.Opens.{IsThere}
use Rattle.file_calls.proofs.Reworked.{is_written, nodes_stay, overwrites_is, overwritten_still}
use Rattle.file_calls.proofs.writing.fd_pwrite.Goals as goal

pub returns-clause-done : goal.returns-clause-done
returns-clause-done c =
    let t = c.args.tree.now in
    let u = c.overwrite.new.tree in
    let node = c.in-File.node in
    let at = c.args.at in
    let bytes = c.args.bytes.now in
    let file = subst (IsThere t) c.in-File.is c.requires in
    subst (λ (kind : OpenKind). IsDone (write_at bytes at c.args.now t (Some kind)) t u c.success-2.result) (sym c.in-File.is)
    (subst (λ (o : Outcome). IsDone o t u c.success-2.result) (sym (is_written t node c.args.now at bytes (sym c.is_empty.ensures ∙ c.if-is_empty.false) (omega arith)))
    (overwrites_is t u node c.args.now at bytes c.in_ok-count.count c.success-2.result file c.in_ok-count.ensures.ok c.in_ok-count.ensures.count c.success-2.ensures))

pub returns-clause-nodes : goal.returns-clause-nodes
returns-clause-nodes c =
    let t = c.args.tree.now in
    let node = c.in-File.node in
    nodes_stay t (overwritten t node c.args.now c.args.at c.args.bytes.now) c.overwrite.new.tree node
    (overwritten_reworks t node c.args.now c.args.at c.args.bytes.now (subst (IsThere t) c.in-File.is c.requires))
    (overwritten_still t node c.args.now c.args.at c.args.bytes.now) c.in_ok-count.ensures.ok
