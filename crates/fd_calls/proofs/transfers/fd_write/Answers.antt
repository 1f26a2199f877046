use Rattle.std.proofs.Common.{◌+◌, sym, subst, ◌∙◌, arith}
use Rattle.abi_types.specs.declared.open_kind.OpenKind.{OpenKind}
use Rattle.abi_types.specs.declared.open_kind.OpenKind.TheVariants.{File}
use Rattle.kernel_model.specs.Families.FileBytes.{overwritten}
use Rattle.kernel_model.specs.Families.FileOffsets.{write_open_file}
use Rattle.kernel_model.proofs.FileBytes.{overwritten_reworks}
use Rattle.file_calls.specs.Opens.{IsThere}
use Rattle.file_calls.proofs.Reworked.{nodes_stay, overwritten_still}
use Rattle.fd_calls.specs.AtOffset.{IsAtOffset}
use Rattle.fd_calls.proofs.Written.{written_moves}
use Rattle.fd_calls.proofs.transfers.fd_write.Goals as goal

pub returns-in_ok-count-in-File-clause-done : goal.returns-in_ok-count-in-File-clause-done
returns-in_ok-count-in-File-clause-done c =
    let t = c.args.tree.now in
    let u = c.overwrite.new.tree in
    let node = c.in-File.node in
    let at = c.write_place-at.result in
    let bytes = c.args.bytes.now in
    let count = c.in_ok-count-in-File.count in
    let reply = c.success-in-File.result in
    subst (λ (kind : OpenKind). IsAtOffset (write_open_file c.args.now t bytes kind) t u kind (File node (at + count) c.in-File.flags) reply) (sym c.in-File.is)
    (written_moves t u node c.in-File.offset c.in-File.flags c.args.now at bytes count reply c.write_place-at.ensures
    (sym c.is_empty.ensures ∙ c.if-is_empty.false) (omega arith) (subst (IsThere t) c.in-File.is c.requires)
    c.in_ok-count-in-File.ensures.ok c.in_ok-count-in-File.ensures.count c.success-in-File.ensures)

pub returns-in_ok-count-in-File-clause-nodes : goal.returns-in_ok-count-in-File-clause-nodes
returns-in_ok-count-in-File-clause-nodes c =
    let t = c.args.tree.now in
    let node = c.in-File.node in
    let at = c.write_place-at.result in
    let bytes = c.args.bytes.now in
    nodes_stay t (overwritten t node c.args.now at bytes) c.overwrite.new.tree node
    (overwritten_reworks t node c.args.now at bytes (subst (IsThere t) c.in-File.is c.requires)) (overwritten_still t node c.args.now at bytes)
    c.in_ok-count-in-File.ensures.ok
