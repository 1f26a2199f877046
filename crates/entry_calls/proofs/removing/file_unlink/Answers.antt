use Rattle.std.proofs.Common.{Some}
use Rattle.std.proofs.lemmas.Result.{err_from_is_err_and}
use Rattle.kernel_model.specs.Families.LastNames.{last_name}
use Rattle.kernel_model.specs.Families.NameRemoving.{unlink_in}
use Rattle.entry_calls.proofs.Endings.{place_done, place_failed}
use Rattle.entry_calls.proofs.removing.file_unlink.Goals as goal

pub returns : goal.returns
returns c new =
    let t = c.args.tree.now in
    place_done t c.unlink_in.new.tree c.unlink_in.result (unlink_in c.args.flags c.args.now t) c.args.path.now c.name_at.result.now
    (last_name t c.args.path.now (Some c.args.here.now)) c.in_ok-place.place c.in_ok-place.ensures c.name_at.ensures c.unlink_in.ensures

pub returns-in_err-place : goal.returns-in_err-place
returns-in_err-place c new =
    let t = c.args.tree.now in
    let p = err_from_is_err_and c.from_residual.result c.from_residual.ensures.1 in
    place_failed t c.from_residual.result (unlink_in c.args.flags c.args.now t) c.args.path.now (last_name t c.args.path.now (Some c.args.here.now)) p.0
    c.in_err-place.field-0.0 c.in_err-place.ensures p.1 p.2
