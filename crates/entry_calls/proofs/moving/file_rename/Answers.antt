use Rattle.std.proofs.Common.{Some, option_copied}
use Rattle.kernel_model.specs.Families.LastNames.{last_name}
use Rattle.kernel_model.specs.Families.NameMeaning.{at_name}
use Rattle.kernel_model.specs.Families.NameMoving.{rename_in}
use Rattle.entry_calls.proofs.Endings.{place_done}
use Rattle.entry_calls.proofs.moving.file_rename.Goals as goal

pub returns : goal.returns
returns c new =
    let t = c.args.tree.now in
    let u = c.rename_in.new.tree in
    let from = c.in_ok-from.from in
    let last = last_name t c.args.new_path.now (option_copied c.args.there) in
    place_done t u c.rename_in.result (λ dir name. at_name (rename_in c.args.now t dir name) last) c.args.path.now c.name_at.result.now
    (last_name t c.args.path.now (Some c.args.here.now)) from c.in_ok-from.ensures c.name_at.ensures
    (place_done t u c.rename_in.result (rename_in c.args.now t from.dir c.name_at.result.now) c.args.new_path.now c.name_at-2.result.now last
    c.in_ok-to.to c.in_ok-to.ensures c.name_at-2.ensures c.rename_in.ensures)
