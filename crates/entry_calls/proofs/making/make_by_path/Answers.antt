use Rattle.std.proofs.Common.{Some}
use Rattle.kernel_model.specs.Families.LastNames.{last_name}
use Rattle.kernel_model.specs.Families.NameMaking.{make_in}
use Rattle.entry_calls.proofs.Endings.{place_done}
use Rattle.entry_calls.proofs.making.make_by_path.Goals as goal

pub returns : goal.returns
returns c =
    let t = c.args.tree.now in
    place_done t c.make_in.new.tree c.make_in.result (make_in c.args.kind c.args.now c.args.new t) c.args.path.now c.name_at.result.now
    (last_name t c.args.path.now (Some c.args.here.now)) c.in_ok-place.place c.in_ok-place.ensures c.name_at.ensures c.make_in.ensures
