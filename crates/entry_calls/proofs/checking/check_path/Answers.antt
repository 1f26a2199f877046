use Rattle.std.proofs.Common.{Some}
use Rattle.kernel_model.specs.Families.LastNames.{last_name}
use Rattle.entry_calls.proofs.Reported.{made_reported}
use Rattle.entry_calls.proofs.checking.check_path.Goals as goal

pub returns-in-Ok : goal.returns-in-Ok
returns-in-Ok c = λ kind now new there.
    made_reported kind now new c.args.tree.now c.args.path.now c.name_at.result.now (last_name c.args.tree.now c.args.path.now (Some c.args.here.now))
    c.in_ok-place.place c.in_ok-place.ensures c.name_at.ensures c.in-Ok.ensures
