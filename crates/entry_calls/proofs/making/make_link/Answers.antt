use Rattle.std.proofs.Common.{ℕ, List, Some, subst}
use Rattle.std.proofs.lemmas.Result.{err_from_is_err_and}
use Rattle.abi_types.specs.declared.node.NodeKind.TheVariants as kind
use Rattle.kernel_model.specs.Families.LastNames.{last_name}
use Rattle.kernel_model.specs.Families.NameMaking.{make_in}
use Rattle.kernel_model.specs.Families.NameMeaning.{at_name}
use Rattle.entry_calls.specs.Done.{IsDone}
use Rattle.entry_calls.proofs.Endings.{lacks_done, place_done}
use Rattle.entry_calls.proofs.Reported.{made_reported}
use Rattle.entry_calls.proofs.making.make_link.Goals as goal

-- nothing refuses the name
pub returns-in_err-copy : goal.returns-in_err-copy
returns-in_err-copy c =
    let t = c.args.tree.now in
    let last = last_name t c.args.path.now (Some c.args.here.now) in
    let made = made_reported (kind.Link c.args.text.now) c.args.now c.args.new t c.args.path.now c.name_at-name.result.now last
    c.in_ok-place.place c.in_ok-place.ensures c.name_at-name.ensures c.in_default.ensures in
    let p = err_from_is_err_and c.from_residual-in_err-copy.result c.from_residual-in_err-copy.ensures.1 in
    lacks_done t c.from_residual-in_err-copy.result (at_name (make_in (kind.Link c.args.text.now) c.args.now c.args.new t) last) made.0 p.0 made.1 p.1 p.2

pub returns : goal.returns
returns c =
    let t = c.args.tree.now in
    let u = c.make_in.new.tree in
    place_done t u c.make_in.result (make_in (kind.Link c.args.text.now) c.args.now c.args.new t) c.args.path.now c.name_at-name.result.now
    (last_name t c.args.path.now (Some c.args.here.now)) c.in_ok-place.place c.in_ok-place.ensures c.name_at-name.ensures
    (subst (λ (text : List ℕ). IsDone (make_in (kind.Link text) c.args.now c.args.new t c.in_ok-place.place.dir c.name_at-name.result.now) t u c.make_in.result)
    c.in_ok-copy.ensures c.make_in.ensures)
