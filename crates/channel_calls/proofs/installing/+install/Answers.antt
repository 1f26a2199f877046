use Rattle.std.proofs.Common.{ap, ◌∙◌, arith}
use Rattle.maps.specs.Maps.{len-insert_new, remove-inserted}
use Rattle.std.specs.FinMap.{len, remove}
use Rattle.kernel_model.specs.State.{Table}
use Rattle.channel_calls.proofs.Installs.{none_left, one_then_others}
use Rattle.channel_calls.proofs.installing.+install.Goals as goal

pub returns-in_default-clause-ok : goal.returns-in_default-clause-ok
returns-in_default-clause-ok t c = none_left c.args.table.now c.args.descriptors.now c.args.numbers.now c.in_default.ensures.cases

pub install-requires : goal.install-requires
install-requires t c =
    let fewer = c.in-Some.ensures.cases.1 in
    let grown =
    ap (λ (m : Table). len m) c.in_ok-insert_at.ensures.ok
    ∙ len-insert_new c.args.table.now c.in-Some-lowest.number c.in-Some.first.now c.in-Some-lowest.ensures.free.1 in
    (omega (arith, c.decreases, fewer), omega (arith, fewer, grown, c.requires.free))

pub returns-in-Err-clause-err : goal.returns-in-Err-clause-err
returns-in-Err-clause-err t c =
    let number = c.in-Some-lowest.number in
    c.remove.ensures.new ∙ ap (λ (m : Table). remove m number) (c.in-Err.ensures.err ∙ c.in_ok-insert_at.ensures.ok)
    ∙ remove-inserted c.args.table.now number c.in-Some.first.now c.in-Some-lowest.ensures.free.1

pub returns-clause-ok : goal.returns-clause-ok
returns-clause-ok t c =
    one_then_others c.args.table.now c.insert_at.new.self c.install.new.table c.in-Some-lowest.number c.in-Some.first.now c.in-Some.rest.now
    c.args.descriptors.now c.args.numbers.now c.push.new.self c.install.new.numbers c.in-Some-lowest.ensures.free c.in_ok-insert_at.ensures.ok
    c.in-Some.ensures.cases.0 c.in_ok-push.ensures.ok c.in_default-install.ensures.ok
