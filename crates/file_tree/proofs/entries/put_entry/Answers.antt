use Rattle.std.proofs.Common.{ap, sym, ◌∙◌}
use Rattle.std.proofs.lemmas.Result.{on_err_weaker}
use Rattle.std.specs.FinMap.{insert}
use Rattle.maps.specs.Maps.{insert_self}
use Rattle.file_tree.proofs.entries.put_entry.Goals as goal

pub returns-clause-err : goal.returns-clause-err
returns-clause-err c =
    let slots = c.args.slots.now in
    let slot = c.get_mut.result.now in
    on_err_weaker c.insert.result
    (λ same. ap (λ names. insert slots c.args.dir (record slot { names = names })) same ∙ insert_self slots c.args.dir slot (sym c.get_mut.ensures.value))
    c.insert.ensures.err
