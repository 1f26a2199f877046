use Rattle.std.proofs.Common.{sym, ◌∙◌}
use Rattle.kernel_cell.proofs.MadeThreads.{place_put}
use Rattle.kernel_cell.proofs.results.make_place.Goals as goal

pub returns-clause-ok : goal.returns-clause-ok
returns-clause-ok c =
    place_put c.args.call.now c.from-key.result c.args.next c.args.threads.now c.insert.new.self (c.from-key.ensures ∙ c.next.view_is)
    (sym c.contains.ensures ∙ c.if-contains.false) c.in_ok-insert.ensures.ok
