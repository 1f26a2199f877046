use Rattle.std.proofs.Common.{ap, ◌∙◌}
use Rattle.std.specs.Ordering.{nat_cmp}
use Rattle.std.specs.FinMap.{FinMap, get, remove}
use Rattle.kernel_model.specs.State.{Table}
use Rattle.maps.specs.Maps.{remove-inserted}
use Rattle.process_calls.proofs.forks.put_parts.Goals as goal

pub returns-in-Err-clause-same_tables : goal.returns-in-Err-clause-same_tables
returns-in-Err-clause-same_tables c =
    c.remove.ensures.new ∙ ap (λ (m : FinMap nat_cmp Table). remove m c.key-q.result) c.in_ok-insert.ensures.ok
    ∙ remove-inserted c.args.tables.now c.key-q.result c.args.table (ap (get c.args.tables.now) c.key-q.ensures ∙ c.requires.no_table)
