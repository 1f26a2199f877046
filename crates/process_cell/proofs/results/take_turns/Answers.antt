use Rattle.std.proofs.Common.{Some, sym, ap, ◌∙◌}
use Rattle.maps.specs.Maps.{insert_self}
use Rattle.kernel_cell.specs.declared.results.Doing.TheVariants as doing
use Rattle.process_cell.proofs.results.take_turns.Goals as goal

pub returns-in-Runs : goal.returns-in-Runs
returns-in-Runs c = sym (insert_self c.args.threads.now c.args.tid doing.Runs (c.requires ∙ ap Some c.in-Runs.is))
