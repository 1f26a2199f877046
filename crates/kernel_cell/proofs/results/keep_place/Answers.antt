use Rattle.std.proofs.Common.{◌∙◌}
use Rattle.kernel_cell.proofs.MadeThreads.{place_kept}
use Rattle.kernel_cell.proofs.results.keep_place.Goals as goal

pub returns-in-Starts : goal.returns-in-Starts
returns-in-Starts c =
    place_kept c.from.result c.args.next c.in-Starts.field-0 c.args.placed c.args.threads.now c.replace.new.self c.args.after.now c.in-Starts.is
    (c.from.ensures ∙ c.next.view_is) c.requires c.replace.ensures.new
