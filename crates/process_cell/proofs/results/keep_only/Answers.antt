use Rattle.std.proofs.Common.{◌∙◌}
use Rattle.process_cell.proofs.Kept.{kept_alone, kept_place}
use Rattle.process_cell.proofs.results.keep_only.Goals as goal

pub replace-requires : goal.replace-requires
replace-requires c =
    kept_place c.args.threads.now c.keep_only.new.self c.args.tid c.from-key.result (c.from-key.ensures ∙ c.tid.view_is) c.keep_only.ensures c.requires

pub returns : goal.returns
returns c =
    kept_alone c.args.threads.now c.keep_only.new.self c.replace.new.self c.args.tid c.from-key.result (c.from-key.ensures ∙ c.tid.view_is)
    c.keep_only.ensures c.replace.ensures.new
