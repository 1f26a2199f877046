use Rattle.std.proofs.Common.{◌∙◌}
use Rattle.path_lookup.proofs.Left.{last_reversed}
use Rattle.path_lookup.proofs.frames.is_last.Goals as goal

pub returns : goal.returns
returns c = c.is_empty.ensures ∙ last_reversed c.args.frames.now.items
