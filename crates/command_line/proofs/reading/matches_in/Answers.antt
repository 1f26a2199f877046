use Rattle.std.proofs.lemmas.Bool.{and_parts}
use Rattle.command_line.proofs.reading.matches_in.Goals as goal

pub returns-in-Ok-clause-matches : goal.returns-in-Ok-clause-matches
returns-in-Ok-clause-matches c = (c.in-Ok.ensures.matches (and_parts _ _ c.requires).0).0
