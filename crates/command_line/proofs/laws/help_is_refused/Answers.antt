use Rattle.command_line.proofs.LawProofs.{help_is_refused}
use Rattle.command_line.proofs.laws.help_is_refused.Goals as goal

pub returns : goal.returns
returns c = help_is_refused
