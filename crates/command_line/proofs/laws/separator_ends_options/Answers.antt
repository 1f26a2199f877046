use Rattle.command_line.proofs.LawProofs.{separator_ends_options}
use Rattle.command_line.proofs.laws.separator_ends_options.Goals as goal

pub returns : goal.returns
returns c = separator_ends_options
