use Rattle.command_line.proofs.LawProofs.{forms_agree}
use Rattle.command_line.proofs.laws.forms_agree.Goals as goal

pub returns : goal.returns
returns c = forms_agree
