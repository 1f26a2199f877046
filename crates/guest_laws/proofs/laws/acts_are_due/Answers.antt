use Rattle.guest_laws.proofs.Dues as dues
use Rattle.guest_laws.proofs.laws.acts_are_due.Goals as goal

pub returns : goal.returns
returns c = dues.acts_are_due
