use Rattle.run_model.proofs.Histories.{legal_none, legal_more, legal_front, legal_next}
use Rattle.std.proofs.Common.{◌∷◌}
use Rattle.run_model.proofs.laws.legal_goes_on.Goals as goal

pub returns-clause-begins : goal.returns-clause-begins
returns-clause-begins c = legal_none

pub returns-clause-more : goal.returns-clause-more
returns-clause-more c = legal_more

pub returns-clause-each : goal.returns-clause-each
returns-clause-each c launch front e rest legal = (legal_front launch front (e ∷ rest) legal, legal_next launch front e rest legal)
