use Rattle.authority_laws.proofs.Histories.{ledger_none, ledger_more}
use Rattle.authority_laws.proofs.laws.ledger_goes_on.Goals as goal

pub returns-clause-begins : goal.returns-clause-begins
returns-clause-begins c = ledger_none

pub returns-clause-more : goal.returns-clause-more
returns-clause-more c = ledger_more
