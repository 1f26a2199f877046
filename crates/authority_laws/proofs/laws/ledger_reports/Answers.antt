use Rattle.authority_laws.proofs.Histories as histories
use Rattle.authority_laws.proofs.laws.ledger_reports.Goals as goal

pub returns : goal.returns
returns c = histories.ledger_reports
