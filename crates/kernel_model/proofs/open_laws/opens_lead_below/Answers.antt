use Rattle.kernel_model.proofs.OpenLaws as laws
use Rattle.kernel_model.proofs.open_laws.opens_lead_below.Goals as goal

pub returns-clause-opens : goal.returns-clause-opens
returns-clause-opens c = laws.opens_lead_below

pub returns-clause-grants : goal.returns-clause-grants
returns-clause-grants c = laws.grants_are_held
