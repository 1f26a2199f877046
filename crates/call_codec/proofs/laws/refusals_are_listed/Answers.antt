use Rattle.call_codec.proofs.Listed.{advise_listed, map_listed, protect_listed, sync_listed, unmap_listed}
use Rattle.call_codec.proofs.laws.refusals_are_listed.Goals as goal

pub returns-clause-advise : goal.returns-clause-advise
returns-clause-advise c = advise_listed

pub returns-clause-map : goal.returns-clause-map
returns-clause-map c = map_listed

pub returns-clause-protect : goal.returns-clause-protect
returns-clause-protect c = protect_listed

pub returns-clause-sync : goal.returns-clause-sync
returns-clause-sync c = sync_listed

pub returns-clause-unmap : goal.returns-clause-unmap
returns-clause-unmap c = unmap_listed
