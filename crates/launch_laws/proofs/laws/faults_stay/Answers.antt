use Rattle.launch_laws.proofs.FaultsStay.{faults_stay as they_stay}
use Rattle.launch_laws.proofs.laws.faults_stay.Goals as goal

pub returns : goal.returns
returns c = they_stay
