-- The history of each run is confined.
--     legal_is_confined_history      the law
use Rattle.std.proofs.Common.{List, ◌∷◌, ◌++◌, sym, subst}
use Rattle.tree_model.specs.Grants.{MayBegin}
use Rattle.run_types.specs.declared.history.Entry.{Entry}
use Rattle.run_types.specs.declared.launch.Launch.{Launch}
use Rattle.run_model.specs.Legal.{Legal}
use Rattle.run_model.specs.Own.{IsLiveIn, Same}
use Rattle.run_model.specs.World.{World, who_of, world}
use Rattle.run_model.proofs.Asks.{asks_stay}
use Rattle.run_model.proofs.Histories.{legal_front, legal_next, world_more}
use Rattle.run_model.proofs.Own.{others_stay}
use Rattle.run_model.proofs.Worlds.{world_is_valid}
use Rattle.authority_laws.specs.Laws.{IsRecordedAt}
use Rattle.authority_laws.proofs.Records.{legal_is_recorded}
use Rattle.confinement_laws.specs.Headline.{DescriptorsAreTraced, KeepsApart}
use Rattle.confinement_laws.specs.Laws.{LegalIsConfinedHistory}
use Rattle.confinement_laws.proofs.Reach.{keeps_within}
use Rattle.confinement_laws.proofs.Refused.{refusals_are_exact}
use Rattle.confinement_laws.proofs.SentAsWaiting.{waits_as_sent}

descriptors_traced : (launch : Launch) (front : List Entry) → MayBegin launch.tree launch.grants → Legal launch front → IsRecordedAt launch front
    → DescriptorsAreTraced launch front
descriptors_traced launch front begins legal recorded = record {
  reports = recorded.reports;
  waiting = waits_as_sent launch front begins legal;
  traced = recorded.traced;
  granted = recorded.granted;
  stay = recorded.stay;
}

keeps_apart : (launch : Launch) (front : List Entry) (e : Entry) (rest : List Entry) → MayBegin launch.tree launch.grants → Legal launch (front ++ e ∷ rest)
    → KeepsApart launch front e
keeps_apart launch front e rest begins legal =
    let w = world launch front in
    let fits = legal_next launch front e rest legal in
    let valid = world_is_valid launch front begins (legal_front launch front (e ∷ rest) legal) in
    record {
      leaves = λ q other made.
          subst (λ (v : World). IsLiveIn v q → Same v w q) (sym (world_more launch front e)) (λ live. others_stay w e q valid fits other made live);
      asks = λ v guest threads. asks_stay w v (who_of w.state e) e.turns e.act guest threads fits.act.0;
    }

pub legal_is_confined_history : LegalIsConfinedHistory
legal_is_confined_history launch history begins legal =
    let recorded = legal_is_recorded launch history legal begins in
    record {
      sequential = legal;
      confined = λ front e rest is. keeps_within launch front e rest begins (subst (Legal launch) is legal);
      apart = λ front e rest is. keeps_apart launch front e rest begins (subst (Legal launch) is legal);
      traced = λ front rest is.
          descriptors_traced launch front begins (legal_front launch front rest (subst (Legal launch) is legal)) (recorded.points front rest is);
      never_grow = λ front e rest is. recorded.entries front e rest is;
      refusals = λ front e rest is. refusals_are_exact launch front e rest begins (subst (Legal launch) is legal);
    }
