-- What held descriptors lead to isn't beyond the grants.
--     held_leads_inside      so it is after each legal history
use Rattle.std.proofs.Common.{List}
use Rattle.abi_types.specs.declared.open_kind.OpenKind.TheVariants.{File, Directory}
use Rattle.run_types.specs.declared.history.Entry.{Entry}
use Rattle.run_types.specs.declared.launch.Launch.{Launch}
use Rattle.tree_model.specs.Grants.{MayBegin}
use Rattle.kernel_model.specs.State.{State, tree_of}
use Rattle.run_model.specs.Legal.{Legal}
use Rattle.run_model.specs.World.{world}
use Rattle.confinement_laws.specs.Leading.{any}
use Rattle.confinement_laws.proofs.AlikeLaunches.{Inside}
use Rattle.confinement_laws.proofs.AlikeSights.{LeadsInside}
use Rattle.confinement_laws.proofs.HeldInside.{HoldsInside, table_inside}
use Rattle.confinement_laws.proofs.Leading.{all_kept, kept_at}
use Rattle.confinement_laws.proofs.Unled.{IsKept, below_inside}

kept_leads_inside : (launch : Launch) (S : State) → IsKept any launch (tree_of S) → HoldsInside any launch S → LeadsInside (Inside launch) S
kept_leads_inside launch S kept holds = record {
  file = λ p k table d node offset flags own here is. holds p table k d (File node offset flags) own here tt is;
  directory = λ p k table d node flags n own here is under.
      below_inside any launch (tree_of S) kept node (holds p table k d (Directory node flags) own here tt is) n under;
}

pub held_leads_inside : (launch : Launch) (history : List Entry) → MayBegin launch.tree launch.grants → Legal launch history
    → LeadsInside (Inside launch) (world launch history).state
held_leads_inside launch history begins legal =
    kept_leads_inside launch (world launch history).state (kept_at any launch begins history legal)
    (table_inside any launch begins history legal (all_kept any launch begins history legal))
