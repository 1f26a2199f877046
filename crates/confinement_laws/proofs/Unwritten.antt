-- What no grant lets a run change is after each legal history as the launch had it, with its paths and its records.
use Rattle.std.proofs.Common.{ℕ, List, sym}
use Rattle.run_types.specs.declared.history.Entry.{Entry}
use Rattle.run_types.specs.declared.launch.Launch.{Launch}
use Rattle.tree_model.specs.Grants.{MayBegin}
use Rattle.tree_model.specs.Tree.{Tree, HasName}
use Rattle.kernel_model.specs.State.{tree_of}
use Rattle.run_model.specs.Legal.{Legal}
use Rattle.run_model.specs.World.{world}
use Rattle.run_model.proofs.Worlds.{world_is_valid}
use Rattle.confinement_laws.specs.Leading.{Scope, writing}
use Rattle.confinement_laws.specs.Untouched.{HasSameRecords, LegalLeavesUnwritten}
use Rattle.confinement_laws.proofs.Leading.{kept_at, unled_stays}
use Rattle.confinement_laws.proofs.Records.{same_records}
use Rattle.confinement_laws.proofs.Unled.{IsKept, Unled, start_kept, unled_is_stable}
use Rattle.confinement_laws.proofs.UnledPaths.{paths_stay}

-- in a tree that has kept them, what has a name of such a node is one
closed_up : (scope : Scope) (launch : Launch) (t : Tree) → IsKept scope launch t → (d : ℕ) (name : List ℕ) (n : ℕ) → Unled scope launch n → HasName t d name n
    → Unled scope launch d
closed_up scope launch t kept d name n unled named = unled_is_stable scope launch d (λ other. kept.leads d name n named other unled)

-- the documents of the launch's tree and of the tree after a legal history have the same records of such a node
pub records_stay : (scope : Scope) (launch : Launch) (history : List Entry) → MayBegin launch.tree launch.grants → Legal launch history → (n : ℕ)
    → Unled scope launch n → HasSameRecords launch.tree (tree_of (world launch history).state) n
records_stay scope launch history begins legal n unled =
    let after = tree_of (world launch history).state in
    let kept = kept_at scope launch begins history legal in
    same_records launch.tree after (Unled scope launch) begins.tree.tree (world_is_valid launch history begins legal).nearly.tree
    (closed_up scope launch launch.tree (start_kept scope launch begins)) (closed_up scope launch after kept)
    (λ m here. sym (kept.nodes m here)) (λ m here. sym (kept.names m here)) n unled

pub legal_leaves_unwritten : LegalLeavesUnwritten
legal_leaves_unwritten launch history begins legal n there unled = record {
  stays = unled_stays writing launch history begins legal n (there, unled);
  paths = paths_stay writing launch history begins legal n (there, unled);
  records = records_stay writing launch history begins legal n (there, unled);
}
