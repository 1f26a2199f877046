-- The reports of two launches that differ in nothing to which a grant leads.
use Rattle.std.specs.Prelude.{◌≡◌, Bool, ◌++◌, List, ℕ}
use Rattle.run_types.specs.declared.history.Entry.{Entry}
use Rattle.run_types.specs.declared.launch.Launch.{Launch}
use Rattle.kernel_model.specs.State.{State, tree_of}
use Rattle.tree_model.specs.Grants.{MayBegin}
use Rattle.run_model.specs.Legal.{Legal}
use Rattle.run_model.specs.World.{world}
use Rattle.run_report.specs.Report.{report_of, tree_text}
use Rattle.confinement_laws.specs.Alike.{DifferBeyondGrants}

-- the reports of both states with this history are the same before and behind the records of the file tree
pub record DifferInTree (S T : State) (history : List Entry) (lines : Bool) : Type 0 where
  pub before : List ℕ
  pub after : List ℕ
  pub one : report_of S history lines ≡ before ++ (tree_text (tree_of S) ++ after)
  pub other : report_of T history lines ≡ before ++ (tree_text (tree_of T) ++ after)

-- So it is of a history of a launch, which is one of each other launch that differs from it in nothing to which a grant leads.
abbrev pub ReportsDifferInTree : Type 0
ReportsDifferInTree =
    (one other : Launch) (history : List Entry) (lines : Bool) → MayBegin one.tree one.grants → MayBegin other.tree other.grants → DifferBeyondGrants one other
    → Legal one history → DifferInTree (world one history).state (world other history).state history lines
