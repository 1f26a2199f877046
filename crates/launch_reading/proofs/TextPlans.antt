-- What a launch text gives, part by part.
use Rattle.std.proofs.Common.{◌≡◌, ℕ, List, Ok, ap}
use Rattle.launch_lines.specs.declared.fault.Fault.{Fault}
use Rattle.launch_values.specs.Shape.{Shape}
use Rattle.launch_yaml.specs.Document.{parse_at}
use Rattle.launch_plan.specs.Plan.{plan_of}
use Rattle.lists.specs.Results.{IsStopOf}
use Rattle.lists.specs.declared.stop.Stop.{Stop}
use Rattle.lists.specs.declared.stop.Stop.TheVariants.{At, Memory}
use Rattle.tree_model.specs.Tree.{Tree}
use Rattle.launch_reading.specs.LaunchText.{with_plan, with_document, planned_text, of_file}

-- the fault of a file is that of its text
pub file_fault : (stop : Stop Fault) (tree : Tree) (text : List ℕ) → IsStopOf stop (parse_at text) → IsStopOf (of_file stop) (planned_text tree text)
unfolding planned_text
file_fault (At fault) tree text h = ap (with_document tree) h
file_fault Memory tree text h = tt

-- what a file that was read gives
pub file_read : (tree : Tree) (text : List ℕ) (document : Shape) → parse_at text ≡ Ok document → planned_text tree text ≡ with_plan (plan_of tree document)
unfolding planned_text
file_read tree text document h = ap (with_document tree) h
