-- The plan of a document, where a launch begins with a file tree.
use Rattle.std.specs.Prelude.{ℕ, if◌then◌else◌, nat_lt, List, length, Result, Ok, Err}
use Rattle.abi_base.specs.declared.grant.Grant.{Grant}
use Rattle.abi_base.specs.declared.limits.TheConstants.{MOST_ARGDATA, MOST_DESCRIPTORS}
use Rattle.argdata_codec.specs.Writing.{encoding}
use Rattle.tree_model.specs.Tree.{Tree}
use Rattle.launch_values.specs.Shape.{Shape}
use Rattle.launch_plan.specs.declared.fault.PlanFault.{PlanFault}
use Rattle.launch_plan.specs.declared.fault.PlanFault.TheVariants as faults
use Rattle.launch_plan.specs.declared.planning.Planned.{Planned}
use Rattle.lists.specs.Results.{◌>>=◌}
use Rattle.launch_plan.specs.Tagged.{tagged, grants_of}
use Rattle.launch_plan.specs.Values.{value_of}

-- argument data and descriptors of a program
abbrev pub parts_of : Planned → List ℕ × List Grant
parts_of planned = (planned.argdata, planned.grants)

-- the argument data, unless there is too much of it
abbrev pub unless_large : List ℕ → List Grant → Result (List ℕ × List Grant) PlanFault
unless_large argdata grants = if nat_lt MOST_ARGDATA (length argdata) then Err faults.TooLarge else Ok (argdata, grants)

-- Argument data and descriptors, or the first fault: in document order, then too many descriptors, then too much
-- argument data.
unfoldable pub plan_of : Tree → Shape → Result (List ℕ × List Grant) PlanFault
plan_of tree document =
    grants_of tree (tagged document) >>= λ grants.
    if nat_lt MOST_DESCRIPTORS (length grants) then Err faults.TooMany
    else unless_large (encoding (value_of 0 document)) grants
