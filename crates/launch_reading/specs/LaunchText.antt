-- What a launch text gives a program that begins with a file tree, or its first fault.
use Rattle.std.specs.Prelude.{ℕ, List, Option, None, Some, Result, Ok, Err}
use Rattle.abi_base.specs.declared.grant.Grant.{Grant}
use Rattle.launch_values.specs.Shape.{Shape}
use Rattle.launch_lines.specs.declared.fault.Fault.{Fault}
use Rattle.launch_yaml.specs.Document.{parse_at}
use Rattle.lists.specs.declared.stop.Stop.{Stop}
use Rattle.lists.specs.declared.stop.Stop.TheVariants.{At, Memory}
use Rattle.launch_plan.specs.declared.fault.PlanFault.{PlanFault}
use Rattle.launch_plan.specs.declared.fault.PlanFault.TheVariants as plans
use Rattle.launch_plan.specs.Plan.{plan_of}
use Rattle.tree_model.specs.Tree.{Tree}
use Rattle.launch_reading.specs.declared.launch_text.LaunchFault.{LaunchFault}
use Rattle.launch_reading.specs.declared.launch_text.LaunchFault.TheVariants.{Yaml, Plan}

-- argument data and descriptors, or the first fault
abbrev pub TextPlan : Type 0
TextPlan = Result (List ℕ × List Grant) LaunchFault

-- the fault of a document's plan is that of its text
abbrev pub with_plan : Result (List ℕ × List Grant) PlanFault → TextPlan
with_plan (Ok planned) = Ok planned
with_plan (Err fault) = Err (Plan fault)

-- a text that is no launch file has its first fault; one that is gives what its document gives
abbrev pub with_document : Tree → Result Shape Fault → TextPlan
with_document tree (Ok document) = with_plan (plan_of tree document)
with_document tree (Err fault) = Err (Yaml fault)

unfoldable pub planned_text : Tree → List ℕ → TextPlan
planned_text tree text = with_document tree (parse_at text)

-- why a launch file and its plan are none, for a reader of launch texts
abbrev pub of_file : Stop Fault → Stop LaunchFault
of_file (At fault) = At (Yaml fault)
of_file Memory = Memory

abbrev pub of_plan : Stop PlanFault → Stop LaunchFault
of_plan (At fault) = At (Plan fault)
of_plan Memory = Memory

-- the line of a fault, where it has one
abbrev pub line_of_fault : LaunchFault → Option ℕ
line_of_fault (Yaml fault) = Some fault.line
line_of_fault (Plan (plans.UnknownTag line)) = Some line
line_of_fault (Plan (plans.BadFd line)) = Some line
line_of_fault (Plan (plans.BadFile line)) = Some line
line_of_fault (Plan (plans.UnknownRight line)) = Some line
line_of_fault (Plan (plans.NoSuchPath line)) = Some line
line_of_fault (Plan plans.TooMany) = None
line_of_fault (Plan plans.TooLarge) = None
