-- What the file gives is what its document gives.
use Rattle.std.proofs.Common.{sym, subst}
use Rattle.launch_values.specs.Views.{shape_of}
use Rattle.launch_plan.specs.Plan.{parts_of}
use Rattle.lists.specs.Results.{Gives, IsStopOf}
use Rattle.lists.specs.declared.stop.Stop.{Stop}
use Rattle.launch_reading.specs.LaunchText.{TextPlan, planned_text}
use Rattle.launch_reading.specs.declared.launch_text.LaunchFault.{LaunchFault}
use Rattle.launch_reading.proofs.TextPlans.{file_read, file_fault}
use Rattle.launch_reading.proofs.launch_text.plan_text.Goals as goal

pub returns-in-Ok : goal.returns-in-Ok
returns-in-Ok c =
    subst (λ (t : TextPlan). Gives parts_of c.plan_document.result t) (sym (file_read c.args.tree.now c.args.text.now (shape_of c.in-Ok.doc.root) c.in-Ok.ensures.exact)) c.plan_document.ensures

pub returns-in-Err : goal.returns-in-Err
returns-in-Err c =
    subst (λ (s : Stop LaunchFault). IsStopOf s (planned_text c.args.tree.now c.args.text.now)) (sym c.of_file.ensures) (file_fault c.in-Err.stop c.args.tree.now c.args.text.now c.in-Err.ensures.exact)
