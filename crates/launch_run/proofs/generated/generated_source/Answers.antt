use Rattle.launch_run.proofs.GeneratedInputs.{source_for}
use Rattle.launch_run.proofs.generated.generated_source.Goals as goal

pub returns : goal.returns
returns c =
    source_for c.args.processes c.in_ok-generated.generated c.in_ok-generated.ensures c.source_of.result c.source_of.ensures.inputs c.source_of.ensures.short
