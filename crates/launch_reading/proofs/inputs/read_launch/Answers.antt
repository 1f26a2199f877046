use Rattle.input_output.specs.Source.{Rose}
use Rattle.command_line.specs.Settings.{view}
use Rattle.launch_reading.specs.Launch.{inputs_describe, settings_inputs}
use Rattle.launch_reading.proofs.Bounds.{all_begin, all_bounded}
use Rattle.launch_reading.proofs.LaunchParts.{answers, built, launch_known, read_short, refusal_known}
use Rattle.launch_reading.proofs.inputs.read_launch.Goals as goal

-- what was read of the tree document is no longer than an input may be
pub launch_from-requires : goal.launch_from-requires
launch_from-requires g c = read_short (view c.args.settings.now).tree (g.S.Source.content c.args.source.now) c.in_ok-inputs.inputs.tree c.in_ok-inputs.ensures.ok.tree

pub returns-clause-ok : goal.returns-clause-ok
returns-clause-ok g c =
    launch_known (view c.args.settings.now) (g.S.Source.content c.args.source.now) c.in_ok-inputs.inputs c.launch_from.result c.in_ok-inputs.ensures.ok c.launch_from.ensures.ok

pub returns-clause-built : goal.returns-clause-built
returns-clause-built g c =
    built (view c.args.settings.now) c.in_ok-inputs.inputs
    (read_short (view c.args.settings.now).tree (g.S.Source.content c.args.source.now) c.in_ok-inputs.inputs.tree c.in_ok-inputs.ensures.ok.tree) c.launch_from.result c.launch_from.ensures.ok

pub returns-clause-begins : goal.returns-clause-begins
returns-clause-begins g c = all_begin (view c.args.settings.now) c.launch_from.result (built (view c.args.settings.now) c.in_ok-inputs.inputs
    (read_short (view c.args.settings.now).tree (g.S.Source.content c.args.source.now) c.in_ok-inputs.inputs.tree c.in_ok-inputs.ensures.ok.tree) c.launch_from.result c.launch_from.ensures.ok)

pub returns-clause-bounded : goal.returns-clause-bounded
returns-clause-bounded g c =
    all_bounded (view c.args.settings.now) c.launch_from.result c.requires.within (built (view c.args.settings.now) c.in_ok-inputs.inputs
    (read_short (view c.args.settings.now).tree (g.S.Source.content c.args.source.now) c.in_ok-inputs.inputs.tree c.in_ok-inputs.ensures.ok.tree) c.launch_from.result c.launch_from.ensures.ok)

pub returns-clause-err : goal.returns-clause-err
returns-clause-err g c =
    refusal_known (view c.args.settings.now) (g.S.Source.content c.args.source.now) c.in_ok-inputs.inputs _ c.launch_from.result c.in_ok-inputs.ensures.ok c.launch_from.ensures.err

pub returns-clause-complete : goal.returns-clause-complete
returns-clause-complete g c =
    let s = view c.args.settings.now in
    let content = g.S.Source.content c.args.source.now in
    let rose = Rose (g.S.Source.faults c.args.source.now) (g.S.Source.faults c.read_inputs.new.source) in
    answers (settings_inputs s) (inputs_describe s content) rose c.launch_from.result
    (launch_known s content c.in_ok-inputs.inputs c.launch_from.result c.in_ok-inputs.ensures.ok c.launch_from.ensures.ok)
    (refusal_known s content c.in_ok-inputs.inputs rose c.launch_from.result c.in_ok-inputs.ensures.ok c.launch_from.ensures.err)
