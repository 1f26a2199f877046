use Rattle.command_line.specs.Settings.{view}
use Rattle.launch_run.proofs.Refusals.{settings_refused}
use Rattle.launch_run.proofs.top.run_settings.Goals as goal

pub returns-in-Ok-clause-end : goal.returns-in-Ok-clause-end
returns-in-Ok-clause-end g c = record {
  launch = c.in-Ok.launch;
  described = c.in-Ok.ensures.ok;
  built = c.in-Ok.ensures.built;
  begins = c.in-Ok.ensures.begins;
  complete = c.in-Ok.ensures.complete;
  end_reported = rw c.requires.kept at c.run_reported.ensures.end;
}

pub returns-in-Err-clause-end : goal.returns-in-Err-clause-end
returns-in-Err-clause-end g c =
    rw (c.refused.ensures.end)
    (settings_refused (view c.args.settings.now) (g.S.Source.content c.args.source.now) _ c.in-Err.refusal c.in-Err.ensures.err c.in-Err.ensures.complete, c.refused.ensures.wrote)
