use Rattle.std.proofs.Common.{subst, sym}
use Rattle.std.specs.Prelude.{Option}
use Rattle.input_output.specs.Source.{Rose}
use Rattle.command_line.specs.Settings.{Settings}
use Rattle.launch_reading.specs.Launch.{history_with}
use Rattle.book_report.specs.Growth.{growth}
use Rattle.book_report.specs.Shown.{record_report}
use Rattle.launch_run.specs.TopCall.{IsTopEnd}
use Rattle.launch_run.proofs.top.launch_and_run.Goals as goal

pub returns-in-Ok-clause-end : goal.returns-in-Ok-clause-end
returns-in-Ok-clause-end g c =
    subst
    (λ (given : Option Settings). IsTopEnd given (g.S.Source.content c.args.source.now) (Rose (g.S.Source.faults c.args.source.now) (g.S.Source.faults c.run_settings.new.source))
    (record_report (history_with given)) (growth g.K.Sink.written g.K.Sink.faults c.args.sink.now c.run_settings.new.sink) c.run_settings.result)
    (sym c.in-Ok.ensures.read) c.run_settings.ensures.end
