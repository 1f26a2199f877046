use Rattle.book_report.specs.Shown.{keeps_entries, shown_text}
use Rattle.launch_run.proofs.LastLines.{ends_reported}
use Rattle.launch_run.proofs.top.run_reported.Goals as goal

pub returns-clause-end : goal.returns-clause-end
returns-clause-end g c =
    ends_reported c.args.launch (keeps_entries c.args.shown) (shown_text c.args.shown) g.K.Sink.written g.K.Sink.faults c.args.sink.now c.run_launched-end.new.sink
    c.report_end.new.sink c.run_launched-end.ensures.faults_never_fall c.report_end.ensures.faults_never_fall c.run_launched-end.result c.run_launched-end.ensures.end
    c.report_end.ensures.content
