use Rattle.run_report.proofs.ReportLines.{report_shows_streams}
use Rattle.run_report.proofs.laws.report_shows_streams.Goals as goal

pub returns : goal.returns
returns c = report_shows_streams
