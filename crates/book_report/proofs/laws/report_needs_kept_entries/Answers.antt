use Rattle.book_report.proofs.KeptReports.{report_needs_kept}
use Rattle.book_report.proofs.laws.report_needs_kept_entries.Goals as goal

pub returns : goal.returns
returns c = report_needs_kept
