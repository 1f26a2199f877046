use Rattle.book_report.proofs.KeptReports.{report_text, summary_text}
use Rattle.book_report.proofs.shown.Shown.text.Goals as goal

pub returns-in-Report : goal.returns-in-Report
returns-in-Report c = report_text c.args.self c.args.book.now c.requires c.report.result c.in-Report.lines c.in-Report.is c.report.ensures

pub returns-in-Summary : goal.returns-in-Summary
returns-in-Summary c = summary_text c.args.self c.args.book.now c.requires c.summary.result c.in-Summary.processes c.in-Summary.is c.summary.ensures
