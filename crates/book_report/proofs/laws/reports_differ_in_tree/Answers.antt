use Rattle.book_report.proofs.AlikeReports.{reports_differ_in_tree}
use Rattle.book_report.proofs.laws.reports_differ_in_tree.Goals as goal

pub returns : goal.returns
returns c = reports_differ_in_tree
