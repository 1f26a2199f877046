use Rattle.run_report.proofs.ReportLines.{stdout_is_cut_out}
use Rattle.run_report.proofs.laws.stdout_is_cut_out.Goals as goal

pub returns : goal.returns
returns c = stdout_is_cut_out
