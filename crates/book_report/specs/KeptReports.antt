-- What a report is written of.
use Rattle.std.specs.Prelude.{◌≡◌, Bool, List}
use Rattle.denied_calls.specs.DeniedCalls.{denied_calls}
use Rattle.run_types.specs.declared.history.Entry.{Entry}
use Rattle.kernel_model.specs.State.{State}
use Rattle.shared_history.specs.Kept.{kept_of}
use Rattle.run_report.specs.Report.{report_of}

-- Histories of which the same is kept have the same report.
abbrev pub ReportNeedsKept : Type 0
ReportNeedsKept =
    (S : State) (log other : List Entry) (all : Bool) → denied_calls log ≡ denied_calls other → kept_of all log ≡ kept_of all other
    → report_of S log all ≡ report_of S other all
