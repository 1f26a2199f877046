-- What a report says, whatever the run.
use Rattle.std.specs.Prelude.{Bool, ◌≡◌, ◌↔◌, ◌+◌, ◌^◌, ◌<◌, ◌==◌, List, codes, length, take, drop}
use Rattle.std.specs.List.{before_first}
use Rattle.run_types.specs.declared.history.Entry.{Entry}
use Rattle.kernel_model.specs.Ends.{NoneLive, SomeLive}
use Rattle.kernel_model.specs.State.{State, written_to}
use Rattle.run_report.specs.Report.{stream_line, run_text, report_of}

-- 64 bits can count what was written to stdout and to stderr
abbrev pub IsCountable : State → Type 0
IsCountable S = (length (written_to 1 S) < 2 ^ 64) × (length (written_to 2 S) < 2 ^ 64)

-- Two runs with the same report wrote the same to stdout, and the same to stderr.
abbrev pub ReportShowsStreams : Type 0
ReportShowsStreams =
    (S T : State) (history other : List Entry) (lines more : Bool) → IsCountable S → IsCountable T
    → report_of S history lines ≡ report_of T other more
    → (written_to 1 S ≡ written_to 1 T) × (written_to 2 S ≡ written_to 2 T)

-- The first line of a report says how many bytes were written to stdout, and as many bytes after it are those.
abbrev pub StdoutIsCutOut : Type 0
StdoutIsCutOut =
    (S : State) (history : List Entry) (lines : Bool) → IsCountable S
    → (before_first (λ b. b == 10) (report_of S history lines) ≡ stream_line (codes "stdout") (written_to 1 S))
    × (take (length (written_to 1 S)) (drop (length (stream_line (codes "stdout") (written_to 1 S)) + 1) (report_of S history lines)) ≡ written_to 1 S)

-- A report says that the run ended exactly where no process is live.
abbrev pub EndIsReported : Type 0
EndIsReported = (S : State) → (run_text S ≡ codes "ended") ↔ NoneLive S

-- A report says that the run stalled exactly where some process is live.
abbrev pub StallIsReported : Type 0
StallIsReported = (S : State) → (run_text S ≡ codes "stalled") ↔ SomeLive S
