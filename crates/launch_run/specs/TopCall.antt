-- How a top call came to its end. The words are those of its caller; what a source shows of its inputs and what a sink shows of its bytes are as
-- the traits say (a source or a sink may show nothing). A count of faults rose in a call where it is greater afterwards, or stands at its
-- last value.
use Rattle.std.specs.Prelude.{◌≡◌, ◌≢◌, ◌⊎◌, ℕ, Bool, List, [], Option, None, Some, Ok, Err, Contains}
use Rattle.input_output.specs.Source.{InputContent}
use Rattle.kernel_cell.specs.declared.record.Record.{Record}
use Rattle.run_types.specs.declared.launch.Launch.{Launch}
use Rattle.tree_model.specs.Grants.{MayBegin}
use Rattle.command_line.specs.Settings.{Settings}
use Rattle.launch_reading.specs.Launch.{refuses, describes, words_describe, inputs_with, history_with, IsKnownAs, IsBuiltBy, IfInput, IfTooLong, IsOfTexts, AnswersDescribed}
use Rattle.launch_reading.specs.Refusal.{line_of, status_of, memory_line}
use Rattle.launch_reading.specs.declared.refusal.LaunchRefusal.{LaunchRefusal}
use Rattle.launch_reading.specs.declared.refusal.LaunchRefusal.TheVariants.{Words, Memory}
use Rattle.launch_run.specs.declared.top.Finished.{Finished}
use Rattle.book_report.specs.Ends.{IsEndOf, IsRecordOf}
use Rattle.book_report.specs.Growth.{Growth, Wrote, WroteNothing}
use Rattle.book_report.specs.declared.ends.RunEnd.{RunEnd}
use Rattle.book_report.specs.declared.ends.RunEnd.TheVariants.{Reported, StallReported, Unwritten, NotBegun, Lacking}
use Rattle.launch_run.specs.Results.{status_number}
use Rattle.launch_run.specs.declared.top.TopEnd.{TopEnd}
use Rattle.launch_run.specs.declared.top.TopEnd.TheVariants.{Refused, Ran}

-- How a run of the launch came to its end (`IsEndOf`), once the line that says so was written where memory ran out.
abbrev pub IsReportedEnd : Launch → Bool → (Record → List ℕ) → Growth → RunEnd → Type 0
IsReportedEnd launch all text growth (Reported r status) = IsEndOf launch all text growth (Reported r status)
IsReportedEnd launch all text growth (StallReported r) = IsEndOf launch all text growth (StallReported r)
IsReportedEnd launch all text growth (Unwritten r) = IsEndOf launch all text growth (Unwritten r)
IsReportedEnd launch all text growth NotBegun = Wrote growth memory_line
IsReportedEnd launch all text growth (Lacking r) = IsRecordOf launch all r × (r.history ≢ []) × Wrote growth memory_line

-- what is written after a run's end: the line that says that memory ran out, and else nothing
abbrev pub ReportsEnd : Growth → RunEnd → Type 0
ReportsEnd growth (Reported r status) = WroteNothing growth
ReportsEnd growth (StallReported r) = WroteNothing growth
ReportsEnd growth (Unwritten r) = WroteNothing growth
ReportsEnd growth NotBegun = Wrote growth memory_line
ReportsEnd growth (Lacking r) = Wrote growth memory_line

-- ---- the whole call, for words that give these settings or none, what the source shows of each input, and whether its
-- count of faults rose

-- a refusal, which is the first that the words and the inputs describe, where anything is known of it
pub record IsRefusalOf (given : Option Settings) (content : List ℕ → InputContent) (rose : Type 0) (refusal : LaunchRefusal) : Type 0 where
  pub words_refused : refusal ≡ Words → given ≡ None
  pub words_answered : given ≡ None → (refusal ≡ Words) ⊎ (refusal ≡ Memory)
  pub input : IfInput refusal (λ name. Contains (inputs_with given) name × rose)
  pub too_long : IfTooLong refusal (Contains (inputs_with given))
  pub refused : IsOfTexts refusal → IsKnownAs (words_describe given content) (refuses (status_of refusal) (line_of refusal))
  pub complete : ¬ rose → AnswersDescribed (words_describe given content) (Err refusal)

-- a run of the launch that the words and the inputs describe, where anything is known of it, and of whose record this text was written
pub record IsRunOf (given : Option Settings) (content : List ℕ → InputContent) (rose : Type 0) (text : Record → List ℕ) (growth : Growth) (end : RunEnd) : Type 0 where
  pub launch : Launch
  pub described : IsKnownAs (words_describe given content) (describes launch)
  pub built : IsBuiltBy given launch
  pub begins : MayBegin launch.tree launch.grants
  pub complete : ¬ rose → AnswersDescribed (words_describe given content) (Ok launch)
  pub end_reported : IsReportedEnd launch (history_with given) text growth end

-- how the call ended
abbrev pub IsTopEnd : Option Settings → (List ℕ → InputContent) → Type 0 → (Record → List ℕ) → Growth → TopEnd → Type 0
IsTopEnd given content rose text growth (Refused refusal) = IsRefusalOf given content rose refusal × Wrote growth (line_of refusal)
IsTopEnd given content rose text growth (Ran end) = IsRunOf given content rose text growth end

-- what the call answers for each end
abbrev pub finished_run : RunEnd → Finished
finished_run (Reported r status) = record { status = status_number status; kept = Some r }
finished_run (StallReported r) = record { status = 71; kept = Some r }
finished_run (Unwritten r) = record { status = 69; kept = Some r }
finished_run NotBegun = record { status = 70; kept = None }
finished_run (Lacking r) = record { status = 70; kept = Some r }

abbrev pub finished_of : TopEnd → Finished
finished_of (Refused refusal) = record { status = status_of refusal; kept = None }
finished_of (Ran end) = finished_run end
