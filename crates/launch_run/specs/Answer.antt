-- What a top call answers, writes and keeps, whether its inputs are read or generated.
use Rattle.std.specs.Prelude.{◌≡◌, ◌≢◌, ◌⊎◌, ℕ, List, [], Option, IsSome, IfSome, IsSomeAnd}
use Rattle.input_output.specs.Source.{InputContent}
use Rattle.kernel_cell.specs.declared.record.Record.{Record}
use Rattle.command_line.specs.Reading.{words_of}
use Rattle.command_line.specs.Settings.{Settings}
use Rattle.launch_reading.specs.Launch.{Described, launch_of}
use Rattle.launch_reading.specs.Refusal.{words_line, memory_line}
use Rattle.book_report.specs.Growth.{Growth, FaultsRose, Wrote}
use Rattle.launch_run.specs.Results.{Completes, HasFailed, HasReported, HasStalled, IsConfinedRecord, IsKept, IsProgramRefused, IsTextRefused, IsTreeRefused, LeavesUnwritten}
use Rattle.launch_run.specs.declared.top.Finished.{Finished}

-- P holds of the settings that the words give, or of none, and of what is described, where this is known of each input
abbrev pub OfWords : List (List ℕ) → (List ℕ → InputContent) → (Option Settings → Described → Type 0) → Type 0
OfWords words content P = P (words_of words) (launch_of words content)

-- What a top call answers. `Of P` says P of the settings that the words give, or of none, and of what they and the inputs describe. `rose` says
-- that the source's count of faults rose. `text` is what is written of a run's record, its report or its summary, and `growth` what the sink did.
pub record IsAnswer (Of : (Option Settings → Described → Type 0) → Type 0) (rose : Type 0) (text : Record → List ℕ) (growth : Growth) (result : Finished) : Type 0 where
  -- Status and line: a refusal with its line, lack of memory with its own, or a run that is over with its text.
  pub words_line : result.status ≡ 2 → Wrote growth words_line
  pub program : result.status ≡ 67 → Of (λ given described. IsProgramRefused described growth)
  pub tree : result.status ≡ 68 → Of (λ given described. IsTreeRefused described growth)
  pub launch_text : result.status ≡ 65 → Of (λ given described. IsTextRefused described growth)
  pub memory : result.status ≡ 70 → Wrote growth memory_line × IfSome result.kept (λ r. r.history ≢ [])
  pub ended : (result.status ≡ 0) ⊎ (result.status ≡ 1) → IsSomeAnd result.kept (HasReported text growth result.status)
  pub stalled : result.status ≡ 71 → IsSomeAnd result.kept (HasStalled text growth)
  pub unwritten : result.status ≡ 69 → FaultsRose growth × IsSomeAnd result.kept (HasFailed text growth)
  -- What is kept: the record of a run that began, with the headline, and what follows from it.
  pub headline : IfSome result.kept IsConfinedRecord
  pub unwritten_stays : IfSome result.kept LeavesUnwritten
  pub kept : IfSome result.kept (λ r. Of (λ given described. IsKept given described r))
  pub none_kept : IsSome result.kept → (result.status ≡ 0) ⊎ (result.status ≡ 1) ⊎ (result.status ≡ 69) ⊎ (result.status ≡ 70) ⊎ (result.status ≡ 71)
  -- If no fault came from the source: memory ran out, or what is described is answered.
  pub complete : ¬ rose → (result.status ≡ 70) ⊎ Of (λ given described. Completes described growth result.status)
