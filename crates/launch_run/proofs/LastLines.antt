-- The line behind the end of a run, and the counts of faults of both.
--     rose_until      a count that rose in the first part of a call rose in the call
--     ends_reported      a run's end with the line behind it
use Rattle.std.proofs.Common.{◌≡◌, ◌⊎◌, ◌+◌, ◌^◌, ◌<◌, ◌≤◌, ℕ, Bool, List, inl, inr, sym, ap, subst, ◌∙◌, arith}
use Rattle.std.specs.Prelude.{Option}
use Rattle.std.proofs.lemmas.Bool.{cases_lt}
use Rattle.input_output.specs.Sink.{grown, GrewByPrefix}
use Rattle.input_output.specs.Source.{Rose}
use Rattle.input_output.proofs.OutsideLaws.{rose_since}
use Rattle.run_types.specs.declared.launch.Launch.{Launch}
use Rattle.launch_reading.specs.Refusal.{memory_line}
use Rattle.book_report.specs.declared.ends.RunEnd.{RunEnd}
use Rattle.book_report.specs.declared.ends.RunEnd.TheVariants.{Reported, StallReported, Unwritten, NotBegun, Lacking}
use Rattle.kernel_cell.specs.declared.record.Record.{Record}
use Rattle.book_report.specs.Ends.{IsEndOf}
use Rattle.book_report.specs.Growth.{Wrote, WroteNothing, growth}
use Rattle.launch_run.specs.TopCall.{IsReportedEnd, ReportsEnd}

by_cases : (first before after : ℕ) → first ≤ before → before + 1 ≡ 2 ^ 64 → (before < after) ⊎ (after ≤ before) → before ≤ after → Rose first after
by_cases first before after early last (inl more) late = inl (omega (arith, early, more))
by_cases first before after early last (inr less) late = inr (omega (arith, last, less, late))

pub rose_until : (first before after : ℕ) → first ≤ before → before ≤ after → Rose first before → Rose first after
rose_until first before after early late (inl more) = inl (omega (arith, more, late))
rose_until first before after early late (inr last) = by_cases first before after early last (cases_lt before after) late

module _ {S : Type 0} (launch : Launch) (all : Bool) (text : Record → List ℕ) (written : S → Option (List ℕ)) (faults : S → ℕ) (first middle last : S) (early : faults first ≤ faults middle) (late : faults middle ≤ faults last) where
  wrote : WroteNothing (growth written faults first middle) → Wrote (growth written faults middle last) memory_line → Wrote (growth written faults first last) memory_line
  wrote same (inl whole) = inl (whole ∙ ap (λ b. grown b memory_line) same)
  wrote same (inr (rose, part)) =
      inr (rose_since (faults first) (faults middle) (faults last) early rose, subst (λ (b : Option (List ℕ)). GrewByPrefix b (written last) memory_line) same part)

  pub ends_reported : (e : RunEnd) → IsEndOf launch all text (growth written faults first middle) e → ReportsEnd (growth written faults middle last) e
      → IsReportedEnd launch all text (growth written faults first last) e
  ends_reported (Reported r status) is stays = (is.0, is.1, is.2, stays ∙ is.3)
  ends_reported (StallReported r) is stays = (is.0, is.1, stays ∙ is.2)
  ends_reported (Unwritten r) is stays = (
    is.0,
    is.1,
    rose_until (faults first) (faults middle) (faults last) early late is.2,
    subst (λ (a : Option (List ℕ)). GrewByPrefix (written first) a (text r)) (sym stays) is.3,
  )
  ends_reported NotBegun is line = wrote is line
  ends_reported (Lacking r) is line = (is.0, is.1, wrote is.2 line)
