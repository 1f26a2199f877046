-- A report is written of what is kept: of the denied calls, and of the entries where they are asked for.
use Rattle.std.proofs.Common.{◌≡◌, ℕ, Bool, true, false, List, refl, sym, ap, subst, ◌∙◌}
use Rattle.std.specs.Prelude.{Result, IfOk}
use Rattle.std.proofs.lemmas.Result.{IfOk-weaker}
use Rattle.denied_calls.specs.DeniedCalls.{denied_calls}
use Rattle.run_types.specs.declared.history.Entry.{Entry}
use Rattle.kernel_model.specs.State.{State}
use Rattle.shared_history.specs.Kept.{kept_of, IsKeptOf}
use Rattle.shared_history.specs.declared.kept.Kept.{Kept}
use Rattle.run_report.specs.HistoryLines.{history_text}
use Rattle.run_report.specs.Report.{AreOf, asked_history, report_of}
use Rattle.run_report.specs.Summary.{summary_of}
use Rattle.kernel_cell.specs.Cell.{IsBookOf}
use Rattle.kernel_cell.specs.declared.cell.Book.{Book}
use Rattle.book_report.specs.Shown.{keeps_entries, record_report, record_summary, recorded, shown_text}
use Rattle.book_report.specs.declared.shown.Shown.{Shown}
use Rattle.book_report.specs.declared.shown.Shown.TheVariants.{Report, Summary}

-- what is kept of a history is what its report is written of
pub kept_are_of : (log : List Entry) (all : Bool) (kept : Kept) → IsKeptOf all log kept → AreOf log all kept.denied.items kept.entries.items
kept_are_of log all kept k = record {
  denied_are = k.denied_are;
  entries_are = λ asked. k.entries_are ∙ ap (λ a. kept_of a log) asked;
}

same_asked : (log other : List Entry) (all : Bool) → kept_of all log ≡ kept_of all other → asked_history all log ≡ asked_history all other
same_asked log other true same = ap history_text same
same_asked log other false same = refl

pub report_needs_kept : (S : State) (log other : List Entry) (all : Bool) → denied_calls log ≡ denied_calls other → kept_of all log ≡ kept_of all other
    → report_of S log all ≡ report_of S other all
report_needs_kept S log other all denied kept = rw (denied, same_asked log other all kept) refl

-- ---- what is shown of a run, by its book

report_shown : {E : Type 0} (lines : Bool) (book : Book) → IsBookOf book.launch lines book → (r : Result (List ℕ) E)
    → ((history : List Entry) → AreOf history lines book.kept.denied.items book.kept.entries.items → IfOk r (λ text. text ≡ report_of book.kernel history lines))
    → IfOk r (λ text. text ≡ record_report lines (recorded book))
report_shown lines book of r makes =
    IfOk-weaker r (λ text. text ≡ report_of book.kernel book.history lines) (λ text. text ≡ record_report lines (recorded book))
    (λ text is. is ∙ ap (λ (S : State). report_of S book.history lines) of.state)
    (makes book.history (kept_are_of book.history lines book.kept of.kept_is))

summary_shown : {E : Type 0} (processes : ℕ) (book : Book) → IsBookOf book.launch true book → (r : Result (List ℕ) E)
    → ((history : List Entry) → AreOf history true book.kept.denied.items book.kept.entries.items → IfOk r (λ text. text ≡ summary_of processes book.kernel history))
    → IfOk r (λ text. text ≡ record_summary processes (recorded book))
summary_shown processes book of r makes =
    IfOk-weaker r (λ text. text ≡ summary_of processes book.kernel book.history) (λ text. text ≡ record_summary processes (recorded book))
    (λ text is. is ∙ ap (λ (S : State). summary_of processes S book.history) of.state)
    (makes book.history (kept_are_of book.history true book.kept of.kept_is))

module _ {E : Type 0} (shown : Shown) (book : Book) (of : IsBookOf book.launch (keeps_entries shown) book) (r : Result (List ℕ) E) where
  pub report_text : (lines : Bool) → shown ≡ Report lines
      → ((history : List Entry) → AreOf history lines book.kept.denied.items book.kept.entries.items → IfOk r (λ text. text ≡ report_of book.kernel history lines))
      → IfOk r (λ text. text ≡ shown_text shown (recorded book))
  report_text lines is makes =
      subst (λ (s : Shown). IfOk r (λ text. text ≡ shown_text s (recorded book))) (sym is)
      (report_shown lines book (subst (λ (s : Shown). IsBookOf book.launch (keeps_entries s) book) is of) r makes)

  pub summary_text : (processes : ℕ) → shown ≡ Summary processes
      → ((history : List Entry) → AreOf history true book.kept.denied.items book.kept.entries.items → IfOk r (λ text. text ≡ summary_of processes book.kernel history))
      → IfOk r (λ text. text ≡ shown_text shown (recorded book))
  summary_text processes is makes =
      subst (λ (s : Shown). IfOk r (λ text. text ≡ shown_text s (recorded book))) (sym is)
      (summary_shown processes book (subst (λ (s : Shown). IsBookOf book.launch (keeps_entries s) book) is of) r makes)
