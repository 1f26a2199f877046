-- What is written of a run that is over, by its record.
use Rattle.std.specs.Prelude.{ℕ, Bool, true, List}
use Rattle.kernel_cell.specs.declared.cell.Book.{Book}
use Rattle.kernel_cell.specs.declared.record.Record.{Record}
use Rattle.kernel_model.specs.State.{State}
use Rattle.run_model.specs.World.{world}
use Rattle.run_report.specs.Report.{report_of}
use Rattle.run_report.specs.Summary.{summary_of}
use Rattle.book_report.specs.declared.shown.Shown.{Shown}
use Rattle.book_report.specs.declared.shown.Shown.TheVariants.{Report, Summary}

-- the record of a run that is over
abbrev pub recorded : Book → Record
recorded book = record { launch = book.launch; history = book.history; kept = book.kept }

-- the kernel's state at the end of the record
abbrev pub state_of : Record → State
state_of r = (world r.launch r.history).state

-- the report of the record, with the history's lines or without
abbrev pub record_report : Bool → Record → List ℕ
record_report lines r = report_of (state_of r) r.history lines

-- the summary of the record of a run with so many child processes
abbrev pub record_summary : ℕ → Record → List ℕ
record_summary processes r = summary_of processes (state_of r) r.history

-- whether the history's entries are kept for what is written of a run
abbrev pub keeps_entries : Shown → Bool
keeps_entries (Report lines) = lines
keeps_entries (Summary processes) = true

-- what is written of the record of a run that is over
abbrev pub shown_text : Shown → Record → List ℕ
shown_text (Report lines) r = record_report lines r
shown_text (Summary processes) r = record_summary processes r
