-- The report of a run, as a text.
use Rattle.std.specs.Prelude.{◌≡◌, ℕ, Bool, true, ◌-◌, ◌==◌, ◌||◌, ◌++◌, List, [], ◌∷◌, Option, None, Some, codes, length, slice_index, if◌then◌else◌}
use Rattle.std.specs.FinMap.{get}
use Rattle.std.specs.Fmt.{decimal}
use Rattle.abi_base.specs.declared.signal.Signal.{Signal}
use Rattle.abi_types.specs.declared.status.Status.{Status}
use Rattle.abi_types.specs.declared.status.Status.TheVariants.{Live, Exit, Killed}
use Rattle.abi_base.specs.Signal.{number_of, name_of}
use Rattle.run_types.specs.declared.history.Entry.{Entry}
use Rattle.denied_calls.specs.DeniedCalls.{denied_calls}
use Rattle.denied_calls.specs.declared.denied_call.DeniedCall.{DeniedCall}
use Rattle.kernel_core.specs.Kernel.{any_live}
use Rattle.kernel_model.specs.State.{State, tree_of, written_to}
use Rattle.tree_document.specs.Printing.{listing, printed}
use Rattle.tree_model.specs.Tree.{Tree}
use Rattle.run_report.specs.Denials.{denials_text}
use Rattle.run_report.specs.HistoryLines.{history_text}

-- the line feed that ends a last line without one
abbrev pub ending : List ℕ → List ℕ
ending bytes = if (length bytes == 0) || (slice_index bytes (length bytes - 1) == 10) then [] else 10 ∷ []

-- the line above what was written to a standard stream, with its length
abbrev pub stream_line : List ℕ → List ℕ → List ℕ
stream_line name bytes = codes "== " ++ (name ++ (codes " " ++ decimal (length bytes)))

-- what was written to a standard stream, under its line
abbrev pub stream_text : List ℕ → List ℕ → List ℕ
stream_text name bytes = stream_line name bytes ++ (10 ∷ (bytes ++ ending bytes))

-- the end of a process by a signal, in words
abbrev pub signal_text : Signal → List ℕ
signal_text signal = codes "signal " ++ (decimal (number_of signal) ++ (codes " " ++ name_of signal))

-- how a process stands, in words
abbrev pub status_text : Option Status → List ℕ
status_text None = codes "absent"
status_text (Some Live) = codes "live"
status_text (Some (Exit code)) = codes "exit " ++ decimal code
status_text (Some (Killed signal)) = signal_text signal

-- whether the run ended, or stalled with a process still live
abbrev pub run_text : State → List ℕ
run_text S = if any_live S then codes "stalled" else codes "ended"

-- how process 0 stands, and whether the run ended
abbrev pub end_text : State → List ℕ
end_text S = codes "== status " ++ status_text (get S.statuses 0) ++ 10 ∷ [] ++ codes "== run " ++ run_text S ++ 10 ∷ []

-- the records of a file tree, one for each name, under a line with their number
unfoldable pub tree_text : Tree → List ℕ
tree_text tree = codes "== tree " ++ (decimal (length (listing tree)) ++ (10 ∷ printed tree))

-- the history's lines, where they are asked for
abbrev pub asked_history : Bool → List Entry → List ℕ
asked_history lines history = if lines then history_text history else []

-- the whole report
abbrev pub report_of : State → List Entry → Bool → List ℕ
report_of S history lines =
    stream_text (codes "stdout") (written_to 1 S)
    ++ stream_text (codes "stderr") (written_to 2 S)
    ++ end_text S
    ++ denials_text history
    ++ tree_text (tree_of S)
    ++ asked_history lines history

-- what a report is written of: the denied calls are the history's, and so are the entries where lines are asked for
pub record AreOf (history : List Entry) (lines : Bool) (denied : List DeniedCall) (entries : List Entry) : Type 0 where
  pub denied_are : denied ≡ denied_calls history
  pub entries_are : lines ≡ true → entries ≡ history
