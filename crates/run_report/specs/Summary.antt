-- The summary of a run whose program was generated, as a text.
use Rattle.std.specs.Prelude.{ℕ, ◌++◌, List, [], ◌∷◌, codes, length}
use Rattle.std.specs.FinMap.{get}
use Rattle.std.specs.Fmt.{decimal}
use Rattle.run_types.specs.declared.history.Entry.{Entry}
use Rattle.denied_calls.specs.DeniedCalls.{denied_calls}
use Rattle.kernel_model.specs.State.{State, tree_of}
use Rattle.run_report.specs.Counts.{calls_count, number_lines}
use Rattle.run_report.specs.Report.{run_text, status_text}
use Rattle.run_report.specs.TreeSizes.{bytes_count, files_count}

-- for how many child processes the program was generated
abbrev pub generated_line : ℕ → List ℕ
generated_line processes = codes "generated " ++ (decimal processes ++ 10 ∷ [])

-- how many calls the history has
abbrev pub calls_line : ℕ → List ℕ
calls_line count = codes "calls " ++ (decimal count ++ 10 ∷ [])

-- how many calls were denied
abbrev pub denials_line : ℕ → List ℕ
denials_line count = codes "denials " ++ (decimal count ++ 10 ∷ [])

-- how many files with a name the tree has, and how many bytes they hold
abbrev pub tree_line : ℕ → ℕ → List ℕ
tree_line files bytes = codes "tree " ++ (decimal files ++ (codes " " ++ (decimal bytes ++ 10 ∷ [])))

-- how process 0 stands, and whether the run ended or stalled
abbrev pub end_lines : State → List ℕ
end_lines S = codes "status " ++ status_text (get S.statuses 0) ++ 10 ∷ [] ++ codes "run " ++ run_text S ++ 10 ∷ []

-- The summary of a run with so many child processes, whose kernel stands so and which has this history.
abbrev pub summary_of : ℕ → State → List Entry → List ℕ
summary_of processes S history =
    generated_line processes
    ++ calls_line (calls_count history)
    ++ number_lines history
    ++ denials_line (length (denied_calls history))
    ++ tree_line (files_count (tree_of S)) (bytes_count (tree_of S))
    ++ end_lines S
