-- The reports of two launches that differ in nothing to which a grant leads.
use Rattle.std.proofs.Common.{◌≡◌, Bool, ◌++◌, List, [], ◌∷◌, ℕ, sym, ap, ◌∙◌, codes}
use Rattle.std.specs.Prelude.{if◌then◌else◌, is_some}
use Rattle.std.specs.FinMap.{get}
use Rattle.std.proofs.lemmas.List.{append_assoc}
use Rattle.run_types.specs.declared.history.Entry.{Entry}
use Rattle.run_types.specs.declared.launch.Launch.{Launch}
use Rattle.kernel_core.specs.Kernel.{is_live}
use Rattle.maps.specs.Maps.{least_key}
use Rattle.kernel_model.specs.State.{State, tree_of, written_in, written_to}
use Rattle.run_model.specs.World.{World, world}
use Rattle.run_report.specs.Denials.{denials_text}
use Rattle.run_report.specs.Report.{asked_history, end_text, report_of, status_text, stream_text, tree_text}
use Rattle.book_report.specs.AlikeReports.{ReportsDifferInTree}
use Rattle.confinement_laws.specs.Alike.{IsSameButBeyond}
use Rattle.confinement_laws.proofs.AlikeRuns.{launches_run_alike}

-- what a report has before the records of the file tree
abbrev front : State → List Entry → List ℕ
front S history = stream_text (codes "stdout") (written_to 1 S) ++ stream_text (codes "stderr") (written_to 2 S) ++ end_text S ++ denials_text history

splits : (S : State) (history : List Entry) (lines : Bool)
    → report_of S history lines ≡ front S history ++ (tree_text (tree_of S) ++ asked_history lines history)
splits S history lines = append_assoc (front S history) (tree_text (tree_of S)) (asked_history lines history)

-- how processes stand is said by their statuses
ends_alike : (S T : State) → S.statuses ≡ T.statuses → end_text S ≡ end_text T
ends_alike S T same =
    λ i. codes "== status " ++ status_text (get (same i) 0) ++ 10 ∷ [] ++ codes "== run "
    ++ (if is_some (least_key (λ _ status. is_live status) (same i)) then codes "stalled" else codes "ended") ++ 10 ∷ []

-- it is of the streams and of how processes stand alone
fronts_alike : (one other : Launch) (v w : World) (history : List Entry) → IsSameButBeyond one other v w → front v.state history ≡ front w.state history
fronts_alike one other v w history same =
    λ i. stream_text (codes "stdout") (written_in (get (same.terms i) 1)) ++ stream_text (codes "stderr") (written_in (get (same.terms i) 2))
    ++ ends_alike v.state w.state same.statuses i ++ denials_text history

pub reports_differ_in_tree : ReportsDifferInTree
reports_differ_in_tree one other history lines begins more beyond legal =
    let same = (launches_run_alike one other history begins more beyond legal).same in
    record {
      before = front (world one history).state history;
      after = asked_history lines history;
      one = splits (world one history).state history lines;
      other =
          splits (world other history).state history lines
          ∙ ap (λ text. text ++ (tree_text (tree_of (world other history).state) ++ asked_history lines history))
          (sym (fronts_alike one other (world one history) (world other history) history same));
    }
