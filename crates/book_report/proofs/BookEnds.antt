-- What the record of a run is that its book says.
use Rattle.std.proofs.Common.{◌≡◌, ◌≢◌, ℕ, Bool, List, [], inl, inr, refl, sym, ap, subst, ◌∙◌}
use Rattle.std.specs.FinMap.{empty, get}
use Rattle.maps.specs.Maps.{get-insert-same}
use Rattle.abi_types.specs.declared.status.Status.TheVariants.{Live}
use Rattle.abi_types.specs.declared.thread.Thread.TheVariants.{Runnable}
use Rattle.input_output.specs.Sink.{grown}
use Rattle.run_types.specs.declared.history.Entry.{Entry}
use Rattle.run_types.specs.declared.launch.Launch.{Launch}
use Rattle.kernel_model.specs.Ends.{NoneLive}
use Rattle.kernel_model.specs.State.{State}
use Rattle.run_model.specs.Legal.{IsRunnable}
use Rattle.run_model.specs.Own.{IsLiveIn}
use Rattle.run_model.specs.World.{World, world}
use Rattle.run_model.proofs.Histories.{world_none, first_state, first_thread}
use Rattle.kernel_cell.specs.Cell.{IsBookOf}
use Rattle.kernel_cell.specs.declared.cell.Book.{Book}
use Rattle.kernel_cell.specs.declared.record.Record.{Record}
use Rattle.book_report.specs.declared.ends.Ending.{Ending}
use Rattle.book_report.specs.declared.ends.Ending.TheVariants as ending
use Rattle.book_report.specs.declared.ends.RunEnd.{RunEnd}
use Rattle.book_report.specs.declared.ends.RunEnd.TheVariants.{Unwritten, Lacking}
use Rattle.book_report.specs.Ends.{IsOver, IsOverSo, IsRecordOf, IsEndOf, reported_end}
use Rattle.book_report.specs.Growth.{Growth, FaultsRose, WroteNothing, WrotePrefix, WroteWhole}
use Rattle.book_report.specs.Shown.{recorded}

-- process 0 is live where there is no entry
first_live : (launch : Launch) → IsLiveIn (world launch []) 0
first_live launch =
    ap (λ (w : World). get w.state.statuses 0) (world_none launch) ∙ ap (λ (S : State). get S.statuses 0) (first_state launch) ∙ get-insert-same empty 0 Live

module _ (book : Book) (all : Bool) (of : IsBookOf book.launch all book) where
  record_is : IsRecordOf book.launch all (recorded book)
  record_is = record { launch_is = refl; legal = of.legal; kept_is = of.kept_is }

  -- a run that has ended or stalled has an entry
  has_entry : (how : Ending) → IsOverSo how book → book.history ≢ []
  has_entry ending.Ended none bare =
      subst NoneLive of.state none 0 (ap (λ (h : List Entry). get (world book.launch h).state.statuses 0) bare ∙ first_live book.launch)
  has_entry ending.Stalled stalled bare =
      let start : IsRunnable (world book.launch book.history).state 0 1 =
      subst (λ (w : World). IsRunnable w.state 0 1) (sym (ap (world book.launch) bare ∙ world_none book.launch)) (first_thread book.launch) in
      stalled.all.1 0 1 Runnable start

  over : (how : Ending) → IsOverSo how book → IsOver book.launch book.history
  over ending.Ended none = inl (subst NoneLive of.state none)
  over ending.Stalled stalled = inr stalled

  module _ (text : Record → List ℕ) where
    reported_as : (how : Ending) → IsOverSo how book → (growth : Growth) → WroteWhole growth (text (recorded book))
        → IsEndOf book.launch all text growth (reported_end how book)
    reported_as ending.Ended none growth wrote = (record_is, subst NoneLive of.state none, ap (λ (S : State). get S.statuses 0) of.state, wrote)
    reported_as ending.Stalled stalled growth wrote = (record_is, stalled, wrote)

    module _ (how : Ending) (is_over : IsOverSo how book) (growth : Growth) where
      pub reported : (end : RunEnd) → end ≡ reported_end how book → (shown : List ℕ) → shown ≡ text (recorded book)
          → WroteWhole growth shown → IsEndOf book.launch all text growth end
      reported end is shown same wrote =
          subst (IsEndOf book.launch all text growth) (sym is) (reported_as how is_over growth (wrote ∙ ap (grown growth.before) same))

      pub unwritten : (rec : Record) → rec ≡ recorded book → (shown : List ℕ) → shown ≡ text (recorded book) → FaultsRose growth
          → WrotePrefix growth shown → IsEndOf book.launch all text growth (Unwritten rec)
      unwritten rec is shown same failed wrote =
          subst (λ (r : Record). IsEndOf book.launch all text growth (Unwritten r)) (sym is)
          (record_is, over how is_over, failed, subst (WrotePrefix growth) same wrote)

      pub unreported : (rec : Record) → rec ≡ recorded book → WroteNothing growth → IsEndOf book.launch all text growth (Lacking rec)
      unreported rec is none =
          subst (λ (r : Record). IsEndOf book.launch all text growth (Lacking r)) (sym is) (record_is, has_entry how is_over, none)
