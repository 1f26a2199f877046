-- All that is recorded of a legal history: what stands in the tables, what calls read, and what entries do.
use Rattle.std.proofs.Common.{◌≡◌, inl, inr, ℕ, List, ◌∷◌, ◌++◌, Some, sym, subst, ◌∙◌}
use Rattle.std.specs.FinMap.{get}
use Rattle.tree_model.specs.Grants.{MayBegin}
use Rattle.abi_types.specs.declared.call.Call.{Call}
use Rattle.abi_types.specs.declared.descriptor.Descriptor.{Descriptor}
use Rattle.abi_types.specs.declared.who.Who.{Who}
use Rattle.run_types.specs.declared.history.Entry.{Entry}
use Rattle.run_types.specs.declared.launch.Launch.{Launch}
use Rattle.kernel_model.specs.Calls.{need}
use Rattle.kernel_model.specs.Laws.{IsReached, IsReachedByName}
use Rattle.kernel_model.specs.State.{Table, Part}
use Rattle.kernel_model.proofs.Reaches.{sight_is_reached}
use Rattle.run_model.specs.Legal.{Legal}
use Rattle.run_model.specs.World.{world}
use Rattle.run_model.proofs.Histories.{legal_front}
use Rattle.authority_laws.specs.Laws.{IsReachedByHeld, IsReachedByNamed, SeesByHeld, IsRecorded, IsRecordedAt, IsRecordedEntry}
use Rattle.authority_laws.specs.Recorded.{ledger}
use Rattle.authority_laws.specs.Traces.{Traced}
use Rattle.authority_laws.proofs.Bounds.{opens_are_bounded}
use Rattle.authority_laws.proofs.Copies.{duplicates_are_equal, lines_are_exact, replacements_are_equal, rights_are_lowered}
use Rattle.authority_laws.proofs.Deliveries.{receives_are_sent}
use Rattle.authority_laws.proofs.Histories.{ledger_reports, rights_never_grow, sends_are_held}
use Rattle.authority_laws.proofs.NotedSends.{sends_are_noted}
use Rattle.authority_laws.proofs.OpenStays.{opens_stay}
use Rattle.authority_laws.proofs.OpenTargets.{files_come_from_grants, traced_stays}
use Rattle.authority_laws.proofs.SendNumbers.{sends_are_numbered}
use Rattle.authority_laws.proofs.Traces.{held_is_traced}

-- a table's descriptor is there by the ledger
pub tables_are_recorded : (launch : Launch) (history : List Entry) → MayBegin launch.tree launch.grants → Legal launch history → (p n : ℕ) (table : Table) (d : Descriptor)
    → get (world launch history).state.tables p ≡ Some table → get table n ≡ Some d
    → ((ledger launch history).held p n ≡ Some d) × Traced launch history p n d
tables_are_recorded launch history begins legal p n table d there here =
    let recorded : (ledger launch history).held p n ≡ Some d = sym ((ledger_reports launch history begins legal).tables p table there n) ∙ here in
    (recorded, held_is_traced launch history begins legal p n d recorded)

-- ---- what a call may read

module _ (launch : Launch) (history : List Entry) (begins : MayBegin launch.tree launch.grants) (legal : Legal launch history) where
  by_held : (who : Who) (call : Call) (part : Part) (table : Table) → get (world launch history).state.tables who.pid ≡ Some table
      → IsReached (world launch history).state table (need call) part → IsReachedByHeld launch history who.pid (need call) part
  by_held who call part table own r =
      let at = tables_are_recorded launch history begins legal who.pid r.row.fd table r.d own r.there in
      record { row = r.row; asked = r.asked; d = r.d; held = at.0; has = r.has; traced = at.1; reached = r.part }

  by_named : (who : Who) (call : Call) (part : Part) (table : Table) → get (world launch history).state.tables who.pid ≡ Some table
      → IsReachedByName (world launch history).state table call part → IsReachedByNamed launch history who.pid call part
  by_named who call part table own r =
      let at = tables_are_recorded launch history begins legal who.pid r.fd table r.d own r.there in
      record { none = r.none; fd = r.fd; asked = r.asked; d = r.d; held = at.0; traced = at.1; reached = r.part }

  pub sight_is_recorded : SeesByHeld launch history
  sight_is_recorded who call part seen =
      elim (sight_is_reached (world launch history).state who call part seen) [
        | inl own ↦ inl own
        | inr by ↦ elim by.3 [
          | inl needed ↦ inr (inl (by_held who call part by.0 by.1 needed))
          | inr named ↦ inr (inr (by_named who call part by.0 by.1 named))
        ]
      ]

-- ---- each point and each entry of a history

recorded_at : (launch : Launch) (front : List Entry) → Legal launch front → MayBegin launch.tree launch.grants → IsRecordedAt launch front
recorded_at launch front legal begins = record {
  reports = ledger_reports launch front begins legal;
  traced = held_is_traced launch front begins legal;
  granted = files_come_from_grants launch front begins legal;
  stay = traced_stays launch front begins legal;
  noted = sends_are_noted launch front begins legal;
  sees = sight_is_recorded launch front begins legal;
}

recorded_entry : (launch : Launch) (front : List Entry) (e : Entry) (rest : List Entry) → Legal launch (front ++ e ∷ rest)
    → MayBegin launch.tree launch.grants → IsRecordedEntry launch front e
recorded_entry launch front e rest legal begins = record {
  lines = lines_are_exact launch front e rest begins legal;
  copied = duplicates_are_equal launch front e rest begins legal;
  replaced = replacements_are_equal launch front e rest begins legal;
  lowered = rights_are_lowered launch front e rest begins legal;
  opened = opens_are_bounded launch front e rest begins legal;
  stay = opens_stay launch front e rest begins legal;
  never_grows = rights_never_grow launch front e rest begins legal;
  sends = sends_are_held launch front e;
  delivers = receives_are_sent launch front e rest begins legal;
  counts = sends_are_numbered launch front e rest begins legal;
}

pub legal_is_recorded : (launch : Launch) (history : List Entry) → Legal launch history → MayBegin launch.tree launch.grants → IsRecorded launch history
legal_is_recorded launch history legal begins = record {
  points = λ front rest is. recorded_at launch front (legal_front launch front rest (subst (Legal launch) is legal)) begins;
  entries = λ front e rest is. recorded_entry launch front e rest (subst (Legal launch) is legal) begins;
}
