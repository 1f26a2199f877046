-- A run that begins: the kernel's state is that of no entry, and what stands behind the lock is recorded.
use Rattle.std.proofs.Common.{◌≡◌, Bool, List, [], sym, ap, subst, ◌∙◌}
use Rattle.abi_types.specs.declared.constants.Constants.{Constants}
use Rattle.atomic_table.specs.Seated.{TableId}
use Rattle.atomic_table.specs.Table.{Me}
use Rattle.run_types.specs.declared.history.Entry.{Entry}
use Rattle.run_types.specs.declared.launch.Launch.{Launch}
use Rattle.kernel_model.specs.Start.{start_state}
use Rattle.kernel_model.specs.State.{State}
use Rattle.call_codec.specs.Bounded.{IsBounded}
use Rattle.run_model.specs.World.{World, world}
use Rattle.run_model.proofs.Histories.{world_none, first_state, legal_none}
use Rattle.kernel_cell.specs.Cell.{HasBegun}
use Rattle.shared_history.specs.Kept.{IsKeptOf}
use Rattle.shared_history.specs.Passes.{IsSeen}
use Rattle.kernel_cell.specs.Recorded.{IsRecorded}
use Rattle.shared_history.specs.declared.kept.Kept.{Kept}
use Rattle.shared_history.specs.declared.rule.View.{View}
use Rattle.shared_history.proofs.MadeProcesses.{first_made}

-- the launch's start is the state of no entry
pub started : (launch : Launch) (kernel : State) → kernel ≡ start_state launch.tree launch.grants launch.stdin → kernel ≡ (world launch []).state
started launch kernel is = is ∙ sym (first_state launch) ∙ sym (ap (λ (w : World). w.state) (world_none launch))

pub recorded_first : (launch : Launch) (all : Bool) (log : List Entry) (kernel : State) (constants : Constants) (kept : Kept) → IsBounded launch → log ≡ []
    → kernel ≡ (world launch []).state → constants ≡ launch.constants → IsKeptOf all [] kept
    → IsRecorded launch all log kernel constants kept
recorded_first launch all log kernel constants kept bounded empty state same none =
    subst (λ (h : List Entry). IsRecorded launch all h kernel constants kept) (sym empty) (record {
      bounded = bounded;
      legal = legal_none launch;
      state = state;
      constants_are = same;
      kept_is = none;
    })

-- process 0 has seen that there is no entry
pub first_seen : (launch : Launch) (log : List Entry) → log ≡ [] → IsSeen launch 0 log
first_seen launch log empty =
    subst (IsSeen launch 0) (sym empty) (record { legal = legal_none launch; made = first_made launch })

-- a run that has begun is recorded under each name of its launch
pub begun_recorded : (launch named : Launch) (all : Bool) (log : List Entry) (kernel : State) (constants : Constants) (kept : Kept) (table at : TableId)
    (key : Launch) (me : Me Entry View) → HasBegun launch table at key me kernel kept → launch ≡ named → log ≡ [] → constants ≡ launch.constants
    → kept.all ≡ all → IsRecorded named all log kernel constants kept
begun_recorded launch named all log kernel constants kept table at key me begun same empty constants_are all_is =
    subst (λ (l : Launch). IsRecorded l all log kernel constants kept) same
    (recorded_first launch all log kernel constants kept begun.bounded empty begun.state constants_are
    (subst (λ (a : Bool). IsKeptOf a [] kept) all_is begun.none))
