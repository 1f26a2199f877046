-- Where a run is ended or stalled no entry fits, what an entry leaves of other processes, and how an act ends its process.
use Rattle.std.proofs.Common.{◌≡◌, ◌≢◌, ◌⊎◌, inl, ℕ, true, false, Contains, List, Some, refl, sym, ap, subst, ◌∙◌}
use Rattle.std.specs.Ordering.{nat_cmp}
use Rattle.std.specs.FinMap.{empty, get, get-empty}
use Rattle.abi_types.specs.declared.constants.Constants.{Constants}
use Rattle.abi_base.specs.declared.signal.Signal.{Signal}
use Rattle.abi_base.specs.declared.signal.Signal.TheVariants.{Xcpu}
use Rattle.abi_types.specs.declared.status.Status.{Status}
use Rattle.abi_types.specs.declared.status.Status.TheVariants.{Live, Killed}
use Rattle.abi_types.specs.declared.who.Who.{Who}
use Rattle.abi_types.specs.declared.thread.Thread.TheVariants.{Runnable}
use Rattle.run_types.specs.declared.history.Act.{Act}
use Rattle.run_types.specs.declared.history.Act.TheVariants as act
use Rattle.run_types.specs.declared.history.Entry.{Entry}
use Rattle.run_types.specs.declared.launch.Launch.{Launch}
use Rattle.kernel_model.specs.Laws.{HasSameProcess, IsKilled}
use Rattle.kernel_model.specs.State.{State}
use Rattle.kernel_model.specs.Step.{end_state}
use Rattle.kernel_model.specs.Wakes.{AllParked, IsStalled}
use Rattle.kernel_model.specs.Valid.{IsValid}
use Rattle.kernel_model.proofs.Waking.{wake_keeps, wake_keeps_made, wake_moves_only}
use Rattle.run_model.proofs.Births.{unborn_is_other}
use Rattle.kernel_model.proofs.Steps.{step_moves_only, step_keeps_made, end_ends_only, end_keeps_made}
use Rattle.kernel_model.proofs.Tests.{none_is_no, not_true}
use Rattle.maps.specs.Maps.{get-insert-other}
use Rattle.run_model.specs.Ends.{Ended, Stalled, EndsBy}
use Rattle.run_model.specs.Legal.{IsAnswered, FitsAct, Fits}
use Rattle.run_model.specs.Own.{born, is_idle, Made}
use Rattle.run_model.specs.World.{World, Guest, start_world, guest_of, called_state, woken_state, turned, acted, who_of, apply, world}
use Rattle.run_model.proofs.Histories.{apply_is}

-- ---- the run is ended or stalled

-- where time jumps there are threads of a live process
idle_parks : (constants : Constants) (S : State) (who : Who) (guest : Guest) (ts : List ℕ) (a : Act) → is_idle a ≡ true → FitsAct constants S who guest ts a
    → AllParked S
idle_parks constants S who guest ts (act.Call call given) idle fits = absurd (not_true idle)
idle_parks constants S who guest ts (act.Wake call given answered) idle fits = absurd (not_true idle)
idle_parks constants S who guest ts (act.Trap signal) idle fits = absurd (not_true idle)
idle_parks constants S who guest ts act.Expire idle fits = absurd (not_true idle)
idle_parks constants S who guest ts act.Idle idle fits = fits.1.all

pub ended_is_final : (launch : Launch) (history : List Entry) (e : Entry) → Ended launch history → Fits (world launch history) e → ⊥
ended_is_final launch history e ended fits =
    let w = world launch history in
    elim (is_idle e.act) as (λ b. is_idle e.act ≡ b → ⊥) [
      | true ↦ λ idle. (
          let all = idle_parks w.constants w.state (who_of w.state e) (guest_of w e.pid) e.turns e.act idle fits.act in
          ended all.0.0 all.0.4)
      | false ↦ λ done. ended e.pid (fits.live done)
    ] refl

-- an act that fits is of a thread that runs or is ready, or there is a deadline
acts_unstalled : (constants : Constants) (S : State) (who : Who) (guest : Guest) (ts : List ℕ) (a : Act) → IsStalled constants S
    → FitsAct constants S who guest ts a → ⊥
acts_unstalled constants S who guest ts (act.Call call given) stalled fits = stalled.all.1 who.pid who.tid Runnable fits.0.0.3.0
acts_unstalled constants S who guest ts (act.Wake call given answered) stalled fits = not_true (sym (stalled.none who.pid who.tid) ∙ fits.1.0)
acts_unstalled constants S who guest ts (act.Trap signal) stalled fits = stalled.all.1 who.pid who.tid Runnable fits.0.3.0
acts_unstalled constants S who guest ts act.Expire stalled fits = stalled.all.1 who.pid who.tid Runnable fits.0.1
acts_unstalled constants S who guest ts act.Idle stalled fits = none_is_no fits.1.until (sym stalled.least ∙ fits.1.least)

pub stalled_is_final : (launch : Launch) (history : List Entry) (e : Entry) → Stalled launch history → Fits (world launch history) e → ⊥
stalled_is_final launch history e stalled fits =
    let w = world launch history in acts_unstalled w.constants w.state (who_of w.state e) (guest_of w e.pid) e.turns e.act stalled fits.act

pub killed_is_not_live : (signal : Signal) → Killed signal ≢ Live
killed_is_not_live signal e = cc

-- ---- other processes

-- an act that fits changes nothing that another process has of its own in the kernel's state, unless it makes that, or the release after it
-- kills the process
acted_process : (w : World) (who : Who) (guest : Guest) (ts : List ℕ) (a : Act) (q : ℕ) → IsValid w.state → FitsAct w.constants w.state who guest ts a → q ≢ who.pid
    → ¬ Contains (born a) q → HasSameProcess (acted w who a).state w.state q ⊎ IsKilled w.state (acted w who a).state q
acted_process w who guest ts (act.Call call given) q valid fits n unborn =
    (step_moves_only w.constants w.state who call given (called_state w.constants w.state who call given) fits.1).others q n
    (unborn_is_other w.constants w.state who call given (called_state w.constants w.state who call given) q fits.1 unborn)
acted_process w who guest ts (act.Wake call given answered) q valid fits n unborn =
    (wake_moves_only w.constants w.state who call given answered (woken_state w.constants w.state who call given answered) fits.1.1).others
    (wake_keeps w.state who call answered valid fits.0.1).3 q n
acted_process w who guest ts (act.Trap signal) q valid fits n unborn = (end_ends_only w.state who.pid (Killed signal) (killed_is_not_live signal)).others q n
acted_process w who guest ts act.Expire q valid fits n unborn = (end_ends_only w.state who.pid (Killed Xcpu) (killed_is_not_live Xcpu)).others q n
acted_process w who guest ts act.Idle q valid fits n unborn = inl (refl, refl, refl)

pub apply_process : (w : World) (e : Entry) (q : ℕ) → IsValid w.state → Fits w e → q ≢ e.pid → ¬ Contains (born e.act) q
    → HasSameProcess (apply w e).state w.state q ⊎ IsKilled w.state (apply w e).state q
apply_process w e q valid fits n unborn =
    subst (λ (v : World). HasSameProcess v.state w.state q ⊎ IsKilled w.state v.state q) (sym (apply_is w e))
    (acted_process (turned w e.pid e.turns) (who_of w.state e) (guest_of w e.pid) e.turns e.act q valid fits.act n unborn)

-- an act that fits leaves each process made that was made
acted_made : (w : World) (who : Who) (guest : Guest) (ts : List ℕ) (a : Act) (q : ℕ) → FitsAct w.constants w.state who guest ts a → Made w q
    → Made (acted w who a) q
acted_made w who guest ts (act.Call call given) q fits made =
    step_keeps_made w.constants w.state who call given (called_state w.constants w.state who call given) q fits.1 made
acted_made w who guest ts (act.Wake call given answered) q fits made =
    wake_keeps_made w.constants w.state who call given answered (woken_state w.constants w.state who call given answered) q fits.1.1 made
acted_made w who guest ts (act.Trap signal) q fits made = end_keeps_made w.state who.pid (Killed signal) q made
acted_made w who guest ts act.Expire q fits made = end_keeps_made w.state who.pid (Killed Xcpu) q made
acted_made w who guest ts act.Idle q fits made = made

pub apply_made : (w : World) (e : Entry) (q : ℕ) → Fits w e → Made w q → Made (apply w e) q
apply_made w e q fits made =
    subst (λ (v : World). Made v q) (sym (apply_is w e))
    (acted_made (turned w e.pid e.turns) (who_of w.state e) (guest_of w e.pid) e.turns e.act q fits.act made)

-- ---- the end of a process

pub acted_end : (w : World) (who : Who) (a : Act) (status : Status) → EndsBy a status → acted w who a ≡ record w { state = end_state w.state who.pid status }
acted_end w who (act.Call call given) status by = absurd by
acted_end w who (act.Wake call given answered) status by = absurd by
acted_end w who (act.Trap signal) status by = ap (λ (s : Status). record w { state = end_state w.state who.pid s }) (sym by)
acted_end w who act.Expire status by = ap (λ (s : Status). record w { state = end_state w.state who.pid s }) (sym by)
acted_end w who act.Idle status by = absurd by

-- the world after an entry whose act ends its process with this status
pub apply_end : (w : World) (e : Entry) (status : Status) → EndsBy e.act status → apply w e ≡ record (turned w e.pid e.turns) { state = end_state w.state e.pid status }
apply_end w e status by = apply_is w e ∙ acted_end (turned w e.pid e.turns) (who_of w.state e) e.act status by

-- the kernel answers nothing to an act that ends its process from outside
pub end_is_answered : (constants : Constants) (S : State) (who : Who) (a : Act) (status : Status) → EndsBy a status → IsAnswered constants S who a
end_is_answered constants S who (act.Call call given) status by = absurd by
end_is_answered constants S who (act.Wake call given answered) status by = absurd by
end_is_answered constants S who (act.Trap signal) status by = tt
end_is_answered constants S who act.Expire status by = tt
end_is_answered constants S who act.Idle status by = absurd by

-- no act ends its process with the status of a live one
pub ends_not_live : (a : Act) (status : Status) → EndsBy a status → status ≢ Live
ends_not_live (act.Call call given) status by = absurd by
ends_not_live (act.Wake call given answered) status by = absurd by
ends_not_live (act.Trap signal) status by = λ e. cc
ends_not_live act.Expire status by = λ e. cc
ends_not_live act.Idle status by = absurd by

-- no process but process 0 is live at the start
pub start_only : (launch : Launch) (q : ℕ) → q ≢ 0 → get (start_world launch).state.statuses q ≢ Some Live
unfolding start_world
start_only launch q n live = none_is_no Live (sym (get-insert-other empty 0 Live q n ∙ get-empty nat_cmp q) ∙ live)
