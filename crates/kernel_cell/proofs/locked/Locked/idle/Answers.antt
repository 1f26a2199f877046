use Rattle.std.proofs.Common.{◌≡◌, ℕ, Some, [], ◌∷◌, ◌++◌, refl, sym, ap, subst, ◌∙◌, true≢false}
use Rattle.run_types.specs.declared.history.Entry.{Entry}
use Rattle.std.specs.FinMap.{get}
use Rattle.abi_types.specs.declared.status.Status.TheVariants.{Live}
use Rattle.kernel_model.specs.State.{State}
use Rattle.kernel_model.specs.Waits.{HasDeadlines}
use Rattle.kernel_model.specs.Wakes.{IsStalled}
use Rattle.run_model.specs.Legal.{Fits}
use Rattle.run_model.specs.World.{world}
use Rattle.shared_history.specs.Kept.{Takes}
use Rattle.shared_history.proofs.KeptEntries.{takes_reserved}
use Rattle.kernel_cell.proofs.RecordedSteps.{deadlines_there, kernel_early, log_short, fits_jump, recorded_jump, appends_jump, stalled_there, busy_there, over_there}
use Rattle.kernel_cell.proofs.locked.Locked.idle.Goals as goal

pub idle-requires : goal.idle-requires
idle-requires g c =
    record { deadlines = deadlines_there c.requires.recorded; early = kernel_early c.requires.recorded }

pub stalled-requires : goal.stalled-requires
stalled-requires g c =
    record { deadlines = subst (λ (S : State). HasDeadlines c.args.self.now.constants S) (sym (c.if-idle.ensures.none refl)) (deadlines_there c.requires.recorded) }

pub append-requires-clause-fits : goal.append-requires-clause-fits
append-requires-clause-fits g c =
    let self = c.args.self.now in
    subst (Fits (world g.J.Naming.launch self.keeper.log)) (sym c.idle_entry-entry.ensures)
    (fits_jump c.requires.recorded c.idle.new.self (c.if-idle.ensures.jumps refl) (c.if-idle.ensures.exact.0 refl) c.moment.result c.moment.ensures)

pub append-requires-clause-room : goal.append-requires-clause-room
append-requires-clause-room g c =
    log_short c.requires.recorded

pub returns-then-idle-clause-recorded : goal.returns-then-idle-clause-recorded
returns-then-idle-clause-recorded g c =
    let self = c.args.self.now in
    recorded_jump c.requires.recorded c.idle.new.self (c.if-idle.ensures.jumps refl) (c.if-idle.ensures.exact.0 refl) c.moment.result c.moment.ensures
    c.append.new.self.log (ap (λ k. k.log) c.append.ensures ∙ ap (λ (e : Entry). self.keeper.log ++ e ∷ []) c.idle_entry-entry.ensures) c.take.new.self
    (subst (λ (e : Entry). Takes e self.kept c.take.new.self) c.idle_entry-entry.ensures
    (takes_reserved _ self.kept c.reserve.new.self _ c.reserve.ensures.all c.reserve.ensures.entries c.reserve.ensures.denied
    (record { all_is = c.take.ensures.all; entries_are = c.take.ensures.entries; denied_are = c.take.ensures.denied })))

pub returns-then-idle-clause-idled : goal.returns-then-idle-clause-idled
returns-then-idle-clause-idled g c =
    let self = c.args.self.now in
    appends_jump c.requires.recorded c.idle.new.self (c.if-idle.ensures.jumps refl) (c.if-idle.ensures.exact.0 refl) c.moment.result c.moment.ensures
    c.append.new.self.log (ap (λ k. k.log) c.append.ensures ∙ ap (λ (e : Entry). self.keeper.log ++ e ∷ []) c.idle_entry-entry.ensures)

pub returns-then-stalled-clause-idled : goal.returns-then-stalled-clause-idled
returns-then-stalled-clause-idled g c =
    let self = c.args.self.now in
    stalled_there c.requires.recorded self.keeper.log refl
    (subst (λ (S : State). IsStalled self.constants S) (c.if-idle.ensures.none refl) (c.if-stalled.ensures.exact.0 refl))

pub returns-then-any_live-clause-idled : goal.returns-then-any_live-clause-idled
returns-then-any_live-clause-idled g c =
    let self = c.args.self.now in
    busy_there c.requires.recorded self.keeper.log refl (λ may. true≢false (sym (c.if-idle.ensures.exact.1 may)))
    (λ stalled. true≢false (sym (c.if-stalled.ensures.exact.1 (subst (λ (S : State). IsStalled self.constants S) (sym (c.if-idle.ensures.none refl)) stalled))))

pub returns-else-any_live-clause-idled : goal.returns-else-any_live-clause-idled
returns-else-any_live-clause-idled g c =
    over_there c.requires.recorded c.args.self.now.keeper.log refl
    (λ some. true≢false (sym (c.if-any_live.ensures.live.1 (subst (λ (S : State). (p : ℕ) × (get S.statuses p ≡ Some Live)) (sym (c.if-stalled.ensures.same ∙ c.if-idle.ensures.none refl)) some))))
