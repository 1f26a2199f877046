use Rattle.std.proofs.Common.{◌≢◌, [], ◌∷◌, ◌++◌, sym, ap, subst, ◌∙◌}
use Rattle.abi_types.specs.declared.status.Status.TheVariants.{Live}
use Rattle.run_types.specs.declared.history.Entry.{Entry}
use Rattle.run_model.specs.Legal.{Fits}
use Rattle.run_model.specs.World.{world}
use Rattle.shared_history.specs.Kept.{Takes}
use Rattle.kernel_cell.specs.Results.{status_of}
use Rattle.kernel_cell.specs.declared.results.EndBy.{EndBy}
use Rattle.kernel_cell.specs.declared.results.EndBy.TheVariants as end_by
use Rattle.kernel_cell.proofs.RecordedSteps.{kernel_early, log_short, end_fits, end_recorded, end_came}
use Rattle.kernel_cell.proofs.locked.Locked.end.Goals as goal

pub end-requires-clause-early : goal.end-requires-clause-early
end-requires-clause-early g c = kernel_early c.requires.recorded

not_live : (how : EndBy) → status_of how ≢ Live
not_live (end_by.Trap signal) e = cc
not_live end_by.Expire e = cc

pub end-requires-clause-dead : goal.end-requires-clause-dead
end-requires-clause-dead g c = λ live. not_live c.args.how (sym c.status_of.ensures ∙ live)

pub append-requires-clause-fits : goal.append-requires-clause-fits
append-requires-clause-fits g c =
    subst (Fits (world g.J.Naming.launch c.args.self.now.keeper.log)) (sym c.with-entry.ensures)
    (end_fits c.requires.recorded c.args.pid c.args.tid c.args.turns.now c.args.how c.status_of.result c.status_of.ensures c.act_of.result c.act_of.ensures
    c.end.new.self c.end.ensures.end c.head.result c.head.ensures.head c.requires.live c.requires.asks)

pub append-requires-clause-room : goal.append-requires-clause-room
append-requires-clause-room g c = log_short c.requires.recorded

pub returns-clause-recorded : goal.returns-clause-recorded
returns-clause-recorded g c =
    let self = c.args.self.now in
    end_recorded c.requires.recorded c.args.pid c.args.tid c.args.turns.now c.args.how c.status_of.result c.status_of.ensures c.act_of.result c.act_of.ensures
    c.end.new.self c.end.ensures.end c.head.result c.head.ensures.head c.requires.live c.requires.asks
    c.append.new.self.log (ap (λ k. k.log) c.append.ensures ∙ ap (λ (e : Entry). self.keeper.log ++ e ∷ []) c.with-entry.ensures) c.take.new.self
    (subst (λ (e : Entry). Takes e self.kept c.take.new.self) c.with-entry.ensures
    (record { all_is = c.take.ensures.all; entries_are = c.take.ensures.entries; denied_are = c.take.ensures.denied }))

pub returns-clause-ended : goal.returns-clause-ended
returns-clause-ended g c =
    end_came c.requires.recorded c.args.pid c.args.tid c.args.turns.now c.args.how c.status_of.result c.status_of.ensures c.act_of.result c.act_of.ensures
    c.end.new.self c.end.ensures.end c.head.result c.head.ensures.head c.requires.live c.requires.asks
    c.append.new.self.log (ap (λ k. k.log) c.append.ensures ∙ ap (λ (e : Entry). c.args.self.now.keeper.log ++ e ∷ []) c.with-entry.ensures)
