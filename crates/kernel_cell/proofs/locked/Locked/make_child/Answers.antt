use Rattle.std.proofs.Common.{ℕ, [], ◌∷◌, ◌++◌, Option, IsSome, refl, sym, ap, subst, ◌∙◌}
use Rattle.std.specs.FinMap.{get}
use Rattle.call_codec.specs.Arguments.{Encodes}
use Rattle.shared_history.specs.declared.entries.EntryHead.{EntryHead}
use Rattle.shared_history.proofs.KeptEntries.{takes_reserved}
use Rattle.run_model.specs.Own.{one_of}
use Rattle.run_model.specs.World.{Guest, world, registers_of, answered_guest}
use Rattle.kernel_model.specs.Threads.{child_told}
use Rattle.kernel_cell.specs.Acting.{IsForkedOn}
use Rattle.kernel_cell.specs.Handing.{held_after}
use Rattle.kernel_cell.specs.declared.results.Came.TheVariants as came
use Rattle.kernel_cell.proofs.EntryEffects.{call_encoded}
use Rattle.kernel_cell.proofs.RecordedSteps.{kernel_early, log_short, constants_early, covers, live_there, call_runs_there, call_fits, call_recorded}
use Rattle.kernel_cell.proofs.RecordedForks.{told_there, unborn_there, fork_held, fork_came}
use Rattle.kernel_cell.proofs.locked.Locked.make_child.Goals as goal

pub child_guest-requires : goal.child_guest-requires
child_guest-requires g c =
    let live = live_there c.requires.recorded c.args.pid (c.if-not-live.ensures.0 refl) in
    record { thread = (c.requires.asks live).registers }

pub step-answer-requires-clause-runnable : goal.step-answer-requires-clause-runnable
step-answer-requires-clause-runnable g c =
    let live = live_there c.requires.recorded c.args.pid (c.if-not-live.ensures.0 refl) in
    call_runs_there c.requires.recorded (c.requires.asks live)

pub step-answer-requires-clause-early : goal.step-answer-requires-clause-early
step-answer-requires-clause-early g c = kernel_early c.requires.recorded

pub step-answer-requires-clause-epoch : goal.step-answer-requires-clause-epoch
step-answer-requires-clause-epoch g c = constants_early c.requires.recorded

pub answer_fork-requires-clause-thread : goal.answer_fork-requires-clause-thread
answer_fork-requires-clause-thread g c =
    let live = live_there c.requires.recorded c.args.pid (c.if-not-live.ensures.0 refl) in
    subst (λ (guest : Guest). IsSome (get guest.regs c.args.tid)) (sym c.in-Ok-child_guest.ensures.same) (c.requires.asks live).registers

pub answer_fork-requires-clause-encoded : goal.answer_fork-requires-clause-encoded
answer_fork-requires-clause-encoded g c =
    let live = live_there c.requires.recorded c.args.pid (c.if-not-live.ensures.0 refl) in
    let guest = c.args.body.now.guest in
    subst (λ (x : Guest). Encodes x.memory (registers_of x c.args.tid) c.args.call) (sym c.in-Ok-child_guest.ensures.same)
    (guest.left, call_encoded (world g.J.Naming.launch c.args.self.now.keeper.log) c.args.pid c.args.tid c.args.body.now.turns guest c.args.call (c.requires.asks live))

pub append_call-requires-clause-covers : goal.append_call-requires-clause-covers
append_call-requires-clause-covers g c =
    covers c.args.self.now.keeper.held c.args.pid c.head-head.result.pid c.requires.held (ap (λ (h : EntryHead). h.pid) c.head-head.ensures.head)

pub append_call-requires-clause-fits : goal.append_call-requires-clause-fits
append_call-requires-clause-fits g c =
    let live = live_there c.requires.recorded c.args.pid (c.if-not-live.ensures.0 refl) in
    call_fits c.requires.recorded (c.requires.asks live) c.step-answer.result c.step-answer.new.self c.head-head.result c.head-head.ensures.head
    c.step-answer.ensures.step live

pub append_call-requires-clause-room : goal.append_call-requires-clause-room
append_call-requires-clause-room g c = log_short c.requires.recorded

pub returns-clause-recorded : goal.returns-clause-recorded
returns-clause-recorded g c =
    let self = c.args.self.now in
    let live = live_there c.requires.recorded c.args.pid (c.if-not-live.ensures.0 refl) in
    call_recorded c.requires.recorded (c.requires.asks live) c.step-answer.result c.step-answer.new.self c.head-head.result c.head-head.ensures.head
    c.step-answer.ensures.step live c.append_call.new.self.log (ap (λ k. k.log) c.append_call.ensures) c.take_call.new.self
    (takes_reserved _ self.kept c.reserve.new.self _ c.reserve.ensures.all c.reserve.ensures.entries c.reserve.ensures.denied
    (record { all_is = c.take_call.ensures.all; entries_are = c.take_call.ensures.entries; denied_are = c.take_call.ensures.denied }))

pub returns-clause-held : goal.returns-clause-held
returns-clause-held g c =
    let self = c.args.self.now in
    let live = live_there c.requires.recorded c.args.pid (c.if-not-live.ensures.0 refl) in
    let asks = c.requires.asks live in
    let told = told_there g.J.Naming.launch self.keeper.log c.args.pid c.args.tid c.args.body.now.turns c.args.call c.args.body.now.guest asks c.requires.fork
    c.child_told-child.result c.step-answer.result c.child_told-child.ensures in
    ap (λ k. k.held) c.append_call.ensures
    ∙ ap (λ held. one_of (child_told c.args.call c.step-answer.result) ++ held) c.requires.held
    ∙ fork_held c.args.call c.step-answer.result c.args.pid c.child_told-child.result c.in-Ok-child_guest.begun told
    (unborn_there g.J.Naming.launch self.keeper.log c.args.pid c.args.tid c.args.body.now.turns c.args.call c.args.body.now.guest asks c.requires.fork
    self.constants self.kernel c.in-Ok-child_guest.begun c.step-answer.result c.step-answer.new.self c.in-Ok-child_guest.ensures.none c.step-answer.ensures.step)
    ∙ ap (λ (o : Option (ℕ × Guest)). held_after (came.Done o) (c.args.pid ∷ [])) (sym c.zip.ensures)

pub returns-clause-forked : goal.returns-clause-forked
returns-clause-forked g c =
    let self = c.args.self.now in
    let body = c.args.body.now in
    let live = live_there c.requires.recorded c.args.pid (c.if-not-live.ensures.0 refl) in
    let asks = c.requires.asks live in
    subst (λ (o : Option (ℕ × Guest)). IsForkedOn g.J.Naming.launch self.keeper.log c.args.pid c.args.tid body c.args.call
    (record { guest = c.answer_fork.new.self; threads = body.threads; turns = c.head-head.new.turns }) c.append_call.new.self.log (came.Done o))
    (sym c.zip.ensures)
    (fork_came c.requires.recorded asks c.requires.fork c.step-answer.result c.step-answer.new.self c.head-head.result c.head-head.ensures.head
    c.step-answer.ensures.step live c.append_call.new.self.log (ap (λ k. k.log) c.append_call.ensures) c.answer_fork.new.self
    (c.answer_fork.ensures c.args.pid
    ∙ ap (λ (x : Guest). answered_guest c.args.pid x c.args.tid c.args.call c.step-answer.result) c.in-Ok-child_guest.ensures.same)
    c.child_told-child.result c.in-Ok-child_guest.begun body.threads c.head-head.new.turns
    (told_there g.J.Naming.launch self.keeper.log c.args.pid c.args.tid body.turns c.args.call body.guest asks c.requires.fork
    c.child_told-child.result c.step-answer.result c.child_told-child.ensures)
    c.in-Ok-child_guest.ensures.some
    (unborn_there g.J.Naming.launch self.keeper.log c.args.pid c.args.tid body.turns c.args.call body.guest asks c.requires.fork
    self.constants self.kernel c.in-Ok-child_guest.begun c.step-answer.result c.step-answer.new.self c.in-Ok-child_guest.ensures.none c.step-answer.ensures.step)
    c.head-head.ensures.none)
