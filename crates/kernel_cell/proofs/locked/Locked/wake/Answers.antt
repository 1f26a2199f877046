use Rattle.std.proofs.Common.{ap}
use Rattle.shared_history.specs.declared.entries.EntryHead.{EntryHead}
use Rattle.kernel_cell.proofs.RecordedSteps.{deadlines_there, kernel_early, log_short, constants_early, covers, wake_can, wake_few, same_given, wake_fits, wake_recorded, wake_came}
use Rattle.kernel_cell.proofs.locked.Locked.wake.Goals as goal

pub given-given-requires : goal.given-given-requires
given-given-requires g c = record { thread = c.requires.asks.registers }

pub wake-requires-clause-deadlines : goal.wake-requires-clause-deadlines
wake-requires-clause-deadlines g c = deadlines_there c.requires.recorded

pub wake-requires-clause-early : goal.wake-requires-clause-early
wake-requires-clause-early g c = kernel_early c.requires.recorded

pub wake-requires-clause-epoch : goal.wake-requires-clause-epoch
wake-requires-clause-epoch g c = constants_early c.requires.recorded

pub answer_woken-requires-clause-thread : goal.answer_woken-requires-clause-thread
answer_woken-requires-clause-thread g c = c.requires.asks.registers

pub answer_woken-requires-clause-waits : goal.answer_woken-requires-clause-waits
answer_woken-requires-clause-waits g c = wake_can c.requires.recorded c.requires.asks c.in-Done.call c.in-Done.ensures.kept

pub answer_woken-requires-clause-few : goal.answer_woken-requires-clause-few
answer_woken-requires-clause-few g c = wake_few c.requires.recorded c.requires.asks c.in-Done.call c.in-Done.ensures.kept

pub append_call-requires-clause-covers : goal.append_call-requires-clause-covers
append_call-requires-clause-covers g c =
    covers c.args.self.now.keeper.held c.args.pid c.head-head.result.pid c.requires.held (ap (λ (h : EntryHead). h.pid) c.head-head.ensures.head)

pub append_call-requires-clause-fits : goal.append_call-requires-clause-fits
append_call-requires-clause-fits g c =
    let given_is = same_given c.args.body.now.guest c.args.tid c.in-Some.kept.now c.in-Done.call _ c.given-given.result c.in-Some.ensures
    c.in-Done.ensures.kept c.given-given.ensures in
    wake_fits c.requires.recorded c.requires.asks c.in-Done.call c.in-Done.ensures.kept c.given-given.result given_is c.in-Done.answer
    c.wake.new.self c.head-head.result c.head-head.ensures.head c.in-Done.ensures.ready c.in-Done.ensures.woken c.requires.live

pub append_call-requires-clause-room : goal.append_call-requires-clause-room
append_call-requires-clause-room g c = log_short c.requires.recorded

pub returns-in-Done-clause-recorded : goal.returns-in-Done-clause-recorded
returns-in-Done-clause-recorded g c =
    let given_is = same_given c.args.body.now.guest c.args.tid c.in-Some.kept.now c.in-Done.call _ c.given-given.result c.in-Some.ensures
    c.in-Done.ensures.kept c.given-given.ensures in
    wake_recorded c.requires.recorded c.requires.asks c.in-Done.call c.in-Done.ensures.kept c.given-given.result given_is c.in-Done.answer
    c.wake.new.self c.head-head.result c.head-head.ensures.head c.in-Done.ensures.ready c.in-Done.ensures.woken c.requires.live
    c.append_call.new.self.log (ap (λ k. k.log) c.append_call.ensures) c.take_call.new.self
    (record { all_is = c.take_call.ensures.all; entries_are = c.take_call.ensures.entries; denied_are = c.take_call.ensures.denied })

pub returns-in-Done-clause-came : goal.returns-in-Done-clause-came
returns-in-Done-clause-came g c =
    let given_is = same_given c.args.body.now.guest c.args.tid c.in-Some.kept.now c.in-Done.call _ c.given-given.result c.in-Some.ensures
    c.in-Done.ensures.kept c.given-given.ensures in
    wake_came c.requires.recorded c.requires.asks c.in-Done.call c.in-Done.ensures.kept c.given-given.result given_is c.in-Done.answer
    c.wake.new.self c.head-head.result c.head-head.ensures.head c.in-Done.ensures.ready c.in-Done.ensures.woken c.requires.live
    c.append_call.new.self.log (ap (λ k. k.log) c.append_call.ensures) c.answer_woken.new.self c.answer_woken.ensures
    c.if_live.result c.after_wake-after.result c.live.result c.args.body.now.threads c.head-head.new.turns c.if_live.ensures c.after_wake-after.ensures
    c.live.ensures c.head-head.ensures.none
