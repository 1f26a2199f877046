use Rattle.std.specs.Prelude.{is_ok}
use Rattle.std.proofs.Common.{◌++◌, IsSome, sym, ap, subst, ◌∙◌}
use Rattle.std.specs.FinMap.{get}
use Rattle.call_codec.specs.Arguments.{Encodes}
use Rattle.call_codec.proofs.Puts.{may_map_for}
use Rattle.kernel_core.specs.Waiting.{caller}
use Rattle.run_model.specs.Own.{one_of}
use Rattle.run_model.specs.World.{Guest, world, registers_of, called_guest}
use Rattle.kernel_cell.specs.Results.{unless_lost}
use Rattle.kernel_cell.proofs.EntryEffects.{call_encoded}
use Rattle.kernel_cell.proofs.Programs.{begun_or_lost, may_begin}
use Rattle.shared_history.specs.declared.entries.EntryHead.{EntryHead}
use Rattle.kernel_cell.proofs.RecordedSteps.{kernel_early, log_short, constants_early, covers, few_there, call_runs_there, other_there, number_there, call_fits, call_recorded, call_came, no_child, place_for}
use Rattle.kernel_cell.proofs.locked.Locked.call.Goals as goal

pub number_for-next-requires : goal.number_for-next-requires
number_for-next-requires g c = record { few = few_there c.requires.recorded c.args.pid }

pub make_room-requires : goal.make_room-requires
make_room-requires g c =
    let guest = c.args.body.now.guest in
    may_map_for guest.memory (registers_of guest c.args.tid) guest.left c.args.call
    (call_encoded (world g.J.Naming.launch c.args.self.now.keeper.log) c.args.pid c.args.tid c.args.body.now.turns guest c.args.call c.requires.asks)

pub step-answer-requires-clause-runnable : goal.step-answer-requires-clause-runnable
step-answer-requires-clause-runnable g c = call_runs_there c.requires.recorded c.requires.asks

pub step-answer-requires-clause-early : goal.step-answer-requires-clause-early
step-answer-requires-clause-early g c = kernel_early c.requires.recorded

pub step-answer-requires-clause-epoch : goal.step-answer-requires-clause-epoch
step-answer-requires-clause-epoch g c = constants_early c.requires.recorded

pub answer-requires-clause-thread : goal.answer-requires-clause-thread
answer-requires-clause-thread g c =
    subst (λ (guest : Guest). IsSome (get guest.regs c.args.tid)) (sym c.in-Ok-make_room.ensures.without) c.requires.asks.registers

pub answer-requires-clause-encoded : goal.answer-requires-clause-encoded
answer-requires-clause-encoded g c =
    subst (λ (guest : Guest). Encodes guest.memory (registers_of guest c.args.tid) c.args.call) (sym c.in-Ok-make_room.ensures.without) (
      c.args.body.now.guest.left,
      call_encoded (world g.J.Naming.launch c.args.self.now.keeper.log) c.args.pid c.args.tid c.args.body.now.turns c.args.body.now.guest c.args.call c.requires.asks,
    )

pub answer-requires-clause-other : goal.answer-requires-clause-other
answer-requires-clause-other g c =
    other_there c.requires.recorded c.requires.asks c.number_for-next.result c.in-Ok-make_room.room.thread c.make_room.new.self.regs
    c.number_for-next.ensures c.in-Ok-make_room.ensures.room.thread c.in-Ok-make_room.ensures.number

pub answer-requires-clause-number : goal.answer-requires-clause-number
answer-requires-clause-number g c =
    number_there c.requires.recorded c.requires.asks c.step-answer.result c.step-answer.new.self c.number_for-next.result c.in-Ok-make_room.room.thread
    c.step-answer.ensures.step c.number_for-next.ensures c.in-Ok-make_room.ensures.number

pub begin-begun-requires : goal.begin-begun-requires
begin-begun-requires g c =
    let self = c.args.self.now in
    let guest = c.args.body.now.guest in
    may_begin guest.memory (registers_of guest c.args.tid) guest.left self.constants self.kernel (caller self.kernel c.args.pid c.args.tid) c.args.call
    c.step-answer.result c.step-answer.new.self
    (call_encoded (world g.J.Naming.launch self.keeper.log) c.args.pid c.args.tid c.args.body.now.turns guest c.args.call c.requires.asks)
    c.step-answer.ensures.step

pub append_call-requires-clause-covers : goal.append_call-requires-clause-covers
append_call-requires-clause-covers g c =
    covers c.args.self.now.keeper.held c.args.pid c.head-head.result.pid c.requires.held (ap (λ (h : EntryHead). h.pid) c.head-head.ensures.head)

pub append_call-requires-clause-fits : goal.append_call-requires-clause-fits
append_call-requires-clause-fits g c =
    call_fits c.requires.recorded c.requires.asks c.step-answer.result c.step-answer.new.self c.head-head.result c.head-head.ensures.head
    c.step-answer.ensures.step c.requires.live

pub append_call-requires-clause-room : goal.append_call-requires-clause-room
append_call-requires-clause-room g c = log_short c.requires.recorded

pub keep_place-requires : goal.keep_place-requires
keep_place-requires g c =
    place_for c.args.call c.step-answer.result c.number_for-next.result c.args.body.now.threads c.make_place.new.threads c.in-Ok.placed
    (is_ok c.begin-begun.result) c.live.result c.after_call-after.result c.unless_lost-after.result c.in-Ok.ensures.ok c.after_call-after.ensures
    (c.unless_lost-after.ensures ∙ ap (unless_lost (is_ok c.begin-begun.result)) c.if_live.ensures)

pub returns-clause-recorded : goal.returns-clause-recorded
returns-clause-recorded g c =
    call_recorded c.requires.recorded c.requires.asks c.step-answer.result c.step-answer.new.self c.head-head.result c.head-head.ensures.head
    c.step-answer.ensures.step c.requires.live c.append_call.new.self.log (ap (λ k. k.log) c.append_call.ensures) c.take_call.new.self
    (record { all_is = c.take_call.ensures.all; entries_are = c.take_call.ensures.entries; denied_are = c.take_call.ensures.denied })

pub returns-clause-held : goal.returns-clause-held
returns-clause-held g c =
    ap (λ k. k.held) c.append_call.ensures
    ∙ ap (λ o. one_of o ++ c.args.self.now.keeper.held) (no_child c.args.call c.step-answer.result c.requires.plain) ∙ c.requires.held

pub returns-clause-came : goal.returns-clause-came
returns-clause-came g c =
    let self = c.args.self.now in
    let guest = c.args.body.now.guest in
    let answered = c.answer.ensures ∙ ap (λ (x : Guest). called_guest x c.args.tid c.args.call c.step-answer.result) c.in-Ok-make_room.ensures.without in
    call_came c.requires.recorded c.requires.asks c.step-answer.result c.step-answer.new.self c.head-head.result c.head-head.ensures.head
    c.step-answer.ensures.step c.requires.live c.append_call.new.self.log (ap (λ k. k.log) c.append_call.ensures) c.begin-begun.new.self c.begin-begun.result
    (begun_or_lost c.begin-begun.result self.constants self.kernel (caller self.kernel c.args.pid c.args.tid) c.args.call c.step-answer.result
    c.step-answer.new.self c.args.pid c.args.tid guest c.answer.new.self c.begin-begun.new.self c.requires.plain c.step-answer.ensures.step answered
    c.begin-begun.ensures.ok)
    c.begin-begun.ensures.only c.unless_lost-after.result c.after_call-after.result c.live.result c.number_for-next.result c.args.body.now.threads
    c.keep_place.new.threads c.make_place.new.threads c.head-head.new.turns c.in-Ok.placed
    (c.unless_lost-after.ensures ∙ ap (unless_lost (is_ok c.begin-begun.result)) c.if_live.ensures) c.after_call-after.ensures c.number_for-next.ensures
    c.live.ensures c.head-head.ensures.none c.in-Ok.ensures.ok c.keep_place.ensures
