use Rattle.std.proofs.Common.{sym, ap, ◌∙◌}
use Rattle.run_model.specs.World.{left_regs}
use Rattle.guest_process.proofs.Rooms.{kept_made, kept_none}
use Rattle.guest_process.specs.Room.{without_thread}
use Rattle.guest_process.proofs.guest.keep_threads.Goals as goal

pub returns-then-makes_thread : goal.returns-then-makes_thread
returns-then-makes_thread c =
    kept_made c.args.regs.now c.args.tid c.args.call.now c.args.answer.now c.args.thread c.requires.thread (sym c.if-makes_thread.ensures)
    (c.requires.number (sym c.if-makes_thread.ensures))

pub returns : goal.returns
returns c =
    c.leave.ensures ∙ ap (left_regs c.ends_caller.result c.args.tid) c.undo.ensures
    ∙ kept_none (without_thread c.args.thread c.args.regs.now) c.args.tid c.args.call.now c.args.answer.now c.ends_caller.result
    (sym c.if-makes_thread.ensures) c.ends_caller.ensures
