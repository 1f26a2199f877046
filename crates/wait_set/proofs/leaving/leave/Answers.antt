use Rattle.std.proofs.Common.{is_some, sym, ap}
use Rattle.wait_set.specs.Waits.{is_left, touched}
use Rattle.wait_set.proofs.Tying.{flagged_put, room_for}
use Rattle.wait_set.proofs.leaving.leave.Goals as goal

pub change-requires-clause-room : goal.change-requires-clause-room
change-requires-clause-room c = λ _ none. room_for is_left c.args.threads.now c.args.thread c.args.left.now c.requires.set (ap is_some (sym c.get_mut-waiting.ensures.value)) none

pub returns-clause-set : goal.returns-clause-set
returns-clause-set c =
    flagged_put is_left c.args.threads.now c.args.thread (touched c.get_mut-waiting.result.now) c.args.left.now c.change.new.self c.requires.set
    (ap is_some (sym c.get_mut-waiting.ensures.value)) c.change.ensures.member (c.change.ensures.ascending c.requires.set.ascending) c.change.ensures.room
