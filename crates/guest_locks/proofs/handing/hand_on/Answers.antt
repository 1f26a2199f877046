use Rattle.std.proofs.Common.{sym}
use Rattle.guest_locks.proofs.Handed.{handed_none, word_none}
use Rattle.guest_locks.proofs.handing.hand_on.Goals as goal

pub returns-in_default-clause-threads : goal.returns-in_default-clause-threads
returns-in_default-clause-threads c = sym (handed_none c.args.lock c.args.threads.now (sym c.in_default.ensures))

pub returns-in_default-clause-word : goal.returns-in_default-clause-word
returns-in_default-clause-word c = sym (word_none c.args.lock c.args.threads.now (sym c.in_default.ensures))
