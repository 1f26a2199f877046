use Rattle.rv_interp.proofs.Slots.{all_kept}
use Rattle.guest_process.proofs.guest.forget_where.Goals as goal

pub returns-else-may_change : goal.returns-else-may_change
returns-else-may_change c = λ m n h keeps. all_kept m n c.args.code.now (keeps c.if-may_change.false) h
