use Rattle.rv_interp.proofs.Slots.{all_kept}
use Rattle.guest_process.proofs.guest.Guest.answer_woken.Goals as goal

pub invariant_of-self : goal.invariant_of-self
invariant_of-self c = all_kept c.self.inside.memory c.put_woken.new.memory c.self.inside.code c.put_woken.ensures.code c.self.invariant
